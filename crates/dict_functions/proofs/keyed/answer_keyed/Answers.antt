use Rattle.std.proofs.Common.{◌∙◌, List}
use Rattle.std.proofs.lemmas.Slice.Zip.{AllZip-long}
use Rattle.cache_layout.specs.Fetching.{FitsReply}
use Rattle.dict_value.specs.declared.value.FetchedRow.{FetchedRow}
use Rattle.dict_value.specs.declared.value.Value.{Value}
use Rattle.dict_functions.specs.Keyed.{IsKeyedLine}
use Rattle.dict_functions.proofs.AskedLines.{one-line}
use Rattle.dict_functions.proofs.KeyedTexts.{few-rows, row-count}
use Rattle.dict_functions.proofs.SentRows.{zip-second}
use Rattle.dict_functions.proofs.keyed.answer_keyed.Goals as goal

pub keyed_lines-requires-clause-few : goal.keyed_lines-requires-clause-few
keyed_lines-requires-clause-few c =
    let given = c.requires.rows in
    few-rows c.args.d.now c.args.q.now c.requires.lookup given.0 c.args.rows.now given.1 given.2

pub keyed_lines-requires-clause-fit : goal.keyed_lines-requires-clause-fit
keyed_lines-requires-clause-fit c =
    let d = c.args.d.now in
    let given = c.requires.rows in
    zip-second (λ (key : List Value) (fetched : FetchedRow). FitsReply d fetched.row) (λ (fetched : FetchedRow). FitsReply d fetched.row)
    (λ key fetched fits. fits) given.0 c.args.rows.now given.2

pub reply_of-requires : goal.reply_of-requires
reply_of-requires c = λ single.
    let d = c.args.d.now in
    let q = c.args.q.now in
    let given = c.requires.rows in
    AllZip-long (IsKeyedLine d q) c.args.rows.now c.in-Ok.lines c.in-Ok.ensures
    ∙ row-count d q given.0 c.args.rows.now given.1 given.2 ∙ one-line q c.requires.lookup.0 single
