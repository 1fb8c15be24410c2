use Rattle.std.proofs.Common.{◌≡◌, ◌∙◌, List, Ok, length, arith}
use Rattle.std.proofs.lemmas.Slice.Zip.{AllZip-long}
use Rattle.dict_schema.specs.declared.definition.FunctionDef.{FunctionDef}
use Rattle.dict_value.specs.Values.{FitsColumn}
use Rattle.dict_value.specs.declared.value.Value.{Value}
use Rattle.wire_text.specs.declared.request.Asked.{Asked}
use Rattle.dict_functions.specs.Calls.{AreCallArguments, AreGiven, IsCallLine, argument_types}
use Rattle.dict_functions.specs.Keys.{ReadsAs}
use Rattle.dict_functions.proofs.AskedLines.{few-lines, one-line}
use Rattle.dict_functions.proofs.SentRows.{zip-second}
use Rattle.dict_functions.proofs.calls.answer_function.Goals as goal

-- there is a value for each line
value-count : (f : FunctionDef) (q : Asked) (rows : List (List Value)) (values : List Value) → AreCallArguments f q (Ok rows)
    → AreGiven f rows values → length values ≡ length q.lines
value-count f q rows values are given =
    AllZip-long (λ (row : List Value) v. FitsColumn f.returns v) rows values given
    ∙ AllZip-long (ReadsAs (argument_types f)) q.lines rows are.read

pub each_line-requires-clause-takes : goal.each_line-requires-clause-takes
each_line-requires-clause-takes c =
    let f = c.args.f.now in
    let given = c.requires.given in
    zip-second (λ (row : List Value) v. FitsColumn f.returns v) (FitsColumn f.returns) (λ row v fits. fits) given.0 c.args.values.now given.2

pub each_line-requires-clause-few : goal.each_line-requires-clause-few
each_line-requires-clause-few c =
    let given = c.requires.given in
    omega (arith, few-lines c.args.q.now c.requires.call.0, value-count c.args.f.now c.args.q.now given.0 c.args.values.now given.1 given.2)

pub reply_of-requires : goal.reply_of-requires
reply_of-requires c = λ single.
    let f = c.args.f.now in
    let q = c.args.q.now in
    let given = c.requires.given in
    AllZip-long (IsCallLine f) c.args.values.now c.in-Ok.lines c.in-Ok.ensures.made
    ∙ value-count f q given.0 c.args.values.now given.1 given.2 ∙ one-line q c.requires.call.0 single
