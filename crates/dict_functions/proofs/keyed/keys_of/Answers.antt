use Rattle.std.proofs.Common.{◌∙◌, sym}
use Rattle.dict_functions.proofs.AskedLines.{few-lines}
use Rattle.dict_functions.proofs.FetchedCells.{key-types-some}
use Rattle.dict_functions.proofs.keyed.keys_of.Goals as goal

pub rows_from-requires-clause-some : goal.rows_from-requires-clause-some
rows_from-requires-clause-some c = λ none.
    key-types-some c.args.d.now c.requires.sound (sym (c.as_slice.ensures ∙ c.in-Ok.ensures) ∙ none)

pub rows_from-requires-clause-few : goal.rows_from-requires-clause-few
rows_from-requires-clause-few c = few-lines c.args.q.now c.requires.lookup.0
