use Rattle.std.proofs.Common.{◌≢◌, ◌∷◌, ◌∙◌, [], List, map, refl, sym}
use Rattle.dict_schema.specs.declared.definition.Arg.{Arg}
use Rattle.dict_functions.proofs.AskedLines.{few-lines}
use Rattle.dict_functions.proofs.SoundColumns.{arguments-some}
use Rattle.dict_functions.proofs.calls.rows_of.Goals as goal

types-some : (arguments : List Arg) → arguments ≢ [] → map (λ a. a.ty) arguments ≢ []
types-some [] some = absurd (some refl)
types-some (a ∷ arguments) some = λ e. absurd (cc)

pub rows_from-requires-clause-some : goal.rows_from-requires-clause-some
rows_from-requires-clause-some c = λ none.
    types-some c.args.f.now.args (arguments-some c.args.f.now c.requires.sound) (sym (c.as_slice.ensures ∙ c.in-Ok.ensures) ∙ none)

pub rows_from-requires-clause-few : goal.rows_from-requires-clause-few
rows_from-requires-clause-few c = few-lines c.args.q.now c.requires.call.0
