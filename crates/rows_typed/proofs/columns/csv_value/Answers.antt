use Rattle.std.proofs.Common.{◌≡◌, ◌∙◌, ℕ, List, Ok, ap, subst, sym}
use Rattle.dict_value.specs.Values.{text_reading}
use Rattle.dict_value.specs.declared.value.ColType.{ColType}
use Rattle.dict_value.specs.declared.value.Field.{Field}
use Rattle.dict_value.specs.declared.value.Field.TheVariants as field
use Rattle.dict_value.specs.declared.value.Value.TheVariants.{S}
use Rattle.rows_typed.specs.Shapes.{seen_text, value_at}
use Rattle.rows_typed.proofs.columns.csv_value.Goals as goal

pub returns-in-Str-Some : goal.returns-in-Str-Some
unfolding text_reading
returns-in-Str-Some c =
    let column = c.args.column.now in
    let seen = c.in-Str-Some.field-0-1.now in
    let found = subst (λ (t : List ℕ). seen_text column.ty.base column.ty.nullable t ≡ field.Text seen) c.as_slice.ensures c.in-Str-Some.ensures.text in
    sym (ap (λ (f : Field). value_at column f) found
    ∙ ap (λ (t : ColType). text_reading t seen) c.in-Str-Some.is-0
    ∙ ap (λ (t : List ℕ). Ok (S t)) (c.in-Str-Some.ensures.same c.in-Str-Some.is-0 ∙ c.as_slice.ensures))
