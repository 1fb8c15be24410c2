use Rattle.std.proofs.Common.{◌<◌, ◌∙◌, ◌++◌, ◌∷◌, [], ℕ, List, length, map, take, sym, ap, arith}
use Rattle.csv.specs.Records.{fields_of}
use Rattle.dict_value.specs.declared.value.Field.{Field}
use Rattle.dict_value.specs.declared.value.Field.TheVariants as field
use Rattle.row_text.proofs.CsvReads.{all-fields, more-fields, there}
use Rattle.row_text.proofs.csv_row.fields_from.Goals as goal

pub loop-text-smaller : goal.loop-text-smaller
loop-text-smaller c =
    let lt : c.loop-text.at < length (fields_of c.args.row.now) = there _ c.loop-text.at c.in-Some.text.now c.in-Some.ensures.value in
    omega arith

pub loop-text-preserved : goal.loop-text-preserved
loop-text-preserved c =
    let texts = fields_of c.args.row.now in
    let lt : c.loop-text.at < length texts = there texts c.loop-text.at c.in-Some.text.now c.in-Some.ensures.value in (
      omega arith,
      c.in_ok-push.ensures.ok ∙ ap (λ (fs : List Field). fs ++ field.Text c.in_ok-text.text ∷ []) c.loop-text.invariant.1
          ∙ ap (λ (t : List ℕ). map field.Text (take c.loop-text.at texts) ++ field.Text t ∷ []) c.in_ok-text.ensures
          ∙ sym (more-fields texts c.loop-text.at c.in-Some.text.now c.in-Some.ensures.value),
    )

pub returns : goal.returns
returns c = c.loop-text.invariant.1 ∙ all-fields (fields_of c.args.row.now) c.loop-text.at c.in_default.ensures.value
