use Rattle.std.proofs.Common.{◌≡◌, ◌<◌, ◌+◌, ◌++◌, ◌∷◌, ◌∙◌, [], ℕ, List, length, take, get_or, ap, sym, subst, arith}
use Rattle.std.proofs.lemmas.Bool.{eqb-false}
use Rattle.dict_value.specs.declared.value.Field.{Field}
use Rattle.dict_value.specs.declared.value.Field.TheVariants as field
use Rattle.row_text.specs.CsvRow.{IsCsvRow}
use Rattle.dict_value.specs.declared.letters.TheConstants.{COMMA}
use Rattle.row_text.proofs.CsvPlain.{Splits, split-last, split-more, split-none}
use Rattle.row_text.proofs.Reached.{suffix}
use Rattle.row_text.proofs.csv_row.split_plain.Goals as goal
use Rattle.row_text.proofs.csv_row.split_plain.Goals.{else-run-left-via-then-run-left+else-left-run-ne-COMMA, else-run-left-via-else-run-left}

pub fields-init : goal.fields-init
fields-init c =
    let some : length c.args.line.now ≡ 0 → ⊥ = eqb-false _ _ (sym c.if-is_empty.ensures) in
    ([], rw c.new-fields.ensures (split-none c.args.line.now (omega arith) c.if-line-eq-CARRIAGE_RETURN.false c.if-line-eq-LINE_FEED.false))

pub returns-then-run-left-2 : goal.returns-then-run-left-2
returns-then-run-left-2 c =
    let left = suffix c.args.line.now c.fields.at in
    let run = c.plain_len-run.result in
    let pushed : c.push.new.self ≡ c.fields.fields ++ field.Text (take run left) ∷ [] = c.in_ok-push.ensures.ok ∙ ap (λ (t : List ℕ). c.fields.fields ++ field.Text t ∷ []) c.in_ok-text.ensures in
    subst (IsCsvRow c.args.line.now) (sym pushed)
    (split-last c.args.line.now c.fields.at run c.fields.fields c.fields.invariant.0 c.fields.invariant.1 c.if-run-left-2.true c.if-line.false c.plain_len-run.ensures.plain)

pub fields-preserved : goal.fields-preserved
fields-preserved c =
    let left = suffix c.args.line.now c.fields.at in
    let run = c.plain_len-run.result in
    let lt : run < length left = omega (arith, c.plain_len-run.ensures.within, c.if-run-left-2.false) in
    let pushed : c.push.new.self ≡ c.fields.fields ++ field.Text (take run left) ∷ [] = c.in_ok-push.ensures.ok ∙ ap (λ (t : List ℕ). c.fields.fields ++ field.Text t ∷ []) c.in_ok-text.ensures in
    let here : get_or left run 0 ≡ COMMA = elim c.else-run-left.branch [
      | else-run-left-via-then-run-left+else-left-run-ne-COMMA w ↦ w.if-left-run-ne-COMMA.false
      | else-run-left-via-else-run-left w ↦ absurd (omega (arith, lt, w.if-run-left.false))
    ] in (
      c.fields.invariant.0 ++ take run left ∷ [],
      subst (λ (fs : List Field). Splits c.args.line.now (c.fields.at + run + 1) fs (c.fields.invariant.0 ++ take run left ∷ [])) (sym pushed)
          (split-more c.args.line.now c.fields.at run c.fields.fields c.fields.invariant.0 c.fields.invariant.1 lt here c.plain_len-run.ensures.plain),
    )
