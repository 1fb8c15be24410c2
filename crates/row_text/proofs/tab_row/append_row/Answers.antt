use Rattle.std.proofs.Common.{◌≡◌, ◌<◌, ◌+◌, ◌++◌, ◌∷◌, ◌∙◌, [], ℕ, List, length, take, sym, ap, arith}
use Rattle.std.proofs.lemmas.List.{length-take-le, take_more}
use Rattle.dict_value.specs.declared.value.Field.{Field}
use Rattle.row_text.specs.TabRow.{field_text}
use Rattle.row_text.proofs.Written.{text-first, text-more}
use Rattle.row_text.proofs.tab_row.append_row.Goals as goal
use Rattle.row_text.proofs.tab_row.append_row.Goals.{then-place-gt0+in_ok-push, else-place-gt0}

pub loop-place-preserved : goal.loop-place-preserved
loop-place-preserved c =
    let i = c.loop-place.place in
    let fields = c.args.fields.now in
    let lt : i < length fields = omega arith in
    let f = c.index-fields-place.result in
    let front = take i fields in
    let long : length front ≡ i = length-take-le i fields (omega arith) in
    let more : take (i + 1) fields ≡ front ++ f ∷ [] = take_more fields i f lt ∙ ap (λ (x : Field). front ++ x ∷ []) (sym c.index-fields-place.is) in
    let text = c.in_ok-append_field.ensures.ok in
    rw more (elim c.if-place-gt0.branch [
      | then-place-gt0+in_ok-push w ↦
          text-more c.args.out.now c.loop-place.out _ f front (omega arith) c.loop-place.invariant
          (text ∙ ap (λ (t : List ℕ). t ++ field_text f) (w.out-is ∙ w.in_ok-push.ensures.ok))
      | else-place-gt0 w ↦
          text-first c.args.out.now c.loop-place.out _ f front (omega arith) c.loop-place.invariant
          (text ∙ ap (λ (t : List ℕ). t ++ field_text f) w.out-is)
    ])
