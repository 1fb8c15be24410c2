-- The last digit that is kept is no zero.
use Rattle.std.proofs.Common.{◌≡◌, ◌-◌, ◌+◌, ◌<◌, ◌≤◌, ℕ, List, [], ◌∷◌, ◌++◌, length, take, get_or, ap, sym, ◌∙◌, arith}
use Rattle.std.proofs.lemmas.List.{take_more}
use Rattle.dict_value.specs.Decimals.{without_end_zeros}
use Rattle.dict_value.proofs.LastDigits.{end_zero, end_digit, no_digits}
use Rattle.dict_value.proofs.writing.without_zeros.Goals as goal
use Rattle.dict_value.proofs.writing.without_zeros.Goals.{then-loop-kept-test+else-digits-kept-eq48, else-loop-kept-test}

-- the last digit that is kept
last_kept : (ds : List ℕ) (kept : ℕ) → 0 < kept → kept ≤ length ds → take kept ds ≡ take (kept - 1) ds ++ get_or ds (kept - 1) 0 ∷ []
last_kept ds kept low high =
    let here : kept - 1 + 1 ≡ kept = omega arith in
    ap (λ k. take k ds) (sym here) ∙ take_more ds (kept - 1) 0 (omega arith)

pub loop-kept-preserved : goal.loop-kept-preserved
loop-kept-preserved c =
    let ds = c.args.digits.now in
    let front = take (c.loop-kept.kept - 1) ds in
    let more = last_kept ds c.loop-kept.kept (omega arith) c.loop-kept.invariant.within in
    record {
      within = omega arith;
      same = sym (end_zero front) ∙ ap without_end_zeros (ap (λ d. front ++ d ∷ []) (sym c.if-digits-kept-eq48.true) ∙ sym more) ∙ c.loop-kept.invariant.same;
    }

pub returns : goal.returns
returns c =
    let ds = c.args.digits.now in
    let kept = c.loop-kept.kept in
    elim c.loop-kept-test.branch [
      | then-loop-kept-test+else-digits-kept-eq48 w ↦
          let more = last_kept ds kept (omega arith) c.loop-kept.invariant.within in
          more ∙ sym (end_digit (take (kept - 1) ds) (get_or ds (kept - 1) 0) w.if-digits-kept-eq48.false) ∙ ap without_end_zeros (sym more) ∙ c.loop-kept.invariant.same
      | else-loop-kept-test w ↦
          let none : kept ≡ 0 = omega arith in
          ap (λ k. take k ds) none ∙ sym no_digits ∙ ap (λ k. without_end_zeros (take k ds)) (sym none) ∙ c.loop-kept.invariant.same
    ]
