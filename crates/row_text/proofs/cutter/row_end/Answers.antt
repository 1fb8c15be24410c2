use Rattle.std.proofs.Common.{◌≡◌, ◌<◌, ◌+◌, ◌++◌, ◌∷◌, ◌∙◌, [], ℕ, List, length, take, get_or, sym, ap, inl, inr, arith, append_assoc}
use Rattle.std.proofs.lemmas.List.{take_more}
use Rattle.row_text.proofs.CutSteps.{open-push}
use Rattle.row_text.proofs.cutter.row_end.Goals as goal

pub loop-place-preserved : goal.loop-place-preserved
loop-place-preserved c row opened e =
    let i = c.loop-place.place in
    let xs = c.args.piece.now in
    let before = c.loop-place.invariant row opened e in
    let lt : i < length xs = omega arith in
    let step : row ++ take (i + 1) xs ≡ (row ++ take i xs) ++ get_or xs i 0 ∷ [] =
    ap (λ (t : List ℕ). row ++ t) (take_more xs i 0 lt) ∙ sym (append_assoc row (take i xs) (get_or xs i 0 ∷ [])) in
    rw step (
      open-push c.args.rule (row ++ take i xs) (get_or xs i 0) before.0
          (λ is. elim c.else-b-eq-LINE_FEED.either [ inl both ↦ sym before.1 ∙ both.1 | inr other ↦ absurd (other is) ]),
      c.inside_after-inside.ensures _ before.1,
    )
