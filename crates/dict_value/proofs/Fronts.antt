-- A front of a list that stays.
use Rattle.std.proofs.Common.{◌≡◌, ℕ, List, ◌++◌, length, take, drop, ap, sym, ◌∙◌, arith, length-append}
use Rattle.std.proofs.Math.Seq.{take-append_seam}
use Rattle.std.proofs.lemmas.List.{take-append-drop, take-append-le}

-- where a longer front stays, the shorter one does
pub front_stays : (a b c : List ℕ) → take (length (a ++ b)) c ≡ a ++ b → take (length a) c ≡ a
front_stays a b c h =
    let rest = drop (length (a ++ b)) c in
    let whole : (a ++ b) ++ rest ≡ c = ap (λ l. l ++ rest) (sym h) ∙ take-append-drop (length (a ++ b)) c in
    ap (take (length a)) (sym whole) ∙ take-append-le (length a) (a ++ b) rest (omega (arith, length-append a b)) ∙ take-append_seam a b
