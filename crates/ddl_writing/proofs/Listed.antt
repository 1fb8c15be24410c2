-- A text for each number, one behind another.
use Rattle.std.proofs.Common.{◌≡◌, ◌+◌, ◌++◌, ◌∙◌, ℕ, List, [], ◌∷◌, ap, sym, arith}
use Rattle.std.specs.List.{flat_map, range_with_len}
use Rattle.std.proofs.lemmas.Grind.{flat_map-append}
use Rattle.std.proofs.lemmas.List.{append-nil, append_assoc}
use Rattle.dict_schema.proofs.ShapePlaces.{range-more}

-- the texts of one number more
next_text : (f : ℕ → List ℕ) (n : ℕ)
    → flat_map f (range_with_len 0 (n + 1)) ≡ flat_map f (range_with_len 0 n) ++ f n
next_text f n =
    let same : 0 + n ≡ n = omega arith in
    ap (flat_map f) (range-more 0 n) ∙ flat_map-append f (range_with_len 0 n) ((0 + n) ∷ [])
    ∙ ap (λ (k : ℕ). flat_map f (range_with_len 0 n) ++ (f k ++ [])) same
    ∙ ap (λ (t : List ℕ). flat_map f (range_with_len 0 n) ++ t) (append-nil (f n))

pub more_text : (f : ℕ → List ℕ) (before out new : List ℕ) (n : ℕ) → out ≡ before ++ flat_map f (range_with_len 0 n)
    → new ≡ out ++ f n → new ≡ before ++ flat_map f (range_with_len 0 (n + 1))
more_text f before out new n e h =
    h ∙ ap (λ (t : List ℕ). t ++ f n) e ∙ append_assoc before (flat_map f (range_with_len 0 n)) (f n)
    ∙ ap (λ (t : List ℕ). before ++ t) (sym (next_text f n))
