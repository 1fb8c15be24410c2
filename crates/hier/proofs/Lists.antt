-- Lemmas on lists of numbers.
use Rattle.std.specs.Prelude.{Contains}
use Rattle.std.specs.List.{slice_get}
use Rattle.std.specs.List.Sorted.{IsStrictlyIncreasing}
use Rattle.std.proofs.Common.{◌≡◌, ℕ, ◌<◌, ◌≤◌, List, length, get_or, Some, inl, inr, refl, ap, arith, sym, ◌∙◌, subst}
use Rattle.std.proofs.lemmas.Bool.{cases_lt}
use Rattle.std.proofs.lemmas.List.Kept.{AllPairs-from_increasing}
use Rattle.std.proofs.lemmas.Option.{get_or_from_slice_get, slice_get-get_or, slice_get_read, slice_get_within}

pub contains-get : {A : Type 0} (xs : List A) (x : A) → Contains xs x → (k : ℕ) × (slice_get xs k ≡ Some x)
contains-get xs x h = (h.0, slice_get_read xs (length xs) h.0 x refl h.1 (sym h.2))

pub get-contains : {A : Type 0} (xs : List A) (k : ℕ) (x : A) → slice_get xs k ≡ Some x → Contains xs x
get-contains xs k x h = (k, slice_get_within xs k x h, get_or_from_slice_get xs k x x h)

-- what is at a place of a list of numbers
pub contains-at : (xs : List ℕ) (x : ℕ) → Contains xs x → (k : ℕ) × (k < length xs) × (get_or xs k 0 ≡ x)
contains-at xs x h =
    let g = contains-get xs x h in
    (g.0, slice_get_within xs g.0 x g.1, get_or_from_slice_get xs g.0 x 0 g.1)

pub at-get : (xs : List ℕ) (k x : ℕ) → k < length xs → get_or xs k 0 ≡ x → slice_get xs k ≡ Some x
at-get xs k x l e = slice_get-get_or xs k 0 l ∙ ap Some e

pub at-contains : (xs : List ℕ) (k x : ℕ) → k < length xs → get_or xs k 0 ≡ x → Contains xs x
at-contains xs k x l e = get-contains xs k x (at-get xs k x l e)

-- numbers that rise are apart
pub rises-less : (xs : List ℕ) (i j : ℕ) → IsStrictlyIncreasing xs → i < j → j < length xs → get_or xs i 0 < get_or xs j 0
rises-less xs i j r h l = AllPairs-from_increasing xs r i j 0 h l

pub rises-no_less : (xs : List ℕ) → IsStrictlyIncreasing xs → (i j : ℕ) → i ≤ j → j < length xs → get_or xs i 0 ≤ get_or xs j 0
rises-no_less xs r i j h l =
    elim (cases_lt i j) [
      | inl less ↦ let u = rises-less xs i j r less l in omega (arith, u)
      | inr same ↦
          let e : i ≡ j = omega arith in
          let P : ℕ → Type 0 = λ k. get_or xs i 0 ≤ get_or xs k 0 in
          subst P e (omega arith)
    ]

pub rises-one : (xs : List ℕ) (i j : ℕ) → IsStrictlyIncreasing xs → i < length xs → j < length xs → get_or xs i 0 ≡ get_or xs j 0 → i ≡ j
rises-one xs i j r li lj e =
    elim (cases_lt i j) [
      | inl less ↦ let u = rises-less xs i j r less lj in absurd (omega (arith, u, e))
      | inr most ↦ elim (cases_lt j i) [
        | inl less ↦ let u = rises-less xs j i r less li in absurd (omega (arith, u, e))
        | inr same ↦ omega arith
      ]
    ]

-- a number that was read
pub number-read : (xs : List ℕ) (k x : ℕ) → k < length xs → x ≡ get_or xs k x → get_or xs k 0 ≡ x
number-read xs k x l e = get_or_from_slice_get xs k x 0 (slice_get_read xs (length xs) k x refl l e)
