-- Rising lists of numbers, and where a number stands in one.
use Rattle.std.specs.Prelude.{Contains}
use Rattle.std.specs.List.{slice_get}
use Rattle.std.specs.List.Sorted.{IsStrictlyIncreasing}
use Rattle.std.proofs.Common.{◌≡◌, ◌⊎◌, ◌++◌, ℕ, ◌<◌, ◌≤◌, List, length, get_or, Some, inl, inr, refl, ap, arith, sym, ◌∙◌, subst}
use Rattle.std.proofs.lemmas.Bool.{cases_lt}
use Rattle.std.proofs.lemmas.List.Elements.{Contains-append_cases, Contains-append_left, Contains-append_right}
use Rattle.std.proofs.lemmas.List.Kept.{AllPairs-from_increasing}
use Rattle.std.proofs.lemmas.Option.{get_or_from_slice_get, slice_get-get_or, slice_get_read, slice_get_within}

pub contains-get : {A : Type 0} (xs : List A) (x : A) → Contains xs x → (k : ℕ) × (slice_get xs k ≡ Some x)
contains-get xs x h = (h.0, slice_get_read xs (length xs) h.0 x refl h.1 (sym h.2))

-- of a list that has grown
pub grown-left : (old more new : List ℕ) (x : ℕ) → new ≡ old ++ more → Contains old x → Contains new x
grown-left old more new x e h = subst (λ (z : List ℕ). Contains z x) (sym e) (Contains-append_left old more x h)

pub grown-right : (old more new : List ℕ) (x : ℕ) → new ≡ old ++ more → Contains more x → Contains new x
grown-right old more new x e h = subst (λ (z : List ℕ). Contains z x) (sym e) (Contains-append_right old more x h)

pub grown-cases : (old more new : List ℕ) (x : ℕ) → new ≡ old ++ more → Contains new x → Contains old x ⊎ Contains more x
grown-cases old more new x e h = Contains-append_cases old more x (subst (λ (z : List ℕ). Contains z x) e h)

-- where a number stands
pub place-of : (xs : List ℕ) (x : ℕ) → Contains xs x → (k : ℕ) × (k < length xs) × (get_or xs k 0 ≡ x)
place-of xs x h =
    let g = contains-get xs x h in
    (g.0, slice_get_within xs g.0 x g.1, get_or_from_slice_get xs g.0 x 0 g.1)

pub contains-at : (xs : List ℕ) (k x : ℕ) → k < length xs → get_or xs k 0 ≡ x → Contains xs x
contains-at xs k x l e =
    let g : slice_get xs k ≡ Some x = slice_get-get_or xs k 0 l ∙ ap Some e in
    (k, l, get_or_from_slice_get xs k x x g)

pub rises-less : (xs : List ℕ) (i j : ℕ) → IsStrictlyIncreasing xs → i < j → j < length xs → get_or xs i 0 < get_or xs j 0
rises-less xs i j r h l = AllPairs-from_increasing xs r i j 0 h l

pub rises-no_less : (xs : List ℕ) → IsStrictlyIncreasing xs → (i j : ℕ) → i ≤ j → j < length xs → get_or xs i 0 ≤ get_or xs j 0
rises-no_less xs r i j h l =
    elim (cases_lt i j) [
      | inl less ↦ let u = rises-less xs i j r less l in omega (arith, u)
      | inr same ↦
          let e : i ≡ j = omega arith in
          let P : ℕ → Type 0 = λ k. get_or xs i 0 ≤ get_or xs k 0 in
          subst P e (omega arith)
    ]

-- the lesser of two numbers stands first
pub rises-place : (xs : List ℕ) (i j : ℕ) → IsStrictlyIncreasing xs → i < length xs → get_or xs i 0 < get_or xs j 0 → i < j
rises-place xs i j r l h = elim (cases_lt i j) [
  | inl less ↦ less
  | inr most ↦ let u = rises-no_less xs r j i most l in absurd (omega (arith, u, h))
]
