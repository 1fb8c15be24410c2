-- A key has at most two borders for each of its rows.
use Rattle.std.specs.List.Sorted.{IsStrictlyIncreasing}
use Rattle.std.specs.Prelude.{Contains}
use Rattle.std.proofs.Common.{◌≡◌, ◌≢◌, ◌⊎◌, ℕ, zero, suc, ◌+◌, ◌-◌, ◌*◌, ◌<◌, ◌≤◌, List, [], ◌∷◌, length, get_or, inl, inr, refl, sym, subst, arith}
use Rattle.std.proofs.lemmas.Bool.{cases_eq, cases_lt}
use Rattle.range_layout.specs.Stretches.{IsBorder, end_of, stretch_at, stretch_start}
use Rattle.range_layout.specs.declared.stretches.Stretch.{Stretch}
use Rattle.range_layout.proofs.Rising.{rises-less}

-- numbers at places that rise, all of which a list has, are no more than the list has
module _ (f : ℕ → ℕ) where
  -- the place of a number, if it is there
  find-place : (y n : ℕ) → ((i : ℕ) × (i < n) × (f i ≡ y)) ⊎ ((i : ℕ) → i < n → f i ≢ y)
  find-place y zero = inr (λ i l. absurd (omega (arith, l)))
  find-place y (suc n) = elim (cases_eq (f n) y) [
    | inl e ↦ inl (n, omega arith, e)
    | inr ne ↦ elim (find-place y n) [
      | inl (i, l, e) ↦ inl (i, omega (arith, l), e)
      | inr none ↦ inr (λ i l. elim (cases_lt i n) [
        | inl less ↦ none i less
        | inr most ↦ let q : n ≡ i = omega (arith, l, most) in subst (λ k. f k ≢ y) q ne
      ])
    ]
  ]

in-tail : (y : ℕ) (list : List ℕ) (x : ℕ) → x ≢ y → Contains (y ∷ list) x → Contains list x
in-tail y list x ne (zero, l, e) = absurd (ne (sym e))
in-tail y list x ne (suc k, l, e) = (k, omega (arith, l), e)

-- the numbers but for the one at a place
leave-out : (ℕ → ℕ) → ℕ → ℕ → ℕ
leave-out f i k = elim (cases_lt k i) [ inl less ↦ f k | inr most ↦ f (k + 1) ]

left-out : (f : ℕ → ℕ) (i k : ℕ) → ((k < i) × (leave-out f i k ≡ f k)) ⊎ ((i ≤ k) × (leave-out f i k ≡ f (k + 1)))
unfolding leave-out
left-out f i k = elim (cases_lt k i) as (λ q. ((k < i) × ((elim q as (λ _. ℕ) [ inl less ↦ f k | inr most ↦ f (k + 1) ]) ≡ f k)) ⊎ ((i ≤ k) × ((elim q as (λ _. ℕ) [ inl less ↦ f k | inr most ↦ f (k + 1) ]) ≡ f (k + 1)))) [
  | inl less ↦ inl (less, refl)
  | inr most ↦ inr (most, refl)
]

pub few-places : (list : List ℕ) (n : ℕ) (f : ℕ → ℕ) → ((i j : ℕ) → i < j → j < n → f i < f j) → ((i : ℕ) → i < n → Contains list (f i)) → n ≤ length list
few-places [] zero f rises all = omega arith
few-places [] (suc n) f rises all = let h = all 0 (omega arith) in let l = h.1 in absurd (omega (arith, l))
few-places (y ∷ list) n f rises all = elim (find-place f y n) [
  | inr none ↦ let u = few-places list n f rises (λ i l. in-tail y list (f i) (none i l) (all i l)) in omega (arith, u)
  | inl (i, l, e) ↦
      let g = leave-out f i in
      let other : (k : ℕ) → k < n - 1 → (j : ℕ) × (j < n) × (j ≢ i) × (g k ≡ f j) = λ k lk. elim (left-out f i k) [
        | inl (less, is) ↦ (k, omega (arith, lk), omega (arith, less), is)
        | inr (most, is) ↦ (k + 1, omega (arith, lk), omega (arith, most), is)
      ] in
      let apart : (j : ℕ) → j < n → j ≢ i → f j ≢ y = λ j lj ne same. elim (cases_lt j i) [
        | inl less ↦ let u = rises j i less l in omega (arith, u, e, same)
        | inr most ↦ let u = rises i j (omega (arith, most, ne)) lj in omega (arith, u, e, same)
      ] in
      let g_rises : (a b : ℕ) → a < b → b < n - 1 → g a < g b = λ a b less lb.
      elim (left-out f i a) [
        | inl (x, p) ↦ elim (left-out f i b) [
          | inl (z, q) ↦ let u = rises a b less (omega (arith, lb)) in omega (arith, u, p, q)
          | inr (z, q) ↦ let u = rises a (b + 1) (omega (arith, less)) (omega (arith, lb)) in omega (arith, u, p, q)
        ]
        | inr (x, p) ↦ elim (left-out f i b) [
          | inl (z, q) ↦ absurd (omega (arith, less, x, z))
          | inr (z, q) ↦ let u = rises (a + 1) (b + 1) (omega (arith, less)) (omega (arith, lb)) in omega (arith, u, p, q)
        ]
      ] in
      let u = few-places list (n - 1) g g_rises (λ k lk.
      let o = other k lk in
      subst (Contains list) (sym o.3) (in-tail y list (f o.0) (apart o.0 o.1 o.2) (all o.0 o.1))) in
      omega (arith, u, l)
]

-- both borders of each of some rows
both-borders : List Stretch → List ℕ → List ℕ
both-borders stretches [] = []
both-borders stretches (row ∷ rows) = stretch_start (stretch_at stretches row) ∷ end_of (stretch_at stretches row) ∷ both-borders stretches rows

length-borders : (stretches : List Stretch) (rows : List ℕ) → length (both-borders stretches rows) ≡ 2 * length rows
unfolding both-borders
length-borders stretches [] = refl
length-borders stretches (row ∷ rows) = let e = length-borders stretches rows in omega (arith, e)

borders-contain : (stretches : List Stretch) (rows : List ℕ) (count row border : ℕ) → Contains rows row → IsBorder stretches count row border → Contains (both-borders stretches rows) border
unfolding both-borders
borders-contain stretches [] count row border (k, l, e) b = absurd (omega (arith, l))
borders-contain stretches (r ∷ rows) count row border (zero, l, e) b =
    elim (subst (λ (q : ℕ). IsBorder stretches count q border) (sym e) b) [
      | inl is ↦ (0, omega arith, sym is)
      | inr (_, is) ↦ (1, omega arith, sym is)
    ]
borders-contain stretches (r ∷ rows) count row border (suc k, l, e) b =
    let h = borders-contain stretches rows count row border (k, omega (arith, l), e) b in
    let w = h.1 in
    (suc (suc h.0), omega (arith, w), h.2)

-- rising borders, each of which is one of those of some rows, are at most two for each row
pub few-borders : (stretches : List Stretch) (rows borders : List ℕ) (count from to : ℕ) → IsStrictlyIncreasing borders → to ≤ length borders → ((i : ℕ) → from ≤ i → i < to → (row : ℕ) × Contains rows row × IsBorder stretches count row (get_or borders i 0))
    → to ≤ from + 2 * length rows
few-borders stretches rows borders count from to rises within origin =
    let u = few-places (both-borders stretches rows) (to - from) (λ i. get_or borders (from + i) 0)
    (λ i j less l. rises-less borders (from + i) (from + j) rises (omega (arith, less)) (omega (arith, l, within)))
    (λ i l. let o = origin (from + i) (omega arith) (omega (arith, l)) in borders-contain stretches rows count o.0 (get_or borders (from + i) 0) o.1 o.2) in
    let e = length-borders stretches rows in
    omega (arith, u, e)
