-- Points by their places.
use Rattle.std.specs.List.Sorted.{IsStrictlyIncreasing}
use Rattle.std.proofs.Common.{◌≡◌, ℕ, ◌^◌, ◌<◌, ◌≤◌, List, length, get_or, inl, inr, subst, arith}
use Rattle.std.proofs.lemmas.Bool.{cases_lt}
use Rattle.std.proofs.lemmas.List.{get_or_default, get_or_past}
use Rattle.range_layout.specs.Points.{nth_point}
use Rattle.range_layout.proofs.Rising.{rises-less}

pub nth-is : (points : List ℕ) (i : ℕ) → i < length points → nth_point points i ≡ get_or points i 0
nth-is points i l = get_or_default points i (2 ^ 128) 0 l

pub nth-past : (points : List ℕ) (i : ℕ) → length points ≤ i → nth_point points i ≡ 2 ^ 128
nth-past points i l = get_or_past points i (2 ^ 128) l

module _ (points : List ℕ) (rises : IsStrictlyIncreasing points) where
  pub nth-less : (i j : ℕ) → i < j → j < length points → nth_point points i < nth_point points j
  nth-less i j l w =
      let a = nth-is points i (omega arith) in
      let b = nth-is points j w in
      let u = rises-less points i j rises l w in
      omega (arith, a, b, u)

  module _ (small : (i : ℕ) → i < length points → get_or points i 0 < 2 ^ 128) where
    -- behind the last place there is 2 ^ 128
    pub nth-below : (i j : ℕ) → i < j → i < length points → nth_point points i < nth_point points j
    nth-below i j l w = elim (cases_lt j (length points)) [
      | inl less ↦ nth-less i j l less
      | inr most ↦
          let a = nth-is points i w in
          let b = nth-past points j most in
          let s = small i w in
          omega (arith, a, b, s)
    ]

    pub nth-place : (i j : ℕ) → nth_point points i < nth_point points j → j ≤ length points → i < j
    nth-place i j h w = elim (cases_lt i j) [
      | inl less ↦ less
      | inr most ↦ elim (cases_lt j i) [
        | inr least ↦
            let e : i ≡ j = omega (arith, most, least) in
            let P : ℕ → Type 0 = λ k. nth_point points k < nth_point points j in
            let u = subst P e h in
            absurd (omega (arith, u))
        | inl less ↦ elim (cases_lt j (length points)) [
          | inl within ↦ let u = nth-below j i less within in absurd (omega (arith, u, h))
          | inr end ↦
              let a = nth-past points i (omega (arith, less, end)) in
              let b = nth-past points j end in
              absurd (omega (arith, a, b, h))
        ]
      ]
    ]
