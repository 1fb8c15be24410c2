-- The row that comes before another has the lower rank.
use Rattle.std.specs.List.Sorted.{IsStrictlyIncreasing}
use Rattle.std.proofs.Common.{◌≡◌, ◌⊎◌, ℕ, ◌+◌, ◌-◌, ◌*◌, ◌^◌, ◌<◌, ◌≤◌, List, length, get_or, inl, inr, sym, ◌∙◌, ap, subst, arith}
use Rattle.std.proofs.lemmas.Bool.{cases_lt}
use Rattle.dict_schema.specs.declared.definition.Strategy.{Strategy}
use Rattle.dict_schema.specs.declared.definition.Strategy.TheVariants.{Min, Max}
use Rattle.range_layout.specs.FindByRange.{IsLowerEnd, IsLowerStart, Precedes}
use Rattle.range_layout.specs.Stretches.{IsStretchOf, end_rank, rank_of, start_rank}
use Rattle.range_layout.specs.Points.{FitsEnd, low_point, nth_point, past_point}
use Rattle.range_layout.specs.declared.ends.End.{End}
use Rattle.range_layout.specs.declared.ends.End.TheVariants.{Free, At}
use Rattle.range_layout.specs.declared.ends.Ends.{Ends}
use Rattle.range_layout.specs.declared.ranks.TheConstants.{ABOVE}
use Rattle.range_layout.specs.declared.stretches.Stretch.{Stretch}
use Rattle.range_layout.proofs.EndPoints.{point-less}
use Rattle.range_layout.proofs.Nths.{nth-below, nth-place}

-- the ranks of starts and ends are those of their order, where those of places are those of points
module _ (points : List ℕ) (rises : IsStrictlyIncreasing points) (small : (i : ℕ) → i < length points → get_or points i 0 < 2 ^ 128) where
  same-place : (i j : ℕ) → i ≤ length points → j ≤ length points → nth_point points i ≡ nth_point points j → i ≡ j
  same-place i j wi wj e = elim (cases_lt i j) [
    | inl less ↦ absurd (apart i j less wj e)
    | inr most ↦ elim (cases_lt j i) [
      | inl less ↦ absurd (apart j i less wi (sym e))
      | inr least ↦ omega (arith, most, least)
    ]
  ]
    where
      apart : (i j : ℕ) → i < j → j ≤ length points → nth_point points i ≡ nth_point points j → ⊥
      apart i j l w e =
          let u = nth-below points rises small i j l (omega (arith, l, w)) in
          omega (arith, u, e)

  start-less : (a b : End) (i j : ℕ) → FitsEnd a → FitsEnd b → j ≤ length points → nth_point points i ≡ low_point a → nth_point points j ≡ low_point b → IsLowerStart a b → start_rank a i < start_rank b j
  start-less Free Free i j fa fb w ea eb l = absurd l
  start-less Free (At z) i j fa fb w ea eb l = omega arith
  start-less (At y) Free i j fa fb w ea eb l = absurd l
  start-less (At y) (At z) i j fa fb w ea eb l =
      let u = point-less y z fa fb l in
      let p = nth-place points rises small i j (omega (arith, u, ea, eb)) w in
      omega (arith, p)

  start-same : (a b : End) (i j : ℕ) → i ≤ length points → j ≤ length points → nth_point points i ≡ low_point a → nth_point points j ≡ low_point b → a ≡ b → start_rank a i ≡ start_rank b j
  start-same a b i j wi wj ea eb e =
      let s = same-place i j wi wj (ea ∙ (ap low_point e ∙ sym eb)) in
      subst (λ c. start_rank a i ≡ start_rank c j) e (ap (start_rank a) s)

  end-less : (a b : End) (i j : ℕ) → FitsEnd a → FitsEnd b → i ≤ length points → j ≤ length points → length points < ABOVE → nth_point points i ≡ past_point a → nth_point points j ≡ past_point b → IsLowerEnd a b → end_rank a i < end_rank b j
  end-less Free b i j fa fb wi wj few ea eb l = absurd l
  end-less (At y) Free i j fa fb wi wj few ea eb l = omega (arith, wi, few)
  end-less (At y) (At z) i j fa fb wi wj few ea eb l =
      let u = point-less y z fa fb l in
      nth-place points rises small i j (omega (arith, u, ea, eb)) wj

  end-same : (a b : End) (i j : ℕ) → i ≤ length points → j ≤ length points → nth_point points i ≡ past_point a → nth_point points j ≡ past_point b → a ≡ b → end_rank a i ≡ end_rank b j
  end-same a b i j wi wj ea eb e =
      let s = same-place i j wi wj (ea ∙ (ap past_point e ∙ sym eb)) in
      subst (λ c. end_rank a i ≡ end_rank c j) e (ap (end_rank a) s)

  start-most : (a : End) (i : ℕ) → i < length points → start_rank a i ≤ length points
  start-most Free i w = omega arith
  start-most (At z) i w = omega (arith, w)

  end-most : (a : End) (i : ℕ) → i ≤ length points → length points < ABOVE → end_rank a i ≤ ABOVE
  end-most Free i w few = omega arith
  end-most (At z) i w few = omega (arith, w, few)

  ordered : (s t e f i j : ℕ) → s ≤ ABOVE → t ≤ ABOVE → e ≤ ABOVE → f ≤ ABOVE → i < 2 ^ 32 → j < 2 ^ 32 → (s < t) ⊎ ((s ≡ t) × ((e < f) ⊎ ((e ≡ f) × (i < j)))) → (s * 2 ^ 32 + e) * 2 ^ 32 + i < (t * 2 ^ 32 + f) * 2 ^ 32 + j
  ordered s t e f i j ls lt le lf li lj (inl l) = omega (arith, ls, lt, le, lf, li, lj, l)
  ordered s t e f i j ls lt le lf li lj (inr (q, inl l)) = omega (arith, ls, lt, le, lf, li, lj, q, l)
  ordered s t e f i j ls lt le lf li lj (inr (q, inr (r, l))) = omega (arith, ls, lt, le, lf, li, lj, q, r, l)

  -- the row that comes before another has the lower rank
  pub rank-less : (strategy : Strategy) (a b : Ends) (number other : ℕ) (p q : Stretch) (i j : ℕ) → length points < ABOVE → i < 2 ^ 32 → j < 2 ^ 32 → IsStretchOf points number a p → IsStretchOf points other b q
      → Precedes strategy a i b j → rank_of strategy a p i < rank_of strategy b q j
  rank-less Min a b number other p q i j few li lj pa pb before =
      let wp = pa.low_within in
      let wq = pb.low_within in
      let s = start-most a.low p.low wp in
      let t = start-most b.low q.low wq in
      let e = end-most a.high p.high pa.high_within few in
      let f = end-most b.high q.high pb.high_within few in
      ordered (start_rank a.low p.low) (start_rank b.low q.low) (end_rank a.high p.high) (end_rank b.high q.high) i j (omega (arith, s, few)) (omega (arith, t, few)) e f li lj (elim before [
        | inl low ↦ inl (start-less a.low b.low p.low q.low pa.low_fits pb.low_fits (omega (arith, wq)) pa.low_is pb.low_is low)
        | inr (same, inl high) ↦
            inr (start-same a.low b.low p.low q.low (omega (arith, wp)) (omega (arith, wq)) pa.low_is pb.low_is same, inl (end-less a.high b.high p.high q.high pa.high_fits pb.high_fits pa.high_within pb.high_within few pa.high_is pb.high_is high))
        | inr (same, inr (equal, place)) ↦
            inr (start-same a.low b.low p.low q.low (omega (arith, wp)) (omega (arith, wq)) pa.low_is pb.low_is same, inr (end-same a.high b.high p.high q.high pa.high_within pb.high_within pa.high_is pb.high_is equal, place))
      ])
  rank-less Max a b number other p q i j few li lj pa pb before =
      let wp = pa.low_within in
      let wq = pb.low_within in
      let s = start-most a.low p.low wp in
      let t = start-most b.low q.low wq in
      let e = end-most a.high p.high pa.high_within few in
      let f = end-most b.high q.high pb.high_within few in
      ordered (ABOVE - start_rank a.low p.low) (ABOVE - start_rank b.low q.low) (ABOVE - end_rank a.high p.high) (ABOVE - end_rank b.high q.high) i j (omega arith) (omega arith) (omega arith) (omega arith) li lj (elim before [
        | inl low ↦
            let u = start-less b.low a.low q.low p.low pb.low_fits pa.low_fits (omega (arith, wp)) pb.low_is pa.low_is low in
            inl (omega (arith, u, s, t, few))
        | inr (same, inl high) ↦
            let z = start-same a.low b.low p.low q.low (omega (arith, wp)) (omega (arith, wq)) pa.low_is pb.low_is same in
            let u = end-less b.high a.high q.high p.high pb.high_fits pa.high_fits pb.high_within pa.high_within few pb.high_is pa.high_is high in
            inr (omega (arith, z), inl (omega (arith, u, e, f)))
        | inr (same, inr (equal, place)) ↦
            let z = start-same a.low b.low p.low q.low (omega (arith, wp)) (omega (arith, wq)) pa.low_is pb.low_is same in
            let u = end-same a.high b.high p.high q.high pa.high_within pb.high_within pa.high_is pb.high_is equal in
            inr (omega (arith, z), inr (omega (arith, u), place))
      ])
