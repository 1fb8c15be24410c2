-- A stretch has the last border up to a point where its range holds the point.
use Rattle.std.proofs.Common.{◌≡◌, ℕ, ℤ, ◌+◌, ◌*◌, ◌/◌, ◌%◌, ◌^◌, ◌<◌, ◌≤◌, List, length, get_or, inl, inr, refl, ◌∙◌, ap, arith}
use Rattle.std.proofs.lemmas.Bool.{cases_lt}
use Rattle.std.proofs.lemmas.List.{get_or_default}
use Rattle.range_layout.specs.FindByRange.{HoldsPoint}
use Rattle.range_layout.specs.Stretches.{AreBordersOf, AreStretchesOf, Covers, IsBorder, IsStretchOf, end_of, stretch_at, stretch_start}
use Rattle.range_layout.specs.Points.{ArePointsOf, IsNumber, low_point, nth_point, past_point, point_of, ends_of_row}
use Rattle.range_layout.specs.declared.ends.Ends.{Ends}
use Rattle.range_layout.specs.declared.ranks.TheConstants.{ABOVE}
use Rattle.range_layout.specs.declared.stretches.Stretch.{Stretch}
use Rattle.range_layout.specs.steps.Filling.{AreBorders, AreKeyBorders, IsLastBorder, border_number, point_at}
use Rattle.range_layout.proofs.EndPoints.{open-from, open-to, point-small, started-from, started-to}
use Rattle.range_layout.proofs.Nths.{nth-less, nth-past, nth-place}
use Rattle.range_layout.proofs.Rising.{place-of, rises-no_less}

-- what is built of the rows before the index is
pub record IsAxisOf (points numbers : List ℕ) (ends : List Ends) (stretches : List Stretch) (borders : List ℕ) : Type 0 where
  pub points_are : ArePointsOf ends points
  pub few : length points < ABOVE
  pub stretches_are : AreStretchesOf points numbers ends stretches
  pub borders_are : AreBordersOf stretches (length points) borders

split-border : (border number place : ℕ) → place < ABOVE → border ≡ number * 2 ^ 32 + place → (border / 2 ^ 32 ≡ number) × (border % 2 ^ 32 ≡ place)
split-border border number place l e = (omega (arith, l, e), omega (arith, l, e))

module _ (points numbers : List ℕ) (ends : List Ends) (stretches : List Stretch) (borders : List ℕ) (s : IsAxisOf points numbers ends stretches borders) where
  stretch-of : (row : ℕ) → row < length stretches → IsStretchOf points (get_or numbers row 0) (ends_of_row ends row) (stretch_at stretches row)
  stretch-of row l = let len = s.stretches_are.len in s.stretches_are.each row (omega (arith, l, len))

  -- where the borders of a row's stretch stand
  border-place : (row border place : ℕ) → row < length stretches → IsBorder stretches (length points) row border → place ≤ length points → border ≡ (stretch_at stretches row).number * 2 ^ 32 + place
      → (j : ℕ) × (j < length borders) × (get_or borders j 0 ≡ border) × (border_number borders j ≡ get_or numbers row 0) × (point_at points borders j ≡ nth_point points place)
  border-place row border place l of w is =
      let few = s.few in
      let g = place-of borders border (s.borders_are.each row border l of) in
      let q = split-border border (stretch_at stretches row).number place (omega (arith, w, few)) is in
      let n : border_number borders g.0 ≡ (stretch_at stretches row).number = ap (λ (c : ℕ). c / 2 ^ 32) g.2 ∙ q.0 in
      let p : get_or borders g.0 0 % 2 ^ 32 ≡ place = ap (λ (c : ℕ). c % 2 ^ 32) g.2 ∙ q.1 in
      (g.0, g.1, g.2, n ∙ (stretch-of row l).same, ap (nth_point points) p)

  -- the borders are those of rising points
  pub axis-borders : AreBorders points borders
  axis-borders = record {
    points_rise = s.points_are.rises;
    rises = s.borders_are.rises;
    within = λ i l.
        let few = s.few in
        let o = s.borders_are.origin (get_or borders i 0) (i, l, default i l) in
        let p = stretch-of o.0 o.1 in
        let w = p.low_within in
        elim o.2 [
          | inl e ↦ omega (arith, few, w, e)
          | inr (inside, e) ↦ omega (arith, few, inside, e)
        ];
  }
    where
      default : (i : ℕ) → i < length borders → get_or borders i (get_or borders i 0) ≡ get_or borders i 0
      default i l = get_or_default borders i (get_or borders i 0) 0 l

  -- a border is one of a row's, whose key has its number
  pub border-origin : (i : ℕ) → i < length borders → (row : ℕ) × (row < length stretches) × (border_number borders i ≡ get_or numbers row 0) × IsBorder stretches (length points) row (get_or borders i 0)
  border-origin i l =
      let few = s.few in
      let o = s.borders_are.origin (get_or borders i 0) (i, l, get_or_default borders i (get_or borders i 0) 0 l) in
      let p = stretch-of o.0 o.1 in
      let w = p.low_within in
      let same = p.same in (
        o.0,
        o.1,
        elim o.2 [
          | inl e ↦ (split-border (get_or borders i 0) (stretch_at stretches o.0).number (stretch_at stretches o.0).low (omega (arith, few, w)) e).0 ∙ same
          | inr (inside, e) ↦ (split-border (get_or borders i 0) (stretch_at stretches o.0).number (stretch_at stretches o.0).high (omega (arith, few, inside)) e).0 ∙ same
        ],
        o.2,
      )

  module _ (number from to : ℕ) (k : AreKeyBorders borders number from to) (row : ℕ) (l : row < length stretches) where
    abbrev stretch : Stretch
    stretch = stretch_at stretches row

    starts-at : get_or numbers row 0 ≡ number → (j : ℕ) × (from ≤ j) × (j < to) × (get_or borders j 0 ≡ stretch_start stretch) × (point_at points borders j ≡ low_point (ends_of_row ends row).low)
    starts-at own =
        let p = stretch-of row l in
        let w = p.low_within in
        let b = border-place row (stretch_start stretch) stretch.low l (inl refl) (omega (arith, w)) refl in
        let in_range = k.all b.0 b.1 (b.3 ∙ own) in
        (b.0, in_range.0, in_range.1, b.2, b.4 ∙ p.low_is)

    ends-at : get_or numbers row 0 ≡ number → stretch.high < length points → (j : ℕ) × (from ≤ j) × (j < to) × (get_or borders j 0 ≡ end_of stretch) × (point_at points borders j ≡ past_point (ends_of_row ends row).high)
    ends-at own inside =
        let p = stretch-of row l in
        let b = border-place row (end_of stretch) stretch.high l (inr (inside, refl)) (omega (arith, inside)) refl in
        let in_range = k.all b.0 b.1 (b.3 ∙ own) in
        (b.0, in_range.0, in_range.1, b.2, b.4 ∙ p.high_is)

    -- no border is reached by the point
    pub none-holds : (point : ℤ) → IsNumber point → ((j : ℕ) → from ≤ j → j < to → point_of point < point_at points borders j) → get_or numbers row 0 ≡ number → ¬ (HoldsPoint (ends_of_row ends row) point)
    none-holds point z none own holds =
        let p = stretch-of row l in
        let low = started-to (ends_of_row ends row).low point p.low_fits z holds.0 in
        let a = starts-at own in
        let u = none a.0 a.1 a.2 in
        let e = a.4 in
        omega (arith, low, u, e)

    module _ (point : ℤ) (z : IsNumber point) (i : ℕ) (last : IsLastBorder points borders from to (point_of point) i) where
      at-number : border_number borders i ≡ number
      at-number = k.same i last.after last.before

      reached-place : (j : ℕ) → from ≤ j → j < to → point_at points borders j ≤ point_of point → j ≤ i
      reached-place j a b h = elim (cases_lt i j) [
        | inl less ↦ let u = last.last j less b in absurd (omega (arith, u, h))
        | inr most ↦ most
      ]

      pub covers-to : get_or numbers row 0 ≡ number → HoldsPoint (ends_of_row ends row) point → Covers stretches row (get_or borders i 0)
      covers-to own holds =
          let p = stretch-of row l in
          let low = started-to (ends_of_row ends row).low point p.low_fits z holds.0 in
          let high = open-to (ends_of_row ends row).high point p.high_fits z holds.1 in
          let a = starts-at own in
          let ea = a.4 in
          let j = reached-place a.0 a.1 a.2 (omega (arith, low, ea)) in
          let within = k.within in
          let before = last.before in
          let u = rises-no_less borders s.borders_are.rises a.0 i j (omega (arith, within, before)) in
          let is = a.3 in
          let reached = last.reached in
          let eh = p.high_is in
          let lower = nth-place points s.points_are.rises s.points_are.small (get_or borders i 0 % 2 ^ 32) stretch.high (omega (arith, reached, high, eh)) p.high_within in
          let n = at-number in
          let same = p.same in
          (l, omega (arith, u, is), omega (arith, lower, n, own, same))

      pub number-covered : Covers stretches row (get_or borders i 0) → get_or numbers row 0 ≡ number
      number-covered (_, above, below) =
          let p = stretch-of row l in
          let few = s.few in
          let wl = p.low_within in
          let wh = p.high_within in
          let n = at-number in
          let same = p.same in
          omega (arith, above, below, few, wl, wh, n, same)

      pub covers-from : Covers stretches row (get_or borders i 0) → HoldsPoint (ends_of_row ends row) point
      covers-from (w, above, below) =
          let p = stretch-of row l in
          let own = number-covered (w, above, below) in
          let few = s.few in
          let wl = p.low_within in
          let n = at-number in
          let same = p.same in
          let reached = last.reached in
          let within = k.within in
          let before = last.before in
          let el = p.low_is in
          let eh = p.high_is in
          let inside = axis-borders.within i (omega (arith, within, before)) in
          let low_place : stretch.low ≤ get_or borders i 0 % 2 ^ 32 = omega (arith, above, n, own, same, few, wl) in
          let low : low_point (ends_of_row ends row).low ≤ point_of point = elim (cases_lt stretch.low (get_or borders i 0 % 2 ^ 32)) [
            | inl less ↦ let u = nth-less points s.points_are.rises stretch.low (get_or borders i 0 % 2 ^ 32) less inside in omega (arith, u, el, reached)
            | inr most ↦
                let e : get_or borders i 0 % 2 ^ 32 ≡ stretch.low = omega (arith, most, low_place) in
                let q : point_at points borders i ≡ nth_point points stretch.low = ap (nth_point points) e in
                omega (arith, q, el, reached)
          ] in
          let high : point_of point < past_point (ends_of_row ends row).high = elim (cases_lt (point_of point) (past_point (ends_of_row ends row).high)) [
            | inl less ↦ less
            | inr most ↦
                let small = point-small point z in
                let inner : stretch.high < length points = elim (cases_lt stretch.high (length points)) [
                  | inl less ↦ less
                  | inr end ↦ let q = nth-past points stretch.high end in absurd (omega (arith, q, eh, most, small))
                ] in
                let b = ends-at own inner in
                let eb = b.4 in
                let is = b.3 in
                let j = reached-place b.0 b.1 b.2 (omega (arith, eb, most)) in
                let u = rises-no_less borders s.borders_are.rises b.0 i j (omega (arith, within, before)) in
                absurd (omega (arith, u, is, below))
          ] in
          (started-from (ends_of_row ends row).low point p.low_fits z low, open-from (ends_of_row ends row).high point p.high_fits z high)
