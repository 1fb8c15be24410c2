-- The first rank whose stretch has a border is that of the row that is taken.
use Rattle.std.specs.List.{slice_get}
use Rattle.std.proofs.Common.{◌≡◌, ◌≢◌, ℕ, zero, suc, ℤ, ◌-◌, ◌%◌, ◌^◌, ◌<◌, ◌≤◌, List, Some, None, length, get_or, inl, inr, refl, sym, ◌∙◌, ap, subst, arith}
use Rattle.std.proofs.lemmas.Bool.{cases_lt}
use Rattle.std.proofs.lemmas.List.{get_or_default}
use Rattle.std.proofs.lemmas.Option.{get_or_from_slice_get, slice_get-get_or, slice_get_within}
use Rattle.dict_schema.specs.declared.definition.Strategy.{Strategy}
use Rattle.dict_schema.specs.declared.definition.Strategy.TheVariants.{Min, Max}
use Rattle.dict_value.specs.FindByKey.{HasKeyAt}
use Rattle.dict_value.specs.declared.value.Value.{Value}
use Rattle.range_layout.specs.FindByRange.{FindsByRange, HasRangeAt, HoldsPoint, Precedes}
use Rattle.range_layout.specs.Kept.{IsSpanOf, TellsIn, row_told}
use Rattle.range_layout.specs.Stretches.{AreRanksOf, Covers, stretch_at, rank_of}
use Rattle.range_layout.specs.Points.{IsNumber, point_of, ends_of_row}
use Rattle.range_layout.specs.declared.ends.End.TheVariants.{Free}
use Rattle.range_layout.specs.declared.ends.Ends.{Ends}
use Rattle.range_layout.specs.declared.index.Span.{Span}
use Rattle.range_layout.specs.declared.stretches.Stretch.{Stretch}
use Rattle.range_layout.specs.steps.Filling.{AreKeyBorders, IsLastBorder, IsSpanIn}
use Rattle.range_layout.specs.steps.Painting.{TellsFirst, row_at}
use Rattle.range_layout.proofs.Counting.{few-borders}
use Rattle.range_layout.proofs.Covering.{IsAxisOf, border-origin, covers-from, covers-to, none-holds, number-covered}
use Rattle.range_layout.proofs.RankLess.{rank-less}
use Rattle.range_layout.proofs.Rising.{place-of, rises-no_less}

-- the number is that of a key
pub record IsNumberOf (keys : List (List Value)) (numbers : List ℕ) (key : List Value) (number : ℕ) : Type 0 where
  pub own : (row : ℕ) → row < length keys → get_or numbers row 0 ≡ number → HasKeyAt keys key row
  pub mine : (row : ℕ) → HasKeyAt keys key row → get_or numbers row 0 ≡ number

rank-row : (strategy : Strategy) (range : Ends) (stretch : Stretch) (row : ℕ) → row < 2 ^ 32 → rank_of strategy range stretch row % 2 ^ 32 ≡ row
rank-row Min range stretch row l = omega (arith, l)
rank-row Max range stretch row l = omega (arith, l)

module _ (keys : List (List Value)) (points numbers : List ℕ) (ends : List Ends) (stretches : List Stretch) (borders ranks : List ℕ) (strategy : Strategy) (s : IsAxisOf points numbers ends stretches borders)
    (r : AreRanksOf strategy ends stretches ranks) (same : length ends ≡ length keys) (rows_few : length ends < 2 ^ 32) where
  range-here : (place : ℕ) (range : Ends) → slice_get ends place ≡ Some range → ends_of_row ends place ≡ range
  range-here place range is = get_or_from_slice_get ends place range (record { low = Free; high = Free }) is

  -- where the rank of a row stands
  rank-place : (row : ℕ) → row < length stretches → (i : ℕ) × (i < length ranks) × (get_or ranks i 0 ≡ rank_of strategy (ends_of_row ends row) (stretch_at stretches row) row) × (row_at ranks i ≡ row)
  rank-place row l =
      let len = s.stretches_are.len in
      let g = place-of ranks (rank_of strategy (ends_of_row ends row) (stretch_at stretches row) row) (r.each row l) in
      let m = rank-row strategy (ends_of_row ends row) (stretch_at stretches row) row (omega (arith, l, len, rows_few)) in
      (g.0, g.1, g.2, ap (λ (n : ℕ). n % 2 ^ 32) g.2 ∙ m)

  rank-at : (i : ℕ) → i < length ranks → get_or ranks i 0 ≡ rank_of strategy (ends_of_row ends (row_at ranks i)) (stretch_at stretches (row_at ranks i)) (row_at ranks i)
  rank-at i l =
      let len = s.stretches_are.len in
      let o = r.origin (get_or ranks i 0) (i, l, get_or_default ranks i (get_or ranks i 0) 0 l) in
      let w = o.1 in
      let m = rank-row strategy (ends_of_row ends o.0) (stretch_at stretches o.0) o.0 (omega (arith, w, len, rows_few)) in
      let e : row_at ranks i ≡ o.0 = ap (λ (n : ℕ). n % 2 ^ 32) o.2 ∙ m in
      subst (λ k. get_or ranks i 0 ≡ rank_of strategy (ends_of_row ends k) (stretch_at stretches k) k) (sym e) o.2

  -- the rows of ranks are rows
  pub rank-within : (i : ℕ) → i < length ranks → row_at ranks i < length stretches
  rank-within i l =
      let len = s.stretches_are.len in
      let o = r.origin (get_or ranks i 0) (i, l, get_or_default ranks i (get_or ranks i 0) 0 l) in
      let w = o.1 in
      let m = rank-row strategy (ends_of_row ends o.0) (stretch_at stretches o.0) o.0 (omega (arith, w, len, rows_few)) in
      let e : row_at ranks i ≡ o.0 = ap (λ (n : ℕ). n % 2 ^ 32) o.2 ∙ m in
      omega (arith, e, w)

  module _ (key : List Value) (number : ℕ) (n : IsNumberOf keys numbers key number) (from to : ℕ) (k : AreKeyBorders borders number from to) where
    row-of : (place : ℕ) → HasKeyAt keys key place → place < length stretches
    row-of place has =
        let l = slice_get_within keys place key has in
        let len = s.stretches_are.len in
        omega (arith, l, len, same)

    pub finds-none : (point : ℤ) → IsNumber point → ((j : ℕ) → from ≤ j → j < to → point_of point < Rattle.range_layout.specs.steps.Filling.point_at points borders j) → FindsByRange keys ends strategy key point None
    finds-none point z none = λ place range has holds.
        none-holds points numbers ends stretches borders s number from to k place (row-of place has.0) point z none (n.mine place has.0)
        (subst (λ (q : Ends). HoldsPoint q point) (sym (range-here place range has.1)) holds)

    module _ (point : ℤ) (z : IsNumber point) (i : ℕ) (last : IsLastBorder points borders from to (point_of point) i) where
      covered : (place : ℕ) (range : Ends) → HasRangeAt keys ends key place range → HoldsPoint range point → Covers stretches place (get_or borders i 0)
      covered place range has holds =
          covers-to points numbers ends stretches borders s number from to k place (row-of place has.0) point z i last (n.mine place has.0)
          (subst (λ (q : Ends). HoldsPoint q point) (sym (range-here place range has.1)) holds)

      pub finds-first : (winner : ℕ) → TellsFirst stretches ranks (length ranks) (get_or borders i 0) winner → FindsByRange keys ends strategy key point (row_told winner)
      finds-first winner (inl (zero_winner, none)) =
          subst (λ w. FindsByRange keys ends strategy key point (row_told w)) (sym zero_winner) (λ place range has holds.
          let c = covered place range has holds in
          let p = rank-place place (row-of place has.0) in
          none p.0 p.1 (subst (λ q. Covers stretches q (get_or borders i 0)) (sym p.3) c))
      finds-first winner (inr (at, less, is, covers, first)) =
          let row = row_at ranks at in
          let w = covers.0 in
          let len = s.stretches_are.len in
          let own = number-covered points numbers ends stretches borders s number from to k row w point z i last covers in
          let has = n.own row (omega (arith, w, len, same)) own in
          let here : slice_get ends row ≡ Some (ends_of_row ends row) = slice_get-get_or ends row (record { low = Free; high = Free }) (omega (arith, w, len)) in
          let e : winner ≡ suc row = omega (arith, is) in
          subst (λ q. FindsByRange keys ends strategy key point (row_told q)) (sym e) (record {
            range = ends_of_row ends row;
            here = (has, here);
            holds = covers-from points numbers ends stretches borders s number from to k row w point z i last covers;
            first = λ other before other_has holds precedes.
                let c = covered other before other_has holds in
                let p = rank-place other (row-of other other_has.0) in
                let mine = rank-at at less in
                let theirs = p.2 in
                let other_range = range-here other before other_has.1 in
                let wo = row-of other other_has.0 in
                let lower = rank-less points s.points_are.rises s.points_are.small strategy (ends_of_row ends other) (ends_of_row ends row) (get_or numbers other 0) (get_or numbers row 0) (stretch_at stretches other) (stretch_at stretches row)
                other row s.few (omega (arith, wo, len, rows_few)) (omega (arith, w, len, rows_few)) (s.stretches_are.each other (omega (arith, wo, len))) (s.stretches_are.each row (omega (arith, w, len)))
                (subst (λ (q : Ends). Precedes strategy q other (ends_of_row ends row) row) (sym other_range) precedes) in
                elim (cases_lt p.0 at) [
                  | inl earlier ↦ first p.0 earlier (subst (λ q. Covers stretches q (get_or borders i 0)) (sym p.3) c)
                  | inr most ↦
                      let u = rises-no_less ranks r.rises at p.0 most p.1 in
                      omega (arith, u, lower, mine, theirs)
                ];
          })

  -- the span of a key's borders is one of the key
  pub span-of : (key : List Value) (number : ℕ) → IsNumberOf keys numbers key number → (taken edges winners : List ℕ) → ((i : ℕ) → i < length borders → TellsFirst stretches ranks (length ranks) (get_or borders i 0) (get_or taken i 0))
      → (span : Span) → IsSpanIn points borders taken edges winners number span → IsSpanOf keys ends strategy edges winners key span
  span-of key number n taken edges winners t span is =
      let k = is.borders_are in
      let e = is.edges_are in
      let len = s.stretches_are.len in
      let within = k.within in
      let told : (point : ℤ) (i : ℕ) → IsNumber point → IsLastBorder points borders is.from is.to (point_of point) i → FindsByRange keys ends strategy key point (row_told (get_or taken i 0)) = λ point i z last.
      let before = last.before in
      finds-first key number n is.from is.to k point z i last (get_or taken i 0) (t i (omega (arith, before, within))) in
      record {
        order = e.order;
        within = is.within;
        few = λ rows are.
            let few = e.few in
            let u = few-borders stretches rows borders (length points) is.from is.to s.borders_are.rises within (λ i a b.
            let o = border-origin points numbers ends stretches borders s i (omega (arith, b, within)) in
            let w = o.1 in
            let has = n.own o.0 (omega (arith, w, len, same)) (sym o.2 ∙ k.same i a b) in
            (o.0, (are.each o.0).1 has, o.3)) in
            omega (arith, few, u);
        rises = e.rises;
        first = e.first;
        changes = e.changes;
        before = λ point z lower. elim (e.before (point_of point) lower) [
          | inl none ↦ finds-none key number n is.from is.to k point z none
          | inr (i, last, zero_taken) ↦ subst (λ w. FindsByRange keys ends strategy key point (row_told w)) zero_taken (told point i z last)
        ];
        on = λ point i z a b reached next.
            let o = e.on (point_of point) i a b reached next in
            subst (λ w. FindsByRange keys ends strategy key point (row_told w)) (sym o.2) (told point o.0 z o.1);
      }

-- what is told in a key's span is what is found
pub finds-told : (keys : List (List Value)) (ends : List Ends) (strategy : Strategy) (edges winners : List ℕ) (key : List Value) (span : Span) (point : ℤ) (winner : ℕ) → IsSpanOf keys ends strategy edges winners key span → IsNumber point
    → TellsIn edges winners span (point_of point) winner → FindsByRange keys ends strategy key point (row_told winner)
finds-told keys ends strategy edges winners key span point winner s z (inl (none, before)) = subst (λ w. FindsByRange keys ends strategy key point (row_told w)) (sym none) (s.before point z before)
finds-told keys ends strategy edges winners key span point winner s z (inr (i, after, within, reached, next, is)) =
    subst (λ w. FindsByRange keys ends strategy key point (row_told w)) (sym is) (s.on point i z after within reached next)

pub told-some : (winner : ℕ) → winner ≢ 0 → row_told winner ≡ Some (winner - 1)
told-some zero some = absurd (some refl)
told-some (suc row) some = let e : row ≡ suc row - 1 = omega arith in ap Some e
