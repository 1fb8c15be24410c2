-- What is built stands for the rows.
use Rattle.std.proofs.Common.{◌≡◌, ℕ, ◌^◌, ◌<◌, ◌≤◌, List, length, get_or, sym, subst, ap, arith}
use Rattle.std.proofs.lemmas.Option.{slice_get_within}
use Rattle.dict_schema.specs.declared.definition.Strategy.{Strategy}
use Rattle.dict_value.specs.FindByKey.{HasKeyAt, IsLeastPlace}
use Rattle.dict_value.specs.declared.value.TheConstants.{MOST_ROWS}
use Rattle.dict_value.specs.declared.value.Value.{Value}
use Rattle.hashed_layout.specs.KeyTables.{IsKeyTableOf}
use Rattle.hashed_layout.specs.declared.complex.Complex.{Complex}
use Rattle.range_layout.specs.Kept.{IsRangedOf}
use Rattle.range_layout.specs.Stretches.{AreBordersOf, AreStretchesOf, AreRanksOf}
use Rattle.range_layout.specs.Points.{ArePointsOf}
use Rattle.range_layout.specs.declared.ends.Ends.{Ends}
use Rattle.range_layout.specs.declared.index.Span.{Span}
use Rattle.range_layout.specs.declared.stretches.Stretch.{Stretch}
use Rattle.range_layout.specs.steps.Filling.{AreSpansIn, border_number}
use Rattle.range_layout.specs.steps.Painting.{TellsFirst}
use Rattle.range_layout.proofs.Covering.{IsAxisOf, border-origin}
use Rattle.range_layout.proofs.Numbering.{number-of, number-within}
use Rattle.range_layout.proofs.Taken.{span-of}

-- the slices are those of the lists that were built
pub axis-of : (points point_list numbers : List ℕ) (ends : List Ends) (stretches stretch_list : List Stretch) (borders border_list : List ℕ) → length ends ≤ MOST_ROWS → points ≡ point_list → stretches ≡ stretch_list → borders ≡ border_list
    → ArePointsOf ends point_list → AreStretchesOf points numbers ends stretch_list → AreBordersOf stretches (length points) border_list → IsAxisOf points numbers ends stretches borders
axis-of points point_list numbers ends stretches stretch_list borders border_list most ep eq ec p q r = record {
  points_are = subst (ArePointsOf ends) (sym ep) p;
  few = let f = p.few in let l = ap length ep in omega (arith, f, l, most);
  stretches_are = subst (AreStretchesOf points numbers ends) (sym eq) q;
  borders_are = subst (AreBordersOf stretches (length points)) (sym ec) r;
}

pub same-spans : (points borders taken : List ℕ) (count : ℕ) (spans new_spans : List Span) (edges new_edges winners new_winners : List ℕ) → new_spans ≡ spans → new_edges ≡ edges → new_winners ≡ winners
    → AreSpansIn points borders taken count spans edges winners → AreSpansIn points borders taken count new_spans new_edges new_winners
same-spans points borders taken count spans new_spans edges new_edges winners new_winners es ee ew are =
    subst (λ (z : List Span). AreSpansIn points borders taken count z new_edges new_winners) (sym es)
    (subst (λ (z : List ℕ). AreSpansIn points borders taken count spans z new_winners) (sym ee) (subst (AreSpansIn points borders taken count spans edges) (sym ew) are))

module _ (keys : List (List Value)) (points numbers : List ℕ) (ends : List Ends) (stretches : List Stretch) (borders : List ℕ) (s : IsAxisOf points numbers ends stretches borders) (same : length ends ≡ length keys)
    (least : (row : ℕ) (key : List Value) → HasKeyAt keys key row → IsLeastPlace keys key (get_or numbers row 0)) where
  pub numbers-within : (i : ℕ) → i < length borders → border_number borders i < length keys
  numbers-within i l =
      let o = border-origin points numbers ends stretches borders s i l in
      let w = o.1 in
      let len = s.stretches_are.len in
      let u = number-within keys numbers least o.0 (omega (arith, w, len, same)) in
      let e = o.2 in
      omega (arith, u, e)

  pub ranged-of : (strategy : Strategy) (ranks taken : List ℕ) (table : Complex) (spans : List Span) (edges winners : List ℕ) → length ends < 2 ^ 32 → IsKeyTableOf keys table.bytes table.entries table.cells.items
      → AreRanksOf strategy ends stretches ranks → ((i : ℕ) → i < length borders → TellsFirst stretches ranks (length ranks) (get_or borders i 0) (get_or taken i 0)) → AreSpansIn points borders taken (length keys) spans edges winners
      → IsRangedOf keys ends strategy table spans edges winners
  ranged-of strategy ranks taken table spans edges winners few table_is r told are = record {
    table_is = table_is;
    each = λ key place is.
        let within = slice_get_within keys place key is.equal in
        let len = are.len in (
          omega (arith, within, len),
          span-of keys points numbers ends stretches borders ranks strategy s r same few key place (number-of keys numbers least key place is) taken edges winners told _ (are.each place within),
        );
  }
