-- What is built stands for the rows.
use Rattle.std.proofs.Common.{◌≤◌, ℕ, List, length, get_or, arith, sym, subst}
use Rattle.dict_value.specs.FindByKey.{HasKeyAt, IsLeastPlace}
use Rattle.dict_value.specs.declared.value.TheConstants.{MOST_ROWS}
use Rattle.dict_value.specs.declared.value.Value.{Value}
use Rattle.range_layout.specs.Stretches.{AreRanksOf}
use Rattle.range_layout.specs.steps.Painting.{TellsFirst}
use Rattle.range_layout.proofs.Built.{axis-of, numbers-within, ranged-of, same-spans}
use Rattle.range_layout.proofs.Covering.{axis-borders}
use Rattle.range_layout.proofs.Taken.{rank-within}
use Rattle.range_layout.proofs.ranged.Ranged.build.Goals as goal

pub winners_of-requires-clause-rows : goal.winners_of-requires-clause-rows
winners_of-requires-clause-rows g c =
    let most : length c.args.ends.now ≤ MOST_ROWS = let a = c.requires.rows in let b = c.requires.same in omega (arith, a, b) in
    let s = axis-of c.as_slice-points.result.now c.in_ok-point_list.point_list.items c.as_slice-numbers.result.now c.args.ends.now c.as_slice-stretches.result.now c.in_ok-stretch_list.stretch_list.items c.as_slice-borders.result.now c.in_ok-border_list.border_list.items
    most c.as_slice-points.ensures.value c.as_slice-stretches.ensures.value c.as_slice-borders.ensures.value c.in_ok-point_list.ensures c.in_ok-stretch_list.ensures c.in_ok-border_list.ensures in
    let ranks = subst (AreRanksOf c.args.strategy c.args.ends.now c.as_slice-stretches.result.now) (sym c.as_slice-ranks.ensures.value) c.in_ok-rank_list.ensures in
    rank-within c.args.keys.now c.as_slice-points.result.now c.as_slice-numbers.result.now c.args.ends.now c.as_slice-stretches.result.now c.as_slice-borders.result.now c.as_slice-ranks.result.now c.args.strategy s ranks c.requires.same (omega (arith, most))

pub index_of-requires-clause-borders : goal.index_of-requires-clause-borders
index_of-requires-clause-borders g c =
    let most : length c.args.ends.now ≤ MOST_ROWS = let a = c.requires.rows in let b = c.requires.same in omega (arith, a, b) in
    let s = axis-of c.as_slice-points.result.now c.in_ok-point_list.point_list.items c.as_slice-numbers.result.now c.args.ends.now c.as_slice-stretches.result.now c.in_ok-stretch_list.stretch_list.items c.as_slice-borders.result.now c.in_ok-border_list.border_list.items
    most c.as_slice-points.ensures.value c.as_slice-stretches.ensures.value c.as_slice-borders.ensures.value c.in_ok-point_list.ensures c.in_ok-stretch_list.ensures c.in_ok-border_list.ensures in
    axis-borders c.as_slice-points.result.now c.as_slice-numbers.result.now c.args.ends.now c.as_slice-stretches.result.now c.as_slice-borders.result.now s

pub index_of-requires-clause-numbers : goal.index_of-requires-clause-numbers
index_of-requires-clause-numbers g c =
    let most : length c.args.ends.now ≤ MOST_ROWS = let a = c.requires.rows in let b = c.requires.same in omega (arith, a, b) in
    let s = axis-of c.as_slice-points.result.now c.in_ok-point_list.point_list.items c.as_slice-numbers.result.now c.args.ends.now c.as_slice-stretches.result.now c.in_ok-stretch_list.stretch_list.items c.as_slice-borders.result.now c.in_ok-border_list.border_list.items
    most c.as_slice-points.ensures.value c.as_slice-stretches.ensures.value c.as_slice-borders.ensures.value c.in_ok-point_list.ensures c.in_ok-stretch_list.ensures c.in_ok-border_list.ensures in
    let least : (row : ℕ) (key : List Value) → HasKeyAt c.args.keys.now key row → IsLeastPlace c.args.keys.now key (get_or c.as_slice-numbers.result.now row 0) = λ row key has.
    subst (λ (z : List ℕ). IsLeastPlace c.args.keys.now key (get_or z row 0)) (sym c.as_slice-numbers.ensures.value) (c.in_ok-number_list.ensures.least row key has) in
    numbers-within c.args.keys.now c.as_slice-points.result.now c.as_slice-numbers.result.now c.args.ends.now c.as_slice-stretches.result.now c.as_slice-borders.result.now s c.requires.same least

pub returns : goal.returns
returns g c =
    let most : length c.args.ends.now ≤ MOST_ROWS = let a = c.requires.rows in let b = c.requires.same in omega (arith, a, b) in
    let s = axis-of c.as_slice-points.result.now c.in_ok-point_list.point_list.items c.as_slice-numbers.result.now c.args.ends.now c.as_slice-stretches.result.now c.in_ok-stretch_list.stretch_list.items c.as_slice-borders.result.now c.in_ok-border_list.border_list.items
    most c.as_slice-points.ensures.value c.as_slice-stretches.ensures.value c.as_slice-borders.ensures.value c.in_ok-point_list.ensures c.in_ok-stretch_list.ensures c.in_ok-border_list.ensures in
    let least : (row : ℕ) (key : List Value) → HasKeyAt c.args.keys.now key row → IsLeastPlace c.args.keys.now key (get_or c.as_slice-numbers.result.now row 0) = λ row key has.
    subst (λ (z : List ℕ). IsLeastPlace c.args.keys.now key (get_or z row 0)) (sym c.as_slice-numbers.ensures.value) (c.in_ok-number_list.ensures.least row key has) in
    let ranks = subst (AreRanksOf c.args.strategy c.args.ends.now c.as_slice-stretches.result.now) (sym c.as_slice-ranks.ensures.value) c.in_ok-rank_list.ensures in
    ranged-of c.args.keys.now c.as_slice-points.result.now c.as_slice-numbers.result.now c.args.ends.now c.as_slice-stretches.result.now c.as_slice-borders.result.now s c.requires.same least c.args.strategy c.as_slice-ranks.result.now c.as_slice.result.now c.in_ok-table.table c.from_list.result c.from_list-2.result c.from_list-3.result
    (omega (arith, most)) c.in_ok-table.ensures ranks
    (λ i l. subst (λ (z : List ℕ). TellsFirst c.as_slice-stretches.result.now c.as_slice-ranks.result.now (length c.as_slice-ranks.result.now) (get_or c.as_slice-borders.result.now i 0) (get_or z i 0)) (sym c.as_slice.ensures.value) (c.in_ok-taken.ensures.told i l))
    (same-spans c.as_slice-points.result.now c.as_slice-borders.result.now c.as_slice.result.now (length c.args.keys.now) c.in_ok-index.index.spans c.from_list.result c.in_ok-index.index.edges c.from_list-2.result c.in_ok-index.index.winners c.from_list-3.result c.from_list.ensures c.from_list-2.ensures c.from_list-3.ensures c.in_ok-index.ensures)
