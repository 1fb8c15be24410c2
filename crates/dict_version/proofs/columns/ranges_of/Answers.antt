use Rattle.std.proofs.Common.{◌≡◌, ◌∷◌, ◌++◌, ◌+◌, [], ◌∙◌, ap, arith, rules, slice_get}
use Rattle.dict_version.specs.Keys.{range_end, range_behind}
use Rattle.dict_version.proofs.RowCells.{cell-of_row, row-grown}
use Rattle.dict_version.proofs.columns.ranges_of.Goals as goal

pub loop-place-preserved : goal.loop-place-preserved
loop-place-preserved c =
    let rows = c.args.rows.now in
    let place = c.loop-place.place in
    let start = c.args.start in
    row-grown (range_behind start) rows place c.loop-place.ranges.items c.push.new.self.items (record { low = c.end_in.result; high = c.end_in-in-loop-place.result })
    c.loop-place.invariant (omega arith) (search rules)
    (λ row here.
    let low : c.end_in.result ≡ range_end (slice_get row start) = c.end_in.ensures ∙ ap range_end (c.get.ensures ∙ cell-of_row rows place start row here) in
    let high : c.end_in-in-loop-place.result ≡ range_end (slice_get row (start + 1)) = c.end_in-in-loop-place.ensures ∙ ap range_end (c.get-in-loop-place.ensures ∙ cell-of_row rows place (start + 1) row here) in
    λ i. record { low = low i; high = high i })
