use Rattle.std.proofs.Common.{◌≡◌, ◌∷◌, ◌++◌, [], ◌∙◌, ap, arith, rules, slice_get}
use Rattle.dict_version.specs.Keys.{parent_in}
use Rattle.dict_version.proofs.RowCells.{cell-of_row, row-grown}
use Rattle.dict_version.proofs.columns.parents_at.Goals as goal

pub loop-place-preserved : goal.loop-place-preserved
loop-place-preserved c =
    let rows = c.args.rows.now in
    let place = c.loop-place.place in
    row-grown (λ row. parent_in (slice_get row c.args.column)) rows place c.loop-place.parents.items c.push.new.self.items _
    c.loop-place.invariant (omega arith) (search rules)
    (λ row here. c.parent_in.ensures ∙ ap parent_in (c.get.ensures ∙ cell-of_row rows place c.args.column row here))
