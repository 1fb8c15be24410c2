use Rattle.std.proofs.Common.{◌≡◌, ◌∷◌, ◌++◌, [], ◌∙◌, ap, arith, rules, slice_get}
use Rattle.dict_version.specs.Keys.{key_number}
use Rattle.dict_version.proofs.RowCells.{cell-of_row, row-grown}
use Rattle.dict_version.proofs.columns.numbers_of.Goals as goal

pub loop-place-preserved : goal.loop-place-preserved
loop-place-preserved c =
    let rows = c.args.rows.now in
    let place = c.loop-place.place in
    row-grown (λ row. key_number (slice_get row 0)) rows place c.loop-place.numbers.items c.push.new.self.items _
    c.loop-place.invariant (omega arith) (search rules)
    (λ row here. c.number_in.ensures ∙ ap key_number (c.get.ensures ∙ cell-of_row rows place 0 row here))
