use Rattle.std.proofs.Common.{◌≡◌, ◌∷◌, ◌++◌, [], ◌∙◌, ap, arith, rules, slice_get}
use Rattle.dict_version.specs.Keys.{text_in}
use Rattle.dict_version.proofs.RowCells.{cell-of_row, row-grown}
use Rattle.dict_version.proofs.columns.texts_of.Goals as goal

pub loop-place-preserved : goal.loop-place-preserved
loop-place-preserved c =
    let rows = c.args.rows.now in
    let place = c.loop-place.place in
    row-grown (λ row. text_in (slice_get row 0)) rows place c.loop-place.texts.items c.push.new.self.items c.in_ok-text.text
    c.loop-place.invariant (omega arith) (search rules)
    (λ row here. c.in_ok-text.ensures ∙ ap text_in (c.get.ensures ∙ cell-of_row rows place 0 row here))
