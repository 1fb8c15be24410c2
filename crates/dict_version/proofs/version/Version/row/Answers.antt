use Rattle.std.proofs.Common.{◌≡◌, ◌++◌, ◌+◌, ◌∷◌, [], ◌∙◌, List, Some, ap, arith, length, rules, slice_get, subst, sym, take}
use Rattle.std.proofs.lemmas.Option.{same_Some}
use Rattle.dict_value.specs.declared.value.Value.{Value}
use Rattle.dict_version.specs.Contents.{Contents}
use Rattle.packed_rows.specs.Cells.{meaning}
use Rattle.packed_rows.specs.Columns.{cell_at}
use Rattle.dict_version.proofs.RowCells.{cell-of_row, item-at, taken-more}
use Rattle.dict_version.proofs.VersionCells.{cell-there, is-some, row-whole}
use Rattle.dict_version.proofs.version.Version.row.Goals as goal

pub cell-cell-requires : goal.cell-cell-requires
cell-cell-requires g c =
    let it = c.self.inside in
    let rows_are = ap (λ (v : Contents). length v.rows) c.self.view_is in
    let cell = cell-there it.definition it.rows it.moment it.types it.index it.hier c.self.invariant
    c.args.place c.loop-column.column (omega arith) (omega arith) in
    is-some _ _ cell.cell

pub loop-column-preserved : goal.loop-column-preserved
loop-column-preserved g c = λ row here.
    let it = c.self.inside in
    let rows_are = ap (λ (v : Contents). v.rows) c.self.view_is in
    let inside_here : slice_get it.rows c.args.place ≡ Some row = ap (λ rows. slice_get rows c.args.place) rows_are ∙ here in
    let item = c.in_ok-value_of.field-0 in
    let some : slice_get row c.loop-column.column ≡ Some item =
    sym (cell-of_row it.rows c.args.place c.loop-column.column row inside_here) ∙ c.cell-cell.ensures ∙ ap Some (sym c.in_ok-value_of.ensures.ok) in
    let grew : c.push.new.self ≡ c.loop-column.row ++ item ∷ [] = search rules in
    grew ∙ ap (λ l. l ++ item ∷ []) (c.loop-column.invariant row here) ∙ taken-more row c.loop-column.column item some

pub returns : goal.returns
returns g c =
    let it = c.self.inside in
    let rows_are = ap (λ (v : Contents). v.rows) c.self.view_is in
    let row = item-at c.args.self.now.rows c.args.place c.requires in
    let inside_here : slice_get it.rows c.args.place ≡ Some row.0 = ap (λ rows. slice_get rows c.args.place) rows_are ∙ row.1 in
    let whole = row-whole it.definition it.rows it.moment it.types it.index it.hier c.self.invariant
    c.args.place row.0 c.loop-column.column inside_here (omega arith) in
    row.1 ∙ ap Some (sym (c.loop-column.invariant row.0 row.1 ∙ whole))
