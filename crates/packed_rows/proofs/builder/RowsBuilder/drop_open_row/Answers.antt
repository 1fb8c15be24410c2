use Rattle.std.proofs.Common.{◌∙◌, [], List, ap}
use Rattle.packed_rows.specs.declared.column.Column.{Column}
use Rattle.packed_rows.specs.Columns.{start_of}
use Rattle.packed_rows.specs.Packs.{Building, building}
use Rattle.packed_rows.proofs.Cutting.{dropped-building, dropped-packs, front-has, have-before}
use Rattle.packed_rows.proofs.builder.RowsBuilder.drop_open_row.Goals as goal

pub row_start-start-requires : goal.row_start-start-requires
row_start-start-requires c = rw c.as_slice.ensures.value (have-before c.self.inside.columns.items c.self.inside.text c.self.inside.rows c.self.inside.place c.self.invariant)

pub cut_front-requires-clause-cells : goal.cut_front-requires-clause-cells
cut_front-requires-clause-cells c = front-has c.self.inside.columns.items c.self.inside.text c.self.inside.rows c.self.inside.place c.self.invariant

pub invariant_of-self : goal.invariant_of-self
invariant_of-self c =
    let start = c.row_start-start.ensures ∙ ap (λ (cs : List Column). start_of cs c.self.inside.rows) c.as_slice.ensures.value in
    rw (c.cut_front.ensures, c.truncate.ensures) (dropped-packs c.self.inside.columns.items c.self.inside.text c.self.inside.rows c.self.inside.place c.row_start-start.result c.self.invariant start)

pub returns : goal.returns
returns c =
    let start = c.row_start-start.ensures ∙ ap (λ (cs : List Column). start_of cs c.self.inside.rows) c.as_slice.ensures.value in
    (λ j. building (c.cut_front.ensures j) (c.truncate.ensures j) c.self.inside.rows 0)
    ∙ (dropped-building c.self.inside.columns.items c.self.inside.text c.self.inside.rows c.self.inside.place c.row_start-start.result c.self.invariant start
    ∙ ap (λ (b : Building). record { types = b.types; rows = b.rows; open_row = [] }) c.self.view_is)
