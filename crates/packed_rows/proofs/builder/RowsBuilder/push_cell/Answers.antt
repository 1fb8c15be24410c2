use Rattle.std.proofs.Common.{◌≡◌, ◌<◌, length, arith, sym, subst, rules, refl, Some}
use Rattle.std.specs.Prelude.{slice_get}
use Rattle.std.proofs.lemmas.Option.{slice_get_read}
use Rattle.packed_rows.specs.Cells.{meaning}
use Rattle.packed_rows.specs.Widths.{limit_of, cell_width}
use Rattle.packed_rows.proofs.Packing.{cell-added, cell-packed, fits-here, nulls-few, number-limit, open-place, types-length}
use Rattle.packed_rows.proofs.builder.RowsBuilder.push_cell.Goals as goal

pub index_mut-column-requires : goal.index_mut-column-requires
index_mut-column-requires c =
    let cs = c.self.inside.columns.items in
    let at = open-place cs c.self.inside.text c.self.inside.rows c.self.inside.place c.args.self.now c.self.view_is c.self.invariant in
    let of = types-length cs c.self.inside.text c.self.inside.rows c.self.inside.place c.args.self.now c.self.view_is in
    grind (arith, at, of, c.requires.room)

pub number_of-number-requires : goal.number_of-number-requires
number_of-number-requires c =
    let cs = c.self.inside.columns.items in
    let at = open-place cs c.self.inside.text c.self.inside.rows c.self.inside.place c.args.self.now c.self.view_is c.self.invariant in
    let of = types-length cs c.self.inside.text c.self.inside.rows c.self.inside.place c.args.self.now c.self.view_is in
    let column = c.index_mut-column.result.now in
    let here : slice_get cs c.self.inside.place ≡ Some column =
    slice_get_read cs (length cs) c.self.inside.place column refl (omega (arith, at, of, c.requires.room)) c.index_mut-column.ensures.value in
    fits-here cs c.self.inside.text c.self.inside.rows c.self.inside.place c.args.self.now column (meaning c.args.cell.now) c.self.view_is c.self.invariant here c.requires.fits

pub grow-requires : goal.grow-requires
grow-requires c =
    let cs = c.self.inside.columns.items in
    let at = open-place cs c.self.inside.text c.self.inside.rows c.self.inside.place c.args.self.now c.self.view_is c.self.invariant in
    let of = types-length cs c.self.inside.text c.self.inside.rows c.self.inside.place c.args.self.now c.self.view_is in
    let here : slice_get cs c.self.inside.place ≡ Some c.index_mut-column.result.now =
    slice_get_read cs (length cs) c.self.inside.place c.index_mut-column.result.now refl (omega (arith, at, of, c.requires.room)) c.index_mut-column.ensures.value in
    let fits = fits-here cs c.self.inside.text c.self.inside.rows c.self.inside.place c.args.self.now c.index_mut-column.result.now (meaning c.args.cell.now) c.self.view_is c.self.invariant here c.requires.fits in
    record {
      fits = subst (λ n. n < limit_of (cell_width c.index_mut-column.result.now.ty.base)) (sym c.number_of-number.ensures)
          (number-limit cs c.self.inside.text c.self.inside.rows c.self.inside.place c.len-end.result (meaning c.args.cell.now) c.index_mut-column.result.now c.self.invariant here fits c.len-end.type_inv);
      few = nulls-few cs c.self.inside.text c.self.inside.rows c.self.inside.place c.args.self.now c.index_mut-column.result.now c.self.view_is c.self.invariant here c.requires.few;
    }

pub invariant_of-self-2 : goal.invariant_of-self-2
invariant_of-self-2 c =
    let cs = c.self.inside.columns.items in
    let at = open-place cs c.self.inside.text c.self.inside.rows c.self.inside.place c.args.self.now c.self.view_is c.self.invariant in
    let of = types-length cs c.self.inside.text c.self.inside.rows c.self.inside.place c.args.self.now c.self.view_is in
    let column = c.index_mut-column.result.now in
    let here : slice_get cs c.self.inside.place ≡ Some column =
    slice_get_read cs (length cs) c.self.inside.place column refl (omega (arith, at, of, c.requires.room)) c.index_mut-column.ensures.value in
    let fits = fits-here cs c.self.inside.text c.self.inside.rows c.self.inside.place c.args.self.now column (meaning c.args.cell.now) c.self.view_is c.self.invariant here c.requires.fits in
    cell-packed cs c.self.inside.text c.push_text.new.text c.self.inside.rows c.self.inside.place c.number_of-number.result c.len-end.result c.is_null.result (meaning c.args.cell.now) column c.grow.new.column
    c.self.invariant here fits c.in_ok-push_text.ensures.ok c.len-end.ensures c.len-end.type_inv c.number_of-number.ensures c.is_null.ensures (search rules)

pub returns-clause-ok : goal.returns-clause-ok
returns-clause-ok c =
    let cs = c.self.inside.columns.items in
    let at = open-place cs c.self.inside.text c.self.inside.rows c.self.inside.place c.args.self.now c.self.view_is c.self.invariant in
    let of = types-length cs c.self.inside.text c.self.inside.rows c.self.inside.place c.args.self.now c.self.view_is in
    let column = c.index_mut-column.result.now in
    let here : slice_get cs c.self.inside.place ≡ Some column =
    slice_get_read cs (length cs) c.self.inside.place column refl (omega (arith, at, of, c.requires.room)) c.index_mut-column.ensures.value in
    let fits = fits-here cs c.self.inside.text c.self.inside.rows c.self.inside.place c.args.self.now column (meaning c.args.cell.now) c.self.view_is c.self.invariant here c.requires.fits in
    cell-added cs c.self.inside.text c.push_text.new.text c.self.inside.rows c.self.inside.place c.number_of-number.result c.len-end.result c.is_null.result (meaning c.args.cell.now) column c.grow.new.column c.args.self.now
    c.self.view_is c.self.invariant here fits c.in_ok-push_text.ensures.ok c.len-end.ensures c.len-end.type_inv c.number_of-number.ensures c.is_null.ensures (search rules)
