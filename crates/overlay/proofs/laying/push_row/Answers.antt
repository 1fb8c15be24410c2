use Rattle.std.proofs.Common.{◌≡◌, ◌∙◌, ◌++◌, ◌∷◌, [], ℕ, List, Option, Some, ap, sym, subst, arith, get_or, slice_get, length}
use Rattle.std.specs.Option.{is_some}
use Rattle.std.proofs.lemmas.List.{length-take-le, take_all}
use Rattle.std.proofs.lemmas.Option.{same_Some, slice_get-get_or}
use Rattle.dict_value.specs.Values.{FitsColumn}
use Rattle.dict_value.specs.declared.value.AttrType.{AttrType}
use Rattle.dict_value.specs.declared.value.Value.{Value}
use Rattle.packed_rows.specs.Cells.{meaning}
use Rattle.packed_rows.specs.Columns.{cell_of}
use Rattle.packed_rows.specs.Packs.{Building}
use Rattle.overlay.proofs.Standing.{adds-row, cell-there, row-long, take-more-at, there}
use Rattle.overlay.proofs.laying.push_row.Goals as goal

pub cell-requires : goal.cell-requires
cell-requires c =
    let column = c.loop-column.column in
    let at = there c.args.types.now c.args.rows.now c.args.place column c.requires.fit c.requires.within c.loop-column-test.true in
    ap is_some (cell-there c.args.types.now c.args.rows.now c.args.place column at)

pub push_cell-requires-clause-room : goal.push_cell-requires-clause-room
push_cell-requires-clause-room c =
    let column = c.loop-column.column in
    let at = there c.args.types.now c.args.rows.now c.args.place column c.requires.fit c.requires.within c.loop-column-test.true in
    let long = row-long c.args.types.now c.args.rows.now c.args.place at.row c.requires.fit at.row_at in
    let held = ap length (c.loop-column.invariant.open_row at.row at.row_at) ∙ length-take-le column at.row (omega (arith, long, c.loop-column-test.true)) in
    let types = ap length (c.loop-column.invariant.types ∙ c.requires.between.types_are) in
    omega (arith, held, types, c.loop-column-test.true)

pub push_cell-requires-clause-fits : goal.push_cell-requires-clause-fits
push_cell-requires-clause-fits c = λ t e.
    let column = c.loop-column.column in
    let types = c.args.types.now in
    let at = there types c.args.rows.now c.args.place column c.requires.fit c.requires.within c.loop-column-test.true in
    let long = row-long types c.args.rows.now c.args.place at.row c.requires.fit at.row_at in
    let held : length c.loop-column.out.open_row ≡ column = ap length (c.loop-column.invariant.open_row at.row at.row_at) ∙ length-take-le column at.row (omega (arith, long, c.loop-column-test.true)) in
    let named : slice_get types column ≡ Some t = sym (ap (λ (n : ℕ). slice_get types n) held) ∙ sym (ap (λ (ts : List AttrType). slice_get ts (length c.loop-column.out.open_row)) (c.loop-column.invariant.types ∙ c.requires.between.types_are)) ∙ e in
    let same : at.type_of ≡ t = same_Some at.type_of t (sym at.type_at ∙ named) in
    let value : at.value ≡ meaning c.cell.result = same_Some at.value (meaning c.cell.result) (sym (cell-there types c.args.rows.now c.args.place column at) ∙ c.cell.ensures) in
    subst (λ (v : Value). FitsColumn t v) value (subst (λ (u : AttrType). FitsColumn u at.value) same at.fits)

pub loop-column-preserved : goal.loop-column-preserved
loop-column-preserved c =
    let column = c.loop-column.column in
    let value : Value = meaning c.cell.result in
    let ok = c.in_ok-push_cell.ensures.ok in record {
      types = ap (λ (b : Building). b.types) ok ∙ c.loop-column.invariant.types;
      rows = ap (λ (b : Building). b.rows) ok ∙ c.loop-column.invariant.rows;
      open_row = λ row at. ap (λ (b : Building). b.open_row) ok ∙ ap (λ (k : List Value). k ++ value ∷ []) (c.loop-column.invariant.open_row row at)
          ∙ sym (take-more-at row column value (sym (ap (λ (o : Option (List Value)). cell_of o column) at) ∙ c.cell.ensures));
    }

pub end_row-requires-clause-whole : goal.end_row-requires-clause-whole
end_row-requires-clause-whole c =
    let column = c.loop-column.column in
    let rows = c.args.rows.now in
    let row : List Value = get_or rows c.args.place [] in
    let at : slice_get rows c.args.place ≡ Some row = slice_get-get_or rows c.args.place [] c.requires.within in
    let long = row-long c.args.types.now rows c.args.place row c.requires.fit at in
    let whole : column ≡ length c.args.types.now = omega (arith, c.loop-column-test.false, c.loop-column.auto.column-end) in
    let held = ap length (c.loop-column.invariant.open_row row at) ∙ length-take-le column row (omega (arith, long, whole)) in
    let types = ap length (c.loop-column.invariant.types ∙ c.requires.between.types_are) in
    omega (arith, held, types, whole)

pub returns : goal.returns
returns c =
    let column = c.loop-column.column in
    let rows = c.args.rows.now in
    let row : List Value = get_or rows c.args.place [] in
    let at : slice_get rows c.args.place ≡ Some row = slice_get-get_or rows c.args.place [] c.requires.within in
    let long = row-long c.args.types.now rows c.args.place row c.requires.fit at in
    adds-row c.args.out.now c.loop-column.out c.end_row.new.self rows c.args.place row at c.loop-column.invariant.types c.loop-column.invariant.rows
    (c.loop-column.invariant.open_row row at ∙ take_all column row (omega (arith, long, c.loop-column-test.false))) c.requires.between.none_open c.end_row.ensures
