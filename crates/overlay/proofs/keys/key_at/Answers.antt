use Rattle.std.proofs.Common.{◌≡◌, ◌∙◌, ◌++◌, ◌∷◌, [], ℕ, List, Option, Some, ap, sym, arith, get_or, slice_get, take, option_map}
use Rattle.std.specs.Option.{is_some}
use Rattle.std.proofs.lemmas.Option.{slice_get-get_or, slice_get-map}
use Rattle.dict_value.specs.declared.value.Value.{Value}
use Rattle.packed_rows.specs.Cells.{meaning}
use Rattle.packed_rows.specs.Columns.{cell_of}
use Rattle.overlay.proofs.Standing.{cell-there, take-more-at, there}
use Rattle.overlay.proofs.keys.key_at.Goals as goal

pub cell-requires : goal.cell-requires
cell-requires c =
    let w = c.requires.wide in
    let column = c.loop-column.column in
    let at = there w.0 c.args.rows.now c.args.place column w.1 c.requires.within (omega (arith, w.2, c.loop-column-test.true)) in
    ap is_some (cell-there w.0 c.args.rows.now c.args.place column at)

pub loop-column-preserved : goal.loop-column-preserved
loop-column-preserved c = λ row at.
    let column = c.loop-column.column in
    let value : Value = c.in_ok-value_of.field-0 in
    let value-at : slice_get row column ≡ Some (meaning c.cell.result) = sym (ap (λ (o : Option (List Value)). cell_of o column) at) ∙ c.cell.ensures in
    c.in_ok-push.ensures.ok ∙ ap (λ (k : List Value). k ++ value ∷ []) (c.loop-column.invariant row at)
    ∙ ap (λ (v : Value). take column row ++ v ∷ []) c.in_ok-value_of.ensures.ok
    ∙ sym (take-more-at row column (meaning c.cell.result) value-at)

pub returns : goal.returns
returns c =
    let rows = c.args.rows.now in
    let keys = c.args.keys in
    let row : List Value = get_or rows c.args.place [] in
    let at : slice_get rows c.args.place ≡ Some row = slice_get-get_or rows c.args.place [] c.requires.within in
    let whole : c.loop-column.column ≡ keys = omega (arith, c.loop-column-test.false, c.loop-column.auto.column-end) in
    slice_get-map (λ (r : List Value). take keys r) rows c.args.place ∙ ap (option_map (λ (r : List Value). take keys r)) at
    ∙ ap (λ (n : ℕ). Some (take n row)) (sym whole) ∙ ap (λ (k : List Value). Some k) (sym (c.loop-column.invariant row at))
