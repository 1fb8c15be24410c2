use Rattle.std.proofs.Common.{◌≡◌, ◌∷◌, ◌++◌, [], ◌∙◌, List, Some, None, ap, arith, rules, slice_get, sym, take}
use Rattle.std.specs.Option.{option_map}
use Rattle.packed_rows.specs.Cells.{meaning}
use Rattle.dict_version.proofs.RowCells.{cell-of_row, taken-more, taken-past}
use Rattle.dict_version.proofs.columns.first_values.Goals as goal

pub returns-in_default : goal.returns-in_default
returns-in_default c = λ row here.
    let got : c.get.result ≡ None = search rules in
    let none : slice_get row c.loop-column.column ≡ None =
    sym (cell-of_row c.args.rows.now c.args.place c.loop-column.column row here) ∙ sym c.get.ensures ∙ ap (option_map meaning) got in
    c.loop-column.invariant row here ∙ taken-past row c.loop-column.column c.args.count (omega arith) none

pub loop-column-preserved : goal.loop-column-preserved
loop-column-preserved c = λ row here.
    let got : c.get.result ≡ Some c.in-Some.cell = search rules in
    let some : slice_get row c.loop-column.column ≡ Some (meaning c.in-Some.cell) =
    sym (cell-of_row c.args.rows.now c.args.place c.loop-column.column row here) ∙ sym c.get.ensures ∙ ap (option_map meaning) got in
    let item = c.in_ok-value_of.ensures.ok in
    let grew : c.push.new.self ≡ c.loop-column.values ++ c.in_ok-value_of.field-0 ∷ [] = search rules in
    grew ∙ ap (λ l. l ++ c.in_ok-value_of.field-0 ∷ []) (c.loop-column.invariant row here)
    ∙ taken-more row c.loop-column.column c.in_ok-value_of.field-0 (some ∙ ap Some (sym item))
