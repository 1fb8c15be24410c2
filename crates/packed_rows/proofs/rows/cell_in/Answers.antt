use Rattle.std.proofs.Common.{◌≡◌, ◌∙◌, false, List, ℕ, sym, ap, rules}
use Rattle.packed_rows.specs.Widths.{nat_at}
use Rattle.packed_rows.specs.Columns.{null_in}
use Rattle.dict_value.specs.declared.value.Value.TheVariants.{S}
use Rattle.packed_rows.proofs.Packing.{value-null, value-text-is, value-number-is}
use Rattle.packed_rows.proofs.rows.cell_in.Goals as goal

pub returns-then-is_null_at : goal.returns-then-is_null_at
returns-then-is_null_at c = sym (value-null c.args.column.now c.args.text.now c.args.place c.args.start (search rules))

pub returns-in-Str : goal.returns-in-Str
returns-in-Str c =
    let some : null_in c.args.column.now c.args.place ≡ false = search rules in
    ap (λ (t : List ℕ). S t) c.piece.ensures
    ∙ value-text-is c.args.column.now c.args.text.now c.args.place c.args.start c.number_at-n.result some c.in-Str.is
    (c.number_at-n.ensures.value ∙ (λ j. nat_at (c.width_of.ensures j) (c.as_slice.ensures j) c.args.place))

pub returns-in_default : goal.returns-in_default
returns-in_default c =
    let some : null_in c.args.column.now c.args.place ≡ false = search rules in
    c.number_cell.ensures
    ∙ value-number-is c.args.column.now c.args.text.now c.args.place c.args.start c.number_at-n.result some c.in_default.not-Str
    (c.number_at-n.ensures.value ∙ (λ j. nat_at (c.width_of.ensures j) (c.as_slice.ensures j) c.args.place))
