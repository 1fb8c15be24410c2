use Rattle.std.proofs.Common.{List, length, sym, ap, arith, ◌∙◌}
use Rattle.std.specs.Prelude.{slice_get}
use Rattle.dict_value.specs.declared.value.AttrType.{AttrType}
use Rattle.dict_value.specs.declared.value.Field.TheVariants as field
use Rattle.packed_rows.specs.Cells.{meaning}
use Rattle.row_text.specs.Fitting.{ReadsFitting}
use Rattle.row_text.proofs.Fitted.{value-fits, zip-length}
use Rattle.row_text.proofs.direct.push_null.Goals as goal

pub push_cell-requires-clause-room : goal.push_cell-requires-clause-room
push_cell-requires-clause-room g c =
    omega (arith, c.requires.place, c.requires.within, zip-length ReadsFitting (g.C.Columns.columns c.args.columns.now) (g.C.Columns.types c.args.columns.now) c.requires.fit, ap (λ (ts : List AttrType). length ts) c.requires.types)

pub push_cell-requires-clause-fits : goal.push_cell-requires-clause-fits
push_cell-requires-clause-fits g c t there =
    value-fits (g.C.Columns.columns c.args.columns.now) (g.C.Columns.types c.args.columns.now) c.args.place t field.Null (meaning c.in_ok-cell.cell) c.requires.fit c.requires.within c.in_ok-cell.ensures
    ((λ j. slice_get (sym c.requires.types j) (c.requires.place j)) ∙ there)
