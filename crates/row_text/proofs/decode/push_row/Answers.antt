use Rattle.std.proofs.Common.{sym, subst, arith}
use Rattle.dict_value.specs.declared.value.Value.{Value}
use Rattle.dict_value.specs.Values.{FitsColumn}
use Rattle.row_text.proofs.Fitted.{row-fits, row-room, row-whole}
use Rattle.row_text.proofs.decode.push_row.Goals as goal

pub push_cell-requires-clause-room : goal.push_cell-requires-clause-room
push_cell-requires-clause-room c =
    row-room c.args.rows.now.types c.loop-value.rows.types c.args.row.now c.as_slice-value-items.result.now c.loop-value.rows.open_row c.loop-value.value-index c.requires.fits c.loop-value.invariant.types
    c.as_slice-value-items.ensures c.loop-value.invariant.values (omega (arith, c.loop-value-test.true))

pub push_cell-requires-clause-fits : goal.push_cell-requires-clause-fits
push_cell-requires-clause-fits c t there =
    subst (λ (v : Value). FitsColumn t v) (sym c.cell_of.ensures)
    (row-fits c.args.rows.now.types c.loop-value.rows.types c.args.row.now c.as_slice-value-items.result.now c.loop-value.rows.open_row c.loop-value.value-index c.value-item.result c.requires.fits c.loop-value.invariant.types
    c.as_slice-value-items.ensures c.loop-value.invariant.values (omega (arith, c.loop-value-test.true)) c.value-item.is t there)

pub end_row-requires-clause-whole : goal.end_row-requires-clause-whole
end_row-requires-clause-whole c =
    row-whole c.args.rows.now.types c.loop-value.rows.types c.args.row.now c.as_slice-value-items.result.now c.loop-value.rows.open_row c.loop-value.value-index c.requires.fits c.loop-value.invariant.types
    c.as_slice-value-items.ensures c.loop-value.invariant.values (omega (arith, c.loop-value-test.false))
