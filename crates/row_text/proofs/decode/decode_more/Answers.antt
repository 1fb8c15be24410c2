use Rattle.std.proofs.Common.{◌≤◌, length, arith, Result}
use Rattle.row_text.specs.declared.decode.DecodeFault.{DecodeFault}
use Rattle.row_text.specs.Growing.{AddsRowsOf}
use Rattle.row_text.proofs.Decoded.{handed-on}
use Rattle.row_text.proofs.Growing.{more-fault, more-last, whole-paced}
use Rattle.row_text.proofs.decode.decode_more.Goals as goal

pub returns-in_err-size-clause-adds : goal.returns-in_err-size-clause-adds
returns-in_err-size-clause-adds g c =
    let columns = g.C.Columns.columns c.args.columns.now in
    let old = c.args.rows.now.rows in
    let new = c.decode_whole.new.rows.rows in
    let fault : DecodeFault = c.in_err-size.field-0.0 in
    handed-on (λ (a : Result (Unit {0}) DecodeFault). AddsRowsOf c.args.format columns c.args.lines_before old c.args.text.now a new) c.from_residual.result fault c.from_residual.ensures.1
    (more-fault c.args.format columns c.args.text.now c.args.lines_before c.decode_whole.new.lines old new new fault c.in_err-size.ensures.adds)

pub overflow_add-lines : goal.overflow_add-lines
overflow_add-lines g c =
    let columns = g.C.Columns.columns c.args.columns.now in
    let paced = whole-paced c.args.format columns c.args.text.now c.in_ok-size.size c.args.lines_before c.decode_whole.new.lines c.args.rows.now.rows c.decode_whole.new.rows.rows (c.in_ok-size.ensures.adds (λ e. cc)) in
    let within : c.in_ok-size.size ≤ length c.args.text.now = (c.in_ok-size.ensures.adds (λ e. cc)).1 in
    omega (arith, paced, within, c.if-size-text.false, c.requires.bytes)

pub returns-clause-adds : goal.returns-clause-adds
returns-clause-adds g c =
    let columns = g.C.Columns.columns c.args.columns.now in
    let old = c.args.rows.now.rows in
    more-last c.args.format columns c.args.text.now c.in_ok-size.size c.args.lines_before c.decode_whole.new.lines old c.decode_whole.new.rows.rows c.take_line.new.rows.rows
    (c.in_ok-size.ensures.adds (λ e. cc)) c.if-size-text.false c.take_line.result c.take_line.ensures.brings
