use Rattle.row_text.proofs.OneReading.{one-row}
use Rattle.wire_text.proofs.RowReadings.{row_fault}
use Rattle.wire_text.proofs.reading.read_row.Goals as goal

pub returns-in-Ok : goal.returns-in-Ok
returns-in-Ok c =
    let row = c.in-Ok.ensures.exact (λ e. cc) in
    (row, λ other q. one-row c.args.line.now other c.in-Ok.fields q row)

pub returns-in-Err : goal.returns-in-Err
returns-in-Err c = rw c.request_fault.ensures (row_fault c.args.line.now c.in-Err.fault c.in-Err.ensures.only)
