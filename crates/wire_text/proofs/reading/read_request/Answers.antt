use Rattle.std.proofs.Common.{Err}
use Rattle.wire_text.proofs.Answering.{lines_answer, only_answer, without_fields, without_rows}
use Rattle.wire_text.proofs.reading.read_request.Goals as goal

pub returns-in-Err : goal.returns-in-Err
returns-in-Err c =
    let exact = without_rows c.args.line.now c.args.keys.now c.in-Err.fault c.in-Err.ensures in
    record { exact = exact; only = only_answer c.args.line.now c.args.keys.now (Err c.in-Err.fault) exact }

pub returns-in-Ok-read_row : goal.returns-in-Ok-read_row
returns-in-Ok-read_row c =
    let exact = lines_answer c.args.line.now c.args.keys.now c.in-Ok-read_row.fields c.in-Ok.rows c.read_asked.result
    c.in-Ok-read_row.ensures c.in-Ok.ensures c.read_asked.ensures in
    record { exact = exact; only = only_answer c.args.line.now c.args.keys.now c.read_asked.result exact }

pub returns-in-Err-read_row : goal.returns-in-Err-read_row
returns-in-Err-read_row c =
    let exact = without_fields c.args.line.now c.args.keys.now c.in-Err-read_row.fault c.in-Err-read_row.ensures in
    record { exact = exact; only = only_answer c.args.line.now c.args.keys.now (Err c.in-Err-read_row.fault) exact }
