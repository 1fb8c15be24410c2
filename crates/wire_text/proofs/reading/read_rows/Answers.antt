use Rattle.std.proofs.Common.{List, ℕ, Err, subst, take_all, add-one}
use Rattle.std.specs.List.{AllZip}
use Rattle.row_text.specs.TabRow.{IsTabRow}
use Rattle.wire_text.specs.steps.Asked.{RowRead}
use Rattle.wire_text.proofs.RowReadings.{rows_fault, rows_whole, zip_more}
use Rattle.wire_text.proofs.reading.read_rows.Goals as goal

pub returns-in-Err : goal.returns-in-Err
returns-in-Err c = rows_fault c.args.lines.now c.loop-line.line-index c.line-item.result c.in-Err.fault c.loop-line-test.true c.line-item.is
    (subst (λ (x : List ℕ). RowRead x (Err c.in-Err.fault)) c.as_slice.ensures c.in-Err.ensures)

pub loop-line-preserved : goal.loop-line-preserved
loop-line-preserved c =
    let row : IsTabRow c.line-item.result c.in-Ok.fields = subst (λ (x : List ℕ). IsTabRow x c.in-Ok.fields) c.as_slice.ensures c.in-Ok.ensures.0 in
    let more = zip_more IsTabRow c.args.lines.now c.loop-line.rows c.loop-line.line-index c.line-item.result c.in-Ok.fields
    c.loop-line-test.true c.line-item.is c.loop-line.invariant row in
    rw (c.in-Ok-push.ensures.ok, add-one) more

pub returns : goal.returns
returns c = rows_whole c.args.lines.now c.loop-line.rows
    (subst (λ (xs : List (List ℕ)). AllZip IsTabRow xs c.loop-line.rows) (take_all c.loop-line.line-index c.args.lines.now c.loop-line-test.false)
    c.loop-line.invariant)
