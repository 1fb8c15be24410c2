use Rattle.request_reader.proofs.Hearing.{single_asks, single_bad, single_lost}
use Rattle.request_reader.proofs.reader.read_single.Goals as goal

pub returns-in-Ok : goal.returns-in-Ok
returns-in-Ok c = single_asks c.args.line.now _ c.in-Ok.ensures.exact

pub returns-in-Err-Bad : goal.returns-in-Err-Bad
returns-in-Err-Bad c = single_bad c.args.line.now (rw c.in-Err-Bad.field-0-is at c.in-Err-Bad.ensures.exact)

pub returns-in-Err-NoMemory : goal.returns-in-Err-NoMemory
returns-in-Err-NoMemory c = single_lost c.args.line.now c.is_quit.result c.is_quit.ensures
