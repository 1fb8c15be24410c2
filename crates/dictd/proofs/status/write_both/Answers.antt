use Rattle.dictd.proofs.Telling.{wrote-both, wrote-first}
use Rattle.dictd.proofs.status.write_both.Goals as goal

pub returns-in-Ok-clause-bytes : goal.returns-in-Ok-clause-bytes
returns-in-Ok-clause-bytes g c = wrote-both _ _ _ c.args.first.now c.args.second.now c.write_all-in-Ok.result c.in-Ok.ensures.bytes c.write_all-in-Ok.ensures.bytes

pub returns-in-Err-clause-bytes : goal.returns-in-Err-clause-bytes
returns-in-Err-clause-bytes g c = wrote-first _ _ c.args.first.now c.args.second.now _ _ c.in-Err.ensures.bytes
