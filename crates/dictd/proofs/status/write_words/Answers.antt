use Rattle.dictd.proofs.Telling.{wrote-both, wrote-first}
use Rattle.dictd.proofs.status.write_words.Goals as goal

pub returns-in-Ok-clause-bytes : goal.returns-in-Ok-clause-bytes
returns-in-Ok-clause-bytes g c = wrote-both _ _ _ _ _ c.write_both.result c.in-Ok.ensures.bytes c.write_both.ensures.bytes

pub returns-in-Err-clause-bytes : goal.returns-in-Err-clause-bytes
returns-in-Err-clause-bytes g c = wrote-first _ _ _ _ _ _ c.in-Err.ensures.bytes
