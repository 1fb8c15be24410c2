use Rattle.wire_text.proofs.BlockHeads.{line_put}
use Rattle.wire_text.proofs.heads.heads_block.Goals as goal

pub returns-in-None : goal.returns-in-None
returns-in-None c = λ h. c.in-None.ensures h.size h.block

pub returns-in-Ok : goal.returns-in-Ok
returns-in-Ok c = line_put c.args.line.now _ c.in-Ok.fields _ c.in-Some.ensures.0 c.in-Ok.ensures c.is_head_of_block.ensures

pub returns-in-Err-Bad : goal.returns-in-Err-Bad
returns-in-Err-Bad c = λ h. (rw c.in-Err-Bad.field-0-is at c.in-Err-Bad.ensures) _ h.fields
