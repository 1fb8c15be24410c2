use Rattle.std.proofs.Common.{◌∙◌, sym}
use Rattle.wire_text.proofs.reading.read_block.Goals as goal

pub returns-in_default : goal.returns-in_default
returns-in_default c = λ r b. c.in_default.ensures _ b.3

pub returns-then-count-len : goal.returns-then-count-len
returns-then-count-len c = λ r b. let same = c.in-Some.ensures.1 _ b.3 in c.if-count-len.true (sym same ∙ sym c.len.ensures)
