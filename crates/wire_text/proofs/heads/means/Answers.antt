use Rattle.std.proofs.Common.{sym, ◌∙◌, arith}
use Rattle.wire_text.proofs.Quits.{means_none}
use Rattle.wire_text.proofs.heads.means.Goals as goal

pub returns-in-None : goal.returns-in-None
returns-in-None c = sym (c.loop-byte.invariant
    ∙ means_none c.loop-byte.rest.now c.args.word.now c.loop-byte.byte-index (omega arith) (sym (rw c.in-None.is at c.first_meant.ensures)))
