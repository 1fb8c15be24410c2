use Rattle.std.proofs.Common.{◌≡◌, drop}
use Rattle.wire_text.specs.steps.Heads.{means}
use Rattle.wire_text.proofs.heads.means.Given as goal

abbrev pub invariant-loop-byte : goal.invariant-loop-byte
invariant-loop-byte l = means l.text l.word ≡ means l.rest (drop l.byte-index l.word)
