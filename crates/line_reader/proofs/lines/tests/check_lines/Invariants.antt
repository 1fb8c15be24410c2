use Rattle.std.proofs.Common.{◌≡◌, false}
use Rattle.line_reader.proofs.lines.tests.check_lines.Given as goal

abbrev pub invariant-loop-next : goal.invariant-loop-next
invariant-loop-next g l = g.S.Source.ended l.source ≡ false
