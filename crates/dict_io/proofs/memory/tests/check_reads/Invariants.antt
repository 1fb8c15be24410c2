use Rattle.std.proofs.Common.{◌≡◌, false}
use Rattle.dict_io.proofs.memory.tests.check_reads.Given as goal

abbrev pub invariant-loop-got : goal.invariant-loop-got
invariant-loop-got g l = g.S.Source.ended l.source ≡ false
