use Rattle.std.proofs.Common.{◌≡◌, replicate}
use Rattle.load_core.specs.WorldSteps.{empty_caller}
use Rattle.load_core.proofs.world.unknowing.Given as goal

abbrev pub invariant-loop-number : goal.invariant-loop-number
invariant-loop-number l = l.known ≡ replicate l._number empty_caller
