use Rattle.std.proofs.Common.{◌≡◌, map}
use Rattle.std.specs.List.{range_with_len}
use Rattle.load_core.specs.WorldSteps.{empty_dict}
use Rattle.load_core.proofs.world.unpublished.Given as goal

abbrev pub invariant-loop-number : goal.invariant-loop-number
invariant-loop-number l = l.all ≡ map empty_dict (range_with_len 0 l.number)
