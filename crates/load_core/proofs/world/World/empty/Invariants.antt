use Rattle.std.proofs.Common.{◌≡◌, replicate}
use Rattle.load_core.specs.WorldSteps.{empty_caller}
use Rattle.load_core.proofs.world.World.empty.Given as goal

abbrev pub invariant-loop-caller : goal.invariant-loop-caller
invariant-loop-caller l = l.all ≡ replicate l._caller (replicate l.dictionaries empty_caller)
