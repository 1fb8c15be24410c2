use Rattle.std.proofs.Common.{take}
use Rattle.load_core.specs.WorldSteps.{Run, empty_world}
use Rattle.load_core.proofs.world.World.run_by.Given as goal

abbrev pub invariant-loop-event : goal.invariant-loop-event
invariant-loop-event g l =
    Run g.J.Judge.judges (empty_world l.dictionaries l.definitions l.callers) (take l.event-index l.events) l.world
