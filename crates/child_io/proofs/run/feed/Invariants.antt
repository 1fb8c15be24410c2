use Rattle.std.proofs.Common.{length, ◌-◌, ◌≡◌, ◌≤◌, Some}
use Rattle.child_io.specs.Told.{fresh}
use Rattle.child_io.proofs.Feeds.{Feeding}
use Rattle.child_io.proofs.Histories.{Writing}
use Rattle.child_io.specs.declared.child.Script.{Script}
use Rattle.child_io.proofs.run.feed.Given as goal

abbrev pub invariant-loop-done : goal.invariant-loop-done
invariant-loop-done g l = record {
  still : g.C.Child.faults l.child ≡ g.C.Child.faults l.initial.child;
  ended : g.C.Child.ended l.child ≡ g.C.Child.ended l.initial.child;
  within : l.done ≤ length l.input;
  told : (s : Script) → g.C.Child.told l.initial.child ≡ Some (fresh s) → Feeding s l.input l.done (g.C.Child.told l.child);
  calls : Writing g.C.Child.history l.initial.child l.input l.done l.child;
}

abbrev pub decreases-loop-done : goal.decreases-loop-done
decreases-loop-done g l = length l.input - l.done
