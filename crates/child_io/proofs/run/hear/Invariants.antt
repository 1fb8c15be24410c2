use Rattle.std.proofs.Common.{◌≡◌, ◌≤◌, ◌-◌, length, true, false}
use Rattle.child_io.proofs.Hears.{HandedOn}
use Rattle.child_io.proofs.Histories.{Reading}
use Rattle.child_io.proofs.run.hear.Given as goal

abbrev pub invariant-loop-count : goal.invariant-loop-count
invariant-loop-count g l = record {
  still : g.C.Child.faults l.child ≡ g.C.Child.faults l.initial.child;
  closed : g.C.Child.closed l.child ≡ true;
  opened : g.C.Child.ended l.child ≡ false;
  kept : g.P.Pieces.kept l.out ≡ g.P.Pieces.kept l.initial.out;
  room : length l.buf ≡ 65536;
  within : l.total ≤ l.limit;
  handed : HandedOn (g.P.Pieces.took l.out) (Reading g.C.Child.history l.initial.child l.read_ms l.child) (g.C.Child.told l.initial.child) (g.C.Child.told l.child) l.limit l.total;
}

abbrev pub decreases-loop-count : goal.decreases-loop-count
decreases-loop-count g l = l.limit - l.total
