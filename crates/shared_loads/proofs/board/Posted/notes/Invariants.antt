use Rattle.std.proofs.Common.{◌≡◌, map}
use Rattle.shared_loads.proofs.board.Posted.notes.Given as goal

abbrev pub invariant-loop-note : goal.invariant-loop-note
invariant-loop-note g l = l.notes ≡ map (λ note. note.now) l.yielded
