use Rattle.std.proofs.Common.{IfSome}
use Rattle.version_slot.specs.Views.{HasEntries}
use Rattle.loader.proofs.board_tests.boards_tell_what_was_posted.Given as goal

abbrev pub invariant-loop-moment : goal.invariant-loop-moment
invariant-loop-moment g l = IfSome l.board.newest (HasEntries l.slot)
