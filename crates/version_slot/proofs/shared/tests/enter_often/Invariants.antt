use Rattle.std.proofs.Common.{◌≡◌}
use Rattle.version_slot.proofs.shared.tests.enter_often.Given as goal

abbrev pub invariant-loop : goal.invariant-loop
invariant-loop l = l.viewer.slot ≡ l.fn.viewer.slot
