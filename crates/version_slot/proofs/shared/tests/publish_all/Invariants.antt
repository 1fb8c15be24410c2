use Rattle.std.proofs.Common.{◌≡◌}
use Rattle.version_slot.proofs.shared.tests.publish_all.Given as goal

abbrev pub invariant-loop : goal.invariant-loop
invariant-loop g l = (l.publisher.slot ≡ l.fn.publisher.slot) × (l.newest.slot ≡ l.fn.publisher.slot)
