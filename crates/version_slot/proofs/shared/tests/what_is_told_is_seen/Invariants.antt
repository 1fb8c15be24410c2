use Rattle.std.proofs.Common.{◌≡◌}
use Rattle.version_slot.proofs.shared.tests.what_is_told_is_seen.Given as goal

abbrev pub invariant-loop-value : goal.invariant-loop-value
invariant-loop-value g l = l.viewer.slot ≡ l.publisher.slot
