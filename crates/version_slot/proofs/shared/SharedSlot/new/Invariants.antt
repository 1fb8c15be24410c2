use Rattle.std.proofs.Common.{◌≡◌, Some}
use Rattle.std.specs.Prelude.{replicate}
use Rattle.left_right.specs.Sides.{view}
use Rattle.version_slot.specs.Copies.{which}
use Rattle.version_slot.specs.SharedSlots.{no_view_yet, nothing_yet}
use Rattle.version_slot.proofs.shared.SharedSlot.new.Given as goal

abbrev pub invariant-loop : goal.invariant-loop
invariant-loop g l =
    (l.copies.writer.desk.shown.value ≡ l.told) × (view l.copies.writer.desk.place ≡ Some (which l.told.slot))
    × (l.told ≡ nothing_yet l.counter-2) × (l.viewers ≡ replicate l.counter (no_view_yet l.counter-2))
