-- The rule of the two copies of what a slot shows its viewers: each viewer that knows of which slot they are knows the
-- right one. Which list they show, and that views only grow, is the rule of the slot.
use Rattle.std.specs.Prelude.{◌≡◌, ℕ, List, Option, IfSome}
use mathlib.Core.Option.{some}
use lib.ListN.{get_elem?}
use Rattle.version_slot.specs.SharedSlots.{SlotName}
use Rattle.version_slot.specs.declared.shared.rule.Which.{Which}

abbrev pub which : SlotName → Which
which slot = record { number = slot.number; log_name = slot.log_name; cells_name = slot.cells_name }

-- what is known of the slot is so
abbrev pub Knows : Option Which → SlotName → Type 0
Knows known slot = IfSome known (λ w. w ≡ which slot)

-- each that knows a slot knows this one
abbrev pub AllKnow : SlotName → List (Option Which) → Type 0
AllKnow slot all = (seat : ℕ) (known : Option Which) → get_elem? all seat ≡ some known → Knows known slot
