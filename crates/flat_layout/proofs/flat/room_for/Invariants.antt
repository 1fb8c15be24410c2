-- The keys so far are below the room, which is within the limit.
use Rattle.std.proofs.Common.{◌<◌, ◌≤◌, ℕ, get_or}
use Rattle.flat_layout.proofs.flat.room_for.Given as goal

abbrev pub invariant-loop-key : goal.invariant-loop-key
invariant-loop-key l = record {
  room : l.room ≤ l.max;
  within : (place : ℕ) → place < l.key-index → get_or l.keys place 0 < l.room;
}
