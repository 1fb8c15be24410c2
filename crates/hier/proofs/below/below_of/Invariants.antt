-- The members from `left` on are told.
use Rattle.std.proofs.Common.{◌≡◌, ◌+◌, ◌<◌, ◌≤◌, ℕ, length, get_or}
use Rattle.hier.specs.Members.{TellsNext}
use Rattle.hier.proofs.below.below_of.Given as goal

abbrev pub invariant-loop-left : goal.invariant-loop-left
invariant-loop-left l = record {
  firsts_len : length l.firsts.items ≡ length l.ups;
  nexts_len : length l.nexts.items ≡ length l.ups;
  left : l.left ≤ length l.ups;
  first : (member : ℕ) → member < length l.ups
      → TellsNext l.ups l.left (member + 1) (get_or l.firsts.items member 0);
  next : (member : ℕ) → l.left ≤ member → member < length l.ups → 0 < get_or l.ups member 0
      → TellsNext l.ups (member + 1) (get_or l.ups member 0) (get_or l.nexts.items member 0);
}

abbrev pub decreases-loop-left : goal.decreases-loop-left
decreases-loop-left l = l.left
