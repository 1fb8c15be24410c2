-- The bytes begin with the digits exactly where those behind begin with the digits left.
use Rattle.std.proofs.Common.{◌≡◌, ◌↔◌, ◌+◌, ◌≤◌, ◌++◌, ℕ, List, drop, length}
use Rattle.hashed_layout.specs.KeyBytes.{digits_of}
use Rattle.hashed_layout.proofs.key_bytes.digits_met.Given as goal

abbrev pub invariant-loop-left : goal.invariant-loop-left
invariant-loop-left l = record {
  within : l.count ≤ length l.bytes;
  long : length (digits_of l.number) ≡ l.count + length (digits_of l.left);
  moved : (rest : List ℕ) → (l.bytes ≡ digits_of l.number ++ rest) ↔ (drop l.count l.bytes ≡ digits_of l.left ++ rest);
}

abbrev pub decreases-loop-left : goal.decreases-loop-left
decreases-loop-left l = l.left
