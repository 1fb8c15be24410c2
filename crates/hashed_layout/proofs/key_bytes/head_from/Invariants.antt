-- The digits so far stand behind the kind, and the others follow.
use Rattle.std.proofs.Common.{◌≡◌, ◌+◌, ◌-◌, ◌≤◌, ◌∷◌, ◌++◌, length, take}
use Rattle.hashed_layout.specs.KeyBytes.{digits_to}
use Rattle.hashed_layout.proofs.key_bytes.head_from.Given as goal

abbrev pub invariant-loop-size : goal.invariant-loop-size
invariant-loop-size l = record {
  len : length l.bytes ≡ 18;
  most : l.size ≤ 16;
  digits : take (l.size + 2) l.bytes ++ digits_to (16 - l.size) l.rest ≡ l.kind ∷ 0 ∷ digits_to 16 l.number;
}

abbrev pub decreases-loop-size : goal.decreases-loop-size
decreases-loop-size l = 16 - l.size
