-- The bytes begin with the key's exactly where what is left begins with those of the values left.
use Rattle.std.proofs.Common.{◌≡◌, ◌↔◌, ◌++◌, ℕ, List, drop}
use Rattle.hashed_layout.specs.KeyBytes.{key_bytes}
use Rattle.hashed_layout.proofs.key_bytes.begins_with_key.Given as goal

abbrev pub invariant-loop-value : goal.invariant-loop-value
invariant-loop-value l =
    (more : List ℕ) → (l.bytes ≡ key_bytes l.key ++ more) ↔ (l.rest ≡ key_bytes (drop l.value-index l.key) ++ more)
