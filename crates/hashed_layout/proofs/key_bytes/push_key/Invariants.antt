-- What was appended goes on with the values left.
use Rattle.std.proofs.Common.{◌≡◌, ◌++◌, drop}
use Rattle.hashed_layout.specs.KeyBytes.{key_bytes}
use Rattle.hashed_layout.proofs.key_bytes.push_key.Given as goal

abbrev pub invariant-loop-value : goal.invariant-loop-value
invariant-loop-value l = l.out ++ key_bytes (drop l.value-index l.key) ≡ l.fn.out ++ key_bytes l.key
