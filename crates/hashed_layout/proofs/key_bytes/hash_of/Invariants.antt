-- The state goes on with the values left.
use Rattle.std.proofs.Common.{◌≡◌, drop}
use Rattle.hashed_layout.specs.KeyHash.{hashed_on}
use Rattle.hashed_layout.specs.declared.key_bytes.TheConstants.{SEED}
use Rattle.hashed_layout.proofs.key_bytes.hash_of.Given as goal

abbrev pub invariant-loop-value : goal.invariant-loop-value
invariant-loop-value l = hashed_on l.state (drop l.value-index l.key) ≡ hashed_on SEED l.key
