-- Behind the last value the state is that of the key.
use Rattle.std.proofs.Common.{◌∙◌, ap, arith, length, sym}
use Rattle.hashed_layout.specs.KeyHash.{hash_of}
use Rattle.hashed_layout.proofs.KeyLemmas.{hashed-all}
use Rattle.hashed_layout.proofs.key_bytes.hash_of.Goals as goal

pub returns : goal.returns
unfolding hash_of
returns c =
    let key = c.args.key.now in
    let len = ap length c.as_slice-value-items.ensures in
    sym (hashed-all c.loop-value.state key c.loop-value.value-index (omega (arith, len))) ∙ c.loop-value.invariant
