use Rattle.loader.proofs.LargeKeys.{AreBelow}
use Rattle.loader.proofs.making.first_large_key.Given as goal

abbrev pub invariant-loop-place : goal.invariant-loop-place
invariant-loop-place l = AreBelow l.rows l.limit l.place
