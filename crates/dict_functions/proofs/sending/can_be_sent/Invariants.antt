use Rattle.std.proofs.Common.{take}
use Rattle.std.specs.Prelude.{All}
use Rattle.cache_layout.specs.Fetching.{CanBeSent}
use Rattle.dict_functions.proofs.sending.can_be_sent.Given as goal

abbrev pub invariant-loop-place : goal.invariant-loop-place
invariant-loop-place l = All (CanBeSent l.format l.types) (take l.place l.rows)
