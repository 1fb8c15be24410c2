use Rattle.dict_schema.proofs.KeyPlaces.{IsSeen}
use Rattle.dict_schema.proofs.keys.is_key_twice.Given as goal

abbrev pub invariant-loop-key : goal.invariant-loop-key
invariant-loop-key l = IsSeen l.keys l.place l.key-index l.seen
