use Rattle.std.proofs.Common.{◌≡◌, take}
use Rattle.dict_functions.proofs.KeyTypes.{types_at}
use Rattle.dict_functions.proofs.keys.key_types.Given as goal

abbrev pub invariant-loop-key : goal.invariant-loop-key
invariant-loop-key l = l.types ≡ types_at l.d (take l.key-index l.d.keys)
