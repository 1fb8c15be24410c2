use Rattle.std.proofs.Common.{◌≡◌, List, Some, slice_get, take}
use Rattle.dict_value.specs.declared.value.Value.{Value}
use Rattle.overlay.proofs.keys.key_at.Given as goal

abbrev pub invariant-loop-column : goal.invariant-loop-column
invariant-loop-column l = (row : List Value) → slice_get l.rows l.place ≡ Some row → l.key ≡ take l.column row
