use Rattle.std.proofs.Common.{◌≡◌, Some, List, slice_get, take}
use Rattle.dict_value.specs.declared.value.Value.{Value}
use Rattle.dict_version.proofs.columns.first_values.Given as goal

abbrev pub invariant-loop-column : goal.invariant-loop-column
invariant-loop-column l = (row : List Value) → slice_get l.rows l.place ≡ Some row → l.values ≡ take l.column row
