use Rattle.std.proofs.Common.{◌≡◌, List, Some, slice_get, take}
use Rattle.dict_value.specs.declared.value.Value.{Value}
use Rattle.dict_version.proofs.version.Version.row.Given as goal

abbrev pub invariant-loop-column : goal.invariant-loop-column
invariant-loop-column g l = (row : List Value) → slice_get l.self.rows l.place ≡ Some row → l.row ≡ take l.column row
