use Rattle.std.proofs.Common.{◌≡◌, List, Some, slice_get, take}
use Rattle.dict_value.specs.declared.value.Value.{Value}
use Rattle.overlay.proofs.laying.push_row.Given as goal

abbrev pub invariant-loop-column : goal.invariant-loop-column
invariant-loop-column l = record {
  types : l.out.types ≡ l.initial.out.types;
  rows : l.out.rows ≡ l.initial.out.rows;
  open_row : (row : List Value) → slice_get l.rows l.place ≡ Some row → l.out.open_row ≡ take l.column row;
}
