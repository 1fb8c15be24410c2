use Rattle.std.proofs.Common.{◌≡◌, ◌<◌, ℕ, Some, slice_get, IsTrue}
use Rattle.dict_schema.specs.declared.definition.Column.{Column}
use Rattle.dict_version.proofs.columns.parent_column.Given as goal

abbrev pub invariant-loop-place : goal.invariant-loop-place
invariant-loop-place l =
    (k : ℕ) (column : Column) → k < l.place → slice_get l.d.columns k ≡ Some column → ¬ (IsTrue column.hierarchical)
