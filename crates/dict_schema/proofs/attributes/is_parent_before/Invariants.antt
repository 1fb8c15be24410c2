use Rattle.std.proofs.Common.{◌≡◌, ◌<◌, ℕ, Some, IsTrue, slice_get}
use Rattle.dict_schema.specs.declared.definition.Column.{Column}
use Rattle.dict_schema.proofs.attributes.is_parent_before.Given as goal

-- no column before this one names a parent
abbrev pub invariant-loop-earlier : goal.invariant-loop-earlier
invariant-loop-earlier l =
    (k : ℕ) → k < l.earlier → (column : Column) → slice_get l.d.columns k ≡ Some column → IsTrue column.hierarchical → ⊥
