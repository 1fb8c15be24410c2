use Rattle.std.proofs.Common.{◌<◌, ℕ}
use Rattle.dict_schema.specs.declared.definition.Column.{Column}
use Rattle.dict_functions.specs.Asking.{IsAttributeNamed}
use Rattle.dict_functions.proofs.asking.attribute_named.Given as goal

abbrev pub invariant-loop-place : goal.invariant-loop-place
invariant-loop-place l = (k : ℕ) (column : Column) → k < l.place → ¬ (IsAttributeNamed l.d l.name k column)
