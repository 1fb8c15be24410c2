use Rattle.std.proofs.Common.{◌≡◌, ◌<◌, ℕ, Some, slice_get}
use Rattle.dict_schema.specs.Sound.{IsSoundType}
use Rattle.dict_schema.specs.declared.definition.Column.{Column}
use Rattle.loader.proofs.load_tests.making.has_sound_types.Given as goal

abbrev pub invariant-loop-place : goal.invariant-loop-place
invariant-loop-place l =
    (k : ℕ) (column : Column) → k < l.place → slice_get l.columns k ≡ Some column → IsSoundType column.ty
