use Rattle.std.proofs.Common.{◌≡◌, ◌<◌, ℕ, Some, slice_get}
use Rattle.dict_schema.specs.Sound.{IsSoundType}
use Rattle.dict_schema.specs.declared.definition.Arg.{Arg}
use Rattle.dict_functions.proofs.tests.calls.has_sound_types.Given as goal

abbrev pub invariant-loop-place : goal.invariant-loop-place
invariant-loop-place l =
    (k : ℕ) (argument : Arg) → k < l.place → slice_get l.arguments k ≡ Some argument → IsSoundType argument.ty
