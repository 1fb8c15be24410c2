-- The keys are there, and the parents so far.
use Rattle.std.specs.Prelude.{Contains, slice_get}
use Rattle.std.proofs.Common.{◌≡◌, ◌+◌, ◌<◌, ◌≤◌, ℕ, Some, length}
use Rattle.dict_value.specs.FindByKey.{HasKeyAt}
use Rattle.hier.specs.declared.hier.Parent.TheVariants.{Of}
use Rattle.hier.proofs.members.all_of.Given as goal

abbrev pub invariant-loop-parent : goal.invariant-loop-parent
invariant-loop-parent l = record {
  keys : (place key : ℕ) → HasKeyAt l.keys key place → Contains l.all.items key;
  parents : (place parent : ℕ) → place < l.parent-index → slice_get l.parents place ≡ Some (Of parent)
      → Contains l.all.items parent;
  len : length l.all.items ≤ length l.keys + l.parent-index;
}
