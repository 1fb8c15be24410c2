-- The numbers so far.
use Rattle.std.specs.Prelude.{slice_index}
use Rattle.std.proofs.Common.{◌≡◌, ◌<◌, ℕ, List, length}
use Rattle.dict_value.specs.FindByKey.{HasKeyAt, IsLeastPlace}
use Rattle.dict_value.specs.declared.value.Value.{Value}
use Rattle.range_layout.proofs.ranged.numbers_of.Given as goal

abbrev pub invariant-loop-key : goal.invariant-loop-key
invariant-loop-key l = record {
  len : length l.numbers.items ≡ l.key-index;
  least : (row : ℕ) (key : List Value) → row < l.key-index → HasKeyAt l.keys key row
      → IsLeastPlace l.keys key (slice_index l.numbers.items row);
}
