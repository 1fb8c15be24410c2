use Rattle.std.proofs.Common.{◌≡◌, ◌≤◌, length}
use Rattle.std.specs.List.{filter, range_with_len}
use Rattle.dict_schema.specs.Parts.{is_attribute}
use Rattle.dict_version.proofs.columns.attributes_before.Given as goal

abbrev pub invariant-loop-place : goal.invariant-loop-place
invariant-loop-place l = record {
  count : l.count ≡ length (filter (is_attribute l.d) (range_with_len 0 l.place));
  bound : l.count ≤ l.place;
}
