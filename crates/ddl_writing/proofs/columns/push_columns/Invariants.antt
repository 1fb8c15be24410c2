use Rattle.std.proofs.Common.{◌≡◌, ◌++◌}
use Rattle.std.specs.List.{flat_map, range_with_len}
use Rattle.ddl_writing.specs.Canonical.{listed_column}
use Rattle.ddl_writing.proofs.columns.push_columns.Given as goal

abbrev pub invariant-loop-place : goal.invariant-loop-place
invariant-loop-place l = l.out ≡ l.fn.out ++ flat_map (listed_column l.d) (range_with_len 0 l.place)
