use Rattle.std.proofs.Common.{◌≤◌, length}
use Rattle.ddl_tokens.specs.Lists.{SoFar, next_item}
use Rattle.ddl_tokens.specs.Reading.{bytes_at, is_name}
use Rattle.ddl_columns.proofs.keys.more_names.Given as goal

abbrev pub invariant-loop-names : goal.invariant-loop-names
invariant-loop-names l = record { so_far : SoFar (next_item 44 (bytes_at is_name)) l.initial.names l.initial.r l.names l.r; shorter : length l.r ≤ length l.initial.r }

abbrev pub decreases-loop-names : goal.decreases-loop-names
decreases-loop-names l = length l.r
