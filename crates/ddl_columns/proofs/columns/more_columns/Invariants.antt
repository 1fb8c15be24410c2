use Rattle.std.proofs.Common.{◌≤◌, length}
use Rattle.ddl_tokens.specs.Lists.{SoFar, next_item}
use Rattle.ddl_columns.specs.Reading.{column_at}
use Rattle.ddl_columns.proofs.columns.more_columns.Given as goal

abbrev pub invariant-loop-columns : goal.invariant-loop-columns
invariant-loop-columns l = record { so_far : SoFar (next_item 44 column_at) l.initial.columns l.initial.r l.columns l.r; shorter : length l.r ≤ length l.initial.r }

abbrev pub decreases-loop-columns : goal.decreases-loop-columns
decreases-loop-columns l = length l.r
