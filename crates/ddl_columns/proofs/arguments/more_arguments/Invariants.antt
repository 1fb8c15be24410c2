use Rattle.std.proofs.Common.{◌≤◌, length}
use Rattle.ddl_tokens.specs.Lists.{SoFar, next_item}
use Rattle.ddl_columns.specs.Reading.{argument_at}
use Rattle.ddl_columns.proofs.arguments.more_arguments.Given as goal

abbrev pub invariant-loop-arguments : goal.invariant-loop-arguments
invariant-loop-arguments l = record { so_far : SoFar (next_item 44 argument_at) l.initial.arguments l.initial.r l.arguments l.r; shorter : length l.r ≤ length l.initial.r }

abbrev pub decreases-loop-arguments : goal.decreases-loop-arguments
decreases-loop-arguments l = length l.r
