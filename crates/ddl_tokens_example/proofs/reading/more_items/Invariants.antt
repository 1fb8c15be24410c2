use Rattle.std.proofs.Common.{◌≤◌, length}
use Rattle.ddl_tokens.specs.Lists.{SoFar, next_item}
use Rattle.ddl_tokens_example.specs.Reading.{item_at}
use Rattle.ddl_tokens_example.proofs.reading.more_items.Given as goal

abbrev pub invariant-loop-items : goal.invariant-loop-items
invariant-loop-items l = record { so_far : SoFar (next_item 44 item_at) l.initial.items l.initial.r l.items l.r; shorter : length l.r ≤ length l.initial.r }

abbrev pub decreases-loop-items : goal.decreases-loop-items
decreases-loop-items l = length l.r
