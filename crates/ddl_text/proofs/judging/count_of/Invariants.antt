use Rattle.std.proofs.Common.{◌≡◌, ◌≤◌, ◌+◌, length}
use Rattle.ddl_text.specs.Items.{count_of}
use Rattle.ddl_text.proofs.judging.count_of.Given as goal

abbrev pub invariant-loop-rest : goal.invariant-loop-rest
invariant-loop-rest l = record { same : l.count + count_of l.kind l.rest ≡ count_of l.kind l.items; few : l.count + length l.rest ≤ length l.items }

abbrev pub decreases-loop-rest : goal.decreases-loop-rest
decreases-loop-rest l = length l.rest
