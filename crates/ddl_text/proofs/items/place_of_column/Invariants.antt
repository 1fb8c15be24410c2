use Rattle.std.proofs.Common.{◌≡◌, ◌≤◌, ◌+◌, length}
use Rattle.ddl_text.specs.Items.{place_from}
use Rattle.ddl_text.proofs.items.place_of_column.Given as goal

abbrev pub invariant-loop-rest : goal.invariant-loop-rest
invariant-loop-rest l = record { same : place_from l.place l.rest l.name ≡ place_from 0 l.columns l.name; few : l.place + length l.rest ≤ 64 }

abbrev pub decreases-loop-rest : goal.decreases-loop-rest
decreases-loop-rest l = length l.rest
