use Rattle.std.proofs.Common.{◌≡◌, ◌≤◌, ◌+◌, ◌++◌, length}
use Rattle.ddl_text.specs.Items.{settled_from}
use Rattle.ddl_text.proofs.items.settled_columns.Given as goal

abbrev pub invariant-loop-column : goal.invariant-loop-column
invariant-loop-column l = record {
  same : l.columns ++ settled_from l.keys l.range l.place l.written ≡ settled_from l.keys l.range 0 l.initial.written;
  few : l.place + length l.written ≤ 64;
}

abbrev pub decreases-loop-column : goal.decreases-loop-column
decreases-loop-column l = length l.written
