use Rattle.std.proofs.Common.{◌≡◌}
use Rattle.packed_rows.specs.Columns.{cut_front}
use Rattle.packed_rows.proofs.builder.cut_front.Given as goal

abbrev pub invariant-loop-place : goal.invariant-loop-place
invariant-loop-place l = l.columns.items ≡ cut_front l.count l.place l.initial.columns.items
