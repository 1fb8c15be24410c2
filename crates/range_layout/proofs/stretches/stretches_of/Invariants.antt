-- The stretches so far.
use Rattle.std.proofs.Common.{◌≡◌, ◌<◌, ℕ, length}
use Rattle.std.specs.Prelude.{slice_index}
use Rattle.range_layout.specs.Stretches.{IsStretchOf, stretch_at}
use Rattle.range_layout.specs.Points.{ends_of_row}
use Rattle.range_layout.proofs.stretches.stretches_of.Given as goal

abbrev pub invariant-loop-row : goal.invariant-loop-row
invariant-loop-row l = record {
  len : length l.stretches.items ≡ l.row;
  each : (row : ℕ) → row < l.row
      → IsStretchOf l.points (slice_index l.numbers row) (ends_of_row l.ends row) (stretch_at l.stretches.items row);
}
