-- The ranks so far.
use Rattle.std.specs.Prelude.{Contains}
use Rattle.std.proofs.Common.{◌≡◌, ◌<◌, ℕ}
use Rattle.range_layout.specs.Stretches.{stretch_at, rank_of}
use Rattle.range_layout.specs.Points.{ends_of_row}
use Rattle.range_layout.proofs.ranks.ranks_of.Given as goal

abbrev pub invariant-loop-row : goal.invariant-loop-row
invariant-loop-row l = record {
  each : (row : ℕ) → row < l.row
      → Contains l.ranks.items (rank_of l.strategy (ends_of_row l.ends row) (stretch_at l.stretches row) row);
  origin : (rank : ℕ) → Contains l.ranks.items rank
      → (row : ℕ) × (row < l.row) × (rank ≡ rank_of l.strategy (ends_of_row l.ends row) (stretch_at l.stretches row) row);
}
