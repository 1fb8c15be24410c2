-- The points of the ranges so far.
use Rattle.std.specs.Prelude.{Contains}
use Rattle.std.proofs.Common.{◌*◌, ◌^◌, ◌<◌, ◌≤◌, ℕ, length}
use Rattle.range_layout.specs.Points.{low_point, past_point, ends_of_row}
use Rattle.range_layout.proofs.points.all_points.Given as goal

abbrev pub invariant-loop-range : goal.invariant-loop-range
invariant-loop-range l = record {
  low : (row : ℕ) → row < l.range-index → Contains l.all.items (low_point (ends_of_row l.ends row).low);
  past : (row : ℕ) → row < l.range-index → past_point (ends_of_row l.ends row).high < 2 ^ 128
      → Contains l.all.items (past_point (ends_of_row l.ends row).high);
  len : length l.all.items ≤ 2 * l.range-index;
}
