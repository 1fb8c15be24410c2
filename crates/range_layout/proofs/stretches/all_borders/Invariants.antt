-- The borders of the stretches so far.
use Rattle.std.specs.Prelude.{Contains}
use Rattle.std.proofs.Common.{◌*◌, ◌<◌, ◌≤◌, ℕ, length}
use Rattle.range_layout.specs.Stretches.{IsBorder}
use Rattle.range_layout.proofs.stretches.all_borders.Given as goal

abbrev pub invariant-loop-stretch : goal.invariant-loop-stretch
invariant-loop-stretch l = record {
  each : (row border : ℕ) → row < l.stretch-index → IsBorder l.stretches l.count row border → Contains l.all.items border;
  origin : (border : ℕ) → Contains l.all.items border
      → (row : ℕ) × (row < l.stretch-index) × IsBorder l.stretches l.count row border;
  len : length l.all.items ≤ 2 * l.stretch-index;
}
