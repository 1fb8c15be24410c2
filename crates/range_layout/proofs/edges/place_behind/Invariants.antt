-- The edges before the gap are at most the point, and those behind it above.
use Rattle.std.proofs.Common.{ℕ, ◌-◌, ◌<◌, ◌≤◌, get_or}
use Rattle.range_layout.specs.Halves.{IsHalved, Rises}
use Rattle.range_layout.proofs.edges.place_behind.Given as goal

abbrev pub invariant-loop-low : goal.invariant-loop-low
invariant-loop-low g l = record {
  after : l.start ≤ l.low;
  order : l.low ≤ l.high;
  within : l.high ≤ l.end;
  below : Rises l.edges l.start l.end → (i : ℕ) → l.start ≤ i → i < l.low → get_or l.edges i 0 ≤ l.point;
  above : Rises l.edges l.start l.end → (i : ℕ) → l.high ≤ i → i < l.end → l.point < get_or l.edges i 0;
  halved : IsHalved (l.end - l.start) (l.high - l.low) (g.S.Counter.amount l.initial.steps) (g.S.Counter.amount l.steps);
}

abbrev pub decreases-loop-low : goal.decreases-loop-low
decreases-loop-low g l = l.high - l.low
