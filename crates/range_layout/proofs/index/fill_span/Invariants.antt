-- The edges of the borders so far.
use Rattle.std.proofs.Common.{◌≡◌, ◌-◌, ◌<◌, ◌≤◌, ℕ, length}
use Rattle.range_layout.specs.steps.Filling.{AreEdgesOf, KeepsFirst, border_number}
use Rattle.range_layout.proofs.index.fill_span.Given as goal

abbrev pub invariant-loop-at : goal.invariant-loop-at
invariant-loop-at l = record {
  after : l.from ≤ l.at;
  within : l.at ≤ length l.borders;
  own : (i : ℕ) → l.from ≤ i → i < l.at → border_number l.borders i ≡ l.number;
  same : length l.winners ≡ length l.edges;
  kept_edges : KeepsFirst l.initial.edges l.edges;
  kept_winners : KeepsFirst l.initial.winners l.winners;
  edges : AreEdgesOf l.points l.borders l.taken l.from l.at l.edges l.winners l.start (length l.edges);
}

abbrev pub decreases-loop-at : goal.decreases-loop-at
decreases-loop-at l = length l.borders - l.at
