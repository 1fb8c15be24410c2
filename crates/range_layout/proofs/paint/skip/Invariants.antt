-- What is passed is painted.
use Rattle.std.proofs.Common.{◌≡◌, ◌-◌, ◌<◌, ◌≤◌, ℕ, List, length}
use Rattle.range_layout.specs.steps.Painting.{ArePainted, LeadsOn, PassesPainted}
use Rattle.range_layout.proofs.paint.skip.Given as goal

abbrev pub invariant-loop-at : goal.invariant-loop-at
invariant-loop-at l = record {
  len : length l.next.items ≡ length l.initial.next.items;
  leads : LeadsOn l.next.items;
  after : l.from ≤ l.at;
  within : l.at < length l.next.items;
  skips : (winners : List ℕ) → PassesPainted winners l.initial.next.items → PassesPainted winners l.next.items;
  painted : (winners : List ℕ) → PassesPainted winners l.initial.next.items → ArePainted winners l.from l.at;
}

abbrev pub decreases-loop-at : goal.decreases-loop-at
decreases-loop-at l = length l.initial.next.items - l.at
