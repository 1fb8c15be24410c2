-- What has been gone over.
use Rattle.std.proofs.Common.{◌≡◌, ◌-◌, ◌≤◌, length}
use Rattle.range_layout.specs.steps.Painting.{IsPaintedTo, LeadsOn, PassesPainted}
use Rattle.range_layout.proofs.paint.paint.Given as goal

abbrev pub invariant-loop-at : goal.invariant-loop-at
invariant-loop-at l = record {
  within : l.at ≤ length l.borders;
  painted : IsPaintedTo l.borders l.fn.stretch l.row l.start l.at l.initial.winners.items l.winners.items;
  len : length l.next.items ≡ length l.initial.next.items;
  leads : LeadsOn l.next.items;
  skips : PassesPainted l.winners.items l.next.items;
}

abbrev pub decreases-loop-at : goal.decreases-loop-at
decreases-loop-at l = length l.borders - l.at
