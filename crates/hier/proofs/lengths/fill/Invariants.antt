-- The members so far are counted.
use Rattle.std.proofs.Common.{◌≡◌, ◌<◌}
use Rattle.hier.specs.Members.{above}
use Rattle.hier.specs.steps.Counting.{IsFilled}
use Rattle.hier.proofs.lengths.fill.Given as goal

abbrev pub invariant-loop-place : goal.invariant-loop-place
invariant-loop-place l = record {
  at : l.place < l.walk.count → l.at ≡ above l.ups l.place l.start;
  filled : IsFilled l.ups l.initial.lengths l.lengths l.start l.walk l.place;
}
