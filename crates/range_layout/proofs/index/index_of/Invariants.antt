-- The spans so far.
use Rattle.std.proofs.Common.{◌<◌, ◌≤◌, ℕ, length}
use Rattle.range_layout.specs.steps.Filling.{AreSpansIn, border_number}
use Rattle.range_layout.proofs.index.index_of.Given as goal

abbrev pub invariant-loop-number : goal.invariant-loop-number
invariant-loop-number l = record {
  within : l.at ≤ length l.borders;
  before : (i : ℕ) → i < l.at → border_number l.borders i < l.number;
  behind : (i : ℕ) → l.at ≤ i → i < length l.borders → l.number ≤ border_number l.borders i;
  few : length l.edges ≤ l.at;
  spans : AreSpansIn l.points l.borders l.taken l.number l.spans l.edges l.winners;
}
