-- The members so far are walked, and the next one is fresh.
use Rattle.std.proofs.Common.{◌≡◌, ◌<◌, ℕ, length, get_or}
use Rattle.hier.specs.Members.{above}
use Rattle.hier.specs.steps.Counting.{IsWalked, zeros}
use Rattle.hier.proofs.lengths.walked.Given as goal

abbrev pub invariant-loop-at : goal.invariant-loop-at
invariant-loop-at l = record {
  walked : IsWalked l.ups l.rows l.lengths l.initial.places l.places l.start l.count;
  linked : (i : ℕ) → i < l.count → 0 < get_or l.ups (above l.ups i l.start) 0;
  at : l.at ≡ above l.ups l.count l.start;
  within : l.at < length l.ups;
  row : 0 < get_or l.rows l.at 0;
  fresh : get_or l.lengths l.at 0 ≡ 0;
  unmarked : get_or l.places l.at 0 ≡ 0;
}

abbrev pub decreases-loop-at : goal.decreases-loop-at
decreases-loop-at l = zeros l.places
