use Rattle.std.proofs.Common.{◌≤◌, length}
use Rattle.dict_hub.specs.Changes.{StandBefore}
use Rattle.dict_hub.proofs.changes.first_unlike.Given as goal

abbrev pub invariant-loop-place : goal.invariant-loop-place
invariant-loop-place l = record {
  within : l.place ≤ length l.others;
  before : StandBefore l.items l.others l.place;
}
