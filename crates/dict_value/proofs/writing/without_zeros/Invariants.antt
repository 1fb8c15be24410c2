-- The zeros so far are at the end.
use Rattle.std.proofs.Common.{◌≡◌, ◌≤◌, take, length}
use Rattle.dict_value.specs.Decimals.{without_end_zeros}
use Rattle.dict_value.proofs.writing.without_zeros.Given as goal

abbrev pub invariant-loop-kept : goal.invariant-loop-kept
invariant-loop-kept l = record {
  within : l.kept ≤ length l.digits;
  same : without_end_zeros (take l.kept l.digits) ≡ without_end_zeros l.digits;
}

abbrev pub decreases-loop-kept : goal.decreases-loop-kept
decreases-loop-kept l = l.kept
