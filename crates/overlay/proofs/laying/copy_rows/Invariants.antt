use Rattle.std.proofs.Common.{◌≡◌, take}
use Rattle.overlay.specs.steps.Standing.{IsBetween}
use Rattle.overlay.proofs.laying.copy_rows.Given as goal

abbrev pub invariant-loop-place : goal.invariant-loop-place
invariant-loop-place l = record {
  between : IsBetween l.types l.out;
  rows : l.out.rows ≡ take l.place l.rows;
}
