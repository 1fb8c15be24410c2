use Rattle.std.proofs.Common.{◌≤◌, length}
use Rattle.dict_value.specs.declared.value.TheConstants.{MOST_ROWS}
use Rattle.overlay.specs.Overlays.{HaveTypes}
use Rattle.overlay.specs.steps.Standing.{IsBetween}
use Rattle.overlay.specs.declared.tests.TheConstants.{TYPES}
use Rattle.overlay.proofs.tests.numbered.Given as goal

abbrev pub invariant-loop-number : goal.invariant-loop-number
invariant-loop-number l = record {
  between : IsBetween TYPES l.rows;
  have : HaveTypes TYPES l.rows.rows;
  few : length l.rows.rows ≤ MOST_ROWS;
}
