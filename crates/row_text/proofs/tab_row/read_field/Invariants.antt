use Rattle.std.proofs.Common.{◌≡◌, ◌-◌, List, false, length, map}
use Rattle.row_text.specs.Marks.{Mark, meant_byte}
use Rattle.row_text.specs.TabRow.{ends_in_return}
use Rattle.row_text.specs.steps.TabSteps.{ReachesUntabbed}
use Rattle.row_text.proofs.tab_row.read_field.Given as goal

abbrev pub invariant-runs : goal.invariant-runs
invariant-runs l = (marks : List Mark) × ReachesUntabbed l.rest l.at marks × (ends_in_return marks ≡ false) × (l.text ≡ map meant_byte marks)

abbrev pub decreases-runs : goal.decreases-runs
decreases-runs l = length l.rest - l.at
