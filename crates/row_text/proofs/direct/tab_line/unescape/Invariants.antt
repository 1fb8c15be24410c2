use Rattle.std.proofs.Common.{◌≡◌, ◌-◌, List, length, map}
use Rattle.std.specs.List.{AllByRecursion}
use Rattle.row_text.specs.Marks.{Mark, meant_byte}
use Rattle.row_text.specs.steps.DirectSteps.{EndsNoLine}
use Rattle.row_text.specs.steps.TabSteps.{ReachesUntabbed}
use Rattle.row_text.proofs.direct.tab_line.unescape.Given as goal

abbrev pub invariant-runs : goal.invariant-runs
invariant-runs l = (marks : List Mark) × ReachesUntabbed l.text l.at marks × AllByRecursion EndsNoLine marks × (l.scratch ≡ map meant_byte marks)

abbrev pub decreases-runs : goal.decreases-runs
decreases-runs l = length l.text - l.at
