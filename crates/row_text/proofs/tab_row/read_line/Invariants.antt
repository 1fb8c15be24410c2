use Rattle.std.proofs.Common.{◌-◌, List, length}
use Rattle.row_text.specs.Marks.{Mark}
use Rattle.row_text.specs.steps.TabSteps.{HasFieldsBefore}
use Rattle.row_text.proofs.tab_row.read_line.Given as goal

abbrev pub invariant-fields : goal.invariant-fields
invariant-fields l = (marks : List Mark) × HasFieldsBefore l.line l.at l.fields marks

abbrev pub decreases-fields : goal.decreases-fields
decreases-fields l = length l.line - l.at
