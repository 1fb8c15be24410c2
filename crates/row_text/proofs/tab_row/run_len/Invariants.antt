use Rattle.std.proofs.Common.{take}
use Rattle.std.specs.List.{AllByRecursion}
use Rattle.row_text.specs.steps.TabSteps.{IsOrdinary}
use Rattle.row_text.proofs.tab_row.run_len.Given as goal

abbrev pub invariant-loop-place : goal.invariant-loop-place
invariant-loop-place l = AllByRecursion IsOrdinary (take l.place l.rest)
