use Rattle.std.proofs.Common.{take}
use Rattle.row_text.specs.steps.CsvSteps.{IsPlainText}
use Rattle.row_text.proofs.csv_row.plain_len.Given as goal

abbrev pub invariant-loop-place : goal.invariant-loop-place
invariant-loop-place l = IsPlainText (take l.place l.left)
