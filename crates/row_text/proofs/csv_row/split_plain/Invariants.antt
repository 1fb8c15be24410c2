use Rattle.std.proofs.Common.{◌-◌, List, ℕ, length}
use Rattle.row_text.proofs.CsvPlain.{Splits}
use Rattle.row_text.proofs.csv_row.split_plain.Given as goal

abbrev pub invariant-fields : goal.invariant-fields
invariant-fields l = (texts : List (List ℕ)) × Splits l.line l.at l.fields texts

abbrev pub decreases-fields : goal.decreases-fields
decreases-fields l = length l.line - l.at
