use Rattle.std.proofs.Common.{◌≡◌, length}
use Rattle.row_text.specs.steps.DirectSteps.{HasTextsTaken}
use Rattle.row_text.proofs.direct.csv_line.push_line.Given as goal

abbrev pub invariant-loop-place : goal.invariant-loop-place
invariant-loop-place g l = record {
  types : l.rows.types ≡ l.initial.rows.types;
  rows : l.rows.rows ≡ l.initial.rows.rows;
  values : length l.rows.open_row ≡ l.place;
  before : HasTextsTaken (g.C.Columns.columns l.columns) l.text l.at l.rows.open_row;
}
