use Rattle.std.proofs.Common.{◌≡◌, ◌-◌, [], length}
use Rattle.row_text.proofs.Growing.{Gone}
use Rattle.row_text.proofs.decode.decode_whole.Given as goal

abbrev pub invariant-loop-scratch : goal.invariant-loop-scratch
invariant-loop-scratch g l = record {
  gone : Gone l.format (g.C.Columns.columns l.columns) l.text l.done l.fn.lines l.lines l.fn.rows.rows l.rows.rows;
  types : l.rows.types ≡ g.C.Columns.types l.columns;
  none : l.rows.open_row ≡ [];
}

abbrev pub decreases-loop-scratch : goal.decreases-loop-scratch
decreases-loop-scratch g l = length l.text - l.done
