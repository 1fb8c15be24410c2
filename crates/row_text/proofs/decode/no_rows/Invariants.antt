use Rattle.std.proofs.Common.{◌≡◌, take}
use Rattle.row_text.proofs.decode.no_rows.Given as goal

abbrev pub invariant-loop-place : goal.invariant-loop-place
invariant-loop-place g l = l.types.items ≡ take l.place (g.C.Columns.types l.columns)
