use Rattle.std.proofs.Common.{◌≡◌, ◌++◌, take}
use Rattle.row_text.specs.TabRow.{row_line}
use Rattle.row_text.proofs.tab_row.append_row.Given as goal

abbrev pub invariant-loop-place : goal.invariant-loop-place
invariant-loop-place l = l.out ≡ l.fn.out ++ row_line (take l.place l.fields)
