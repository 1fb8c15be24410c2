use Rattle.std.proofs.Common.{take}
use Rattle.std.specs.List.{AllZip}
use Rattle.row_text.specs.TabRow.{IsTabRow}
use Rattle.wire_text.proofs.reading.read_rows.Given as goal

abbrev pub invariant-loop-line : goal.invariant-loop-line
invariant-loop-line l = AllZip IsTabRow (take l.line-index l.lines) l.rows
