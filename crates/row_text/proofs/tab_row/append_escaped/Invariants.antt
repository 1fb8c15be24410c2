use Rattle.std.proofs.Common.{◌≡◌, ◌++◌, take}
use Rattle.std.specs.List.{flat_map}
use Rattle.row_text.specs.TabRow.{written_byte}
use Rattle.row_text.proofs.tab_row.append_escaped.Given as goal

abbrev pub invariant-loop-b : goal.invariant-loop-b
invariant-loop-b l = l.out ≡ l.fn.out ++ flat_map written_byte (take l.b-index l.text)
