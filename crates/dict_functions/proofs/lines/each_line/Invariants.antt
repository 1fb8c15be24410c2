use Rattle.std.proofs.Common.{take}
use Rattle.std.specs.Prelude.{All}
use Rattle.std.specs.List.{AllZip}
use Rattle.dict_functions.proofs.lines.each_line.Given as goal

abbrev pub invariant-loop-place : goal.invariant-loop-place
invariant-loop-place g l = record {
  read : All (g.L.OfLine.reads l.of) (take l.place l.lines);
  made : AllZip (g.L.OfLine.makes l.of) (take l.place l.lines) l.made;
}
