use Rattle.std.proofs.Common.{take}
use Rattle.dict_value.specs.Split.{Lacks}
use Rattle.dict_value.proofs.split.split_at_byte.Given as goal

abbrev pub invariant-loop-place : goal.invariant-loop-place
invariant-loop-place l = Lacks l.byte (take l.place l.text)
