use Rattle.std.proofs.Common.{◌≡◌, map, take}
use Rattle.dict_version.specs.Keys.{numbers_of}
use Rattle.dict_version.proofs.columns.numbers_of.Given as goal

abbrev pub invariant-loop-place : goal.invariant-loop-place
invariant-loop-place l = l.numbers.items ≡ take l.place (numbers_of l.rows)
