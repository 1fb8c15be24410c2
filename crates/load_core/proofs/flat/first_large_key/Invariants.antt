use Rattle.std.proofs.Common.{take}
use Rattle.std.specs.List.{AllByRecursion}
use Rattle.load_core.specs.FlatRows.{HasSmallKey}
use Rattle.load_core.proofs.flat.first_large_key.Given as goal

abbrev pub invariant-loop-place : goal.invariant-loop-place
invariant-loop-place l = AllByRecursion HasSmallKey (take l.place l.rows)
