use Rattle.std.proofs.Common.{◌≡◌, map, take}
use Rattle.dict_version.specs.Keys.{range_behind}
use Rattle.dict_version.proofs.columns.ranges_of.Given as goal

abbrev pub invariant-loop-place : goal.invariant-loop-place
invariant-loop-place l = l.ranges.items ≡ take l.place (map (range_behind l.start) l.rows)
