use Rattle.std.proofs.Common.{◌≡◌, map, take}
use Rattle.dict_version.proofs.columns.first_values_of.Given as goal

abbrev pub invariant-loop-place : goal.invariant-loop-place
invariant-loop-place l = l.lists.items ≡ take l.place (map (take l.count) l.rows)
