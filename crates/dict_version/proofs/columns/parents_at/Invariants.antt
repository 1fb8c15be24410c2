use Rattle.std.proofs.Common.{◌≡◌, map, take, slice_get}
use Rattle.dict_version.specs.Keys.{parent_in}
use Rattle.dict_version.proofs.columns.parents_at.Given as goal

abbrev pub invariant-loop-place : goal.invariant-loop-place
invariant-loop-place l = l.parents.items ≡ take l.place (map (λ row. parent_in (slice_get row l.column)) l.rows)
