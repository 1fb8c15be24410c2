use Rattle.std.proofs.Common.{◌≡◌, ◌++◌, take}
use Rattle.std.specs.List.{flat_map}
use Rattle.ddl_writing.specs.Canonical.{and_then, column_name_text}
use Rattle.ddl_writing.proofs.columns.push_other_keys.Given as goal

abbrev pub invariant-loop-place : goal.invariant-loop-place
invariant-loop-place l = l.out ≡ l.fn.out ++ flat_map (λ place. and_then (column_name_text l.d place)) (take l.place-index l.keys)
