use Rattle.std.proofs.Common.{◌≡◌, ◌<◌, ℕ, List, map, Some, slice_get}
use Rattle.dict_schema.proofs.names.is_named_before.Given as goal

-- no name before this one is the one at the place
abbrev pub invariant-loop-earlier : goal.invariant-loop-earlier
invariant-loop-earlier g l =
    (k : ℕ) → k < l.earlier → slice_get (map g.N.Named.name_of l.items) k ≡ Some l.name → ⊥
