use Rattle.std.proofs.Common.{◌≡◌, ◌++◌, take}
use Rattle.dict_schema.specs.declared.definition.Role.TheVariants.{Key}
use Rattle.dict_schema.specs.Shapes.{columns_at}
use Rattle.dict_schema.proofs.shapes.push_keys.Given as goal

abbrev pub invariant-loop-key : goal.invariant-loop-key
invariant-loop-key l = l.shape ≡ l.initial.shape ++ columns_at l.d Key (take l.key-index l.key-items)
