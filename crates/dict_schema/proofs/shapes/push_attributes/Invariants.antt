use Rattle.std.proofs.Common.{◌≡◌, ◌++◌}
use Rattle.std.specs.List.{filter, range_with_len}
use Rattle.dict_schema.specs.declared.definition.Role.TheVariants.{Attribute}
use Rattle.dict_schema.specs.Parts.{is_attribute}
use Rattle.dict_schema.specs.Shapes.{columns_at}
use Rattle.dict_schema.proofs.shapes.push_attributes.Given as goal

abbrev pub invariant-loop-place : goal.invariant-loop-place
invariant-loop-place l =
    l.shape ≡ l.initial.shape ++ columns_at l.d Attribute (filter (is_attribute l.d) (range_with_len 0 l.place))
