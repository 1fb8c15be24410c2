-- What a version is seen as.
use Rattle.std.specs.Prelude.{ℕ, List}
use Rattle.dict_schema.specs.declared.definition.Definition.{Definition}
use Rattle.dict_value.specs.declared.value.Value.{Value}

-- the definition, its rows, and the moment of the load that gave them, which is 0 where none was told
pub record Contents : Type 0 where
  pub definition : Definition
  pub rows : List (List Value)
  pub moment : ℕ

-- a version as it is built
abbrev pub contents : Definition → List (List Value) → Contents
contents d rows = record { definition = d; rows = rows; moment = 0 }
