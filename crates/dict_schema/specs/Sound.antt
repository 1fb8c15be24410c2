-- Sound definitions, which later layers take as a condition.
use Rattle.std.specs.Prelude.{◌≤◌, All, ⊤}
use Rattle.dict_value.specs.declared.value.AttrType.{AttrType}
use Rattle.dict_value.specs.declared.value.ColType.{ColType}
use Rattle.dict_value.specs.declared.value.ColType.TheVariants as type
use Rattle.dict_schema.specs.declared.definition.Definition.{Definition}
use Rattle.dict_schema.specs.declared.definition.FunctionDef.{FunctionDef}
use Rattle.dict_schema.specs.declared.definition.Item.{Item}
use Rattle.dict_schema.specs.declared.definition.Item.TheVariants.{Dictionary, Function}
use Rattle.dict_schema.specs.Judging.{AreClear}
use Rattle.dict_schema.specs.Table.{table, function_table}

-- a base type that can be: a Decimal has 1 to 38 digits, and at most as many behind the point
abbrev pub IsSoundBase : ColType → Type 0
IsSoundBase (type.Decimal digits scale) = (1 ≤ digits) × (digits ≤ 38) × (scale ≤ digits)
IsSoundBase _ = ⊤

abbrev pub IsSoundType : AttrType → Type 0
IsSoundType t = IsSoundBase t.base

-- no fault stands in a definition, and its types can be
pub record IsSound (d : Definition) : Type 0 where
  pub clear : AreClear (table d)
  pub types : All (λ column. IsSoundType column.ty) d.columns

-- the same of a function
pub record IsSoundFunction (f : FunctionDef) : Type 0 where
  pub clear : AreClear (function_table f)
  pub types : All (λ argument. IsSoundType argument.ty) f.args
  pub returns : IsSoundType f.returns

abbrev pub IsSoundItem : Item → Type 0
IsSoundItem (Dictionary d) = IsSound d
IsSoundItem (Function f) = IsSoundFunction f
