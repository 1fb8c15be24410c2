-- Values that fit the columns of a shape.
use Rattle.std.specs.Prelude.{◌≡◌, ◌-◌, ◌^◌, ◌||◌, ℕ, IsTrue, List}
use Rattle.std.specs.List.{AllByRecursion, AllZip}
use Rattle.dict_schema.specs.declared.definition.Role.{Role}
use Rattle.dict_schema.specs.Shapes.{may_be_open}
use Rattle.dict_schema.specs.declared.definition.ShapeColumn.{ShapeColumn}
use Rattle.dict_value.specs.declared.value.AttrType.{AttrType}
use Rattle.dict_value.specs.declared.value.ColType.{ColType}
use Rattle.dict_value.specs.declared.value.ColType.TheVariants as type
use Rattle.dict_value.specs.declared.value.Value.{Value}
use Rattle.dict_value.specs.declared.value.Value.TheVariants.{Null}
use Rattle.dict_value.specs.Values.{FitsColumn, HasType}

-- a value of the type, or Null where the type allows it or the column is an end of a range
abbrev pub FitsRole : Role → AttrType → Value → Type 0
FitsRole role t Null = IsTrue (may_be_open role || t.nullable)
FitsRole role t v = HasType t.base v

-- the row has a value for each column, and each fits
abbrev pub FitsShape : List ShapeColumn → List Value → Type 0
FitsShape shape row = AllZip (λ column v. FitsRole column.role column.ty v) shape row

-- each default fits the type of its column
abbrev pub HasFittingDefaults : List ShapeColumn → Type 0
HasFittingDefaults shape = AllByRecursion (λ (column : ShapeColumn). FitsColumn column.ty column.default) shape

-- an unsigned type, and its greatest number
abbrev pub IsUnsigned : ColType → ℕ → Type 0
IsUnsigned type.UInt8 most = most ≡ 2 ^ 8 - 1
IsUnsigned type.UInt16 most = most ≡ 2 ^ 16 - 1
IsUnsigned type.UInt32 most = most ≡ 2 ^ 32 - 1
IsUnsigned type.UInt64 most = most ≡ 2 ^ 64 - 1
IsUnsigned t most = ⊥
