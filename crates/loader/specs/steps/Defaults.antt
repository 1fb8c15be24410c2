-- The defaults of columns.
use Rattle.std.specs.Prelude.{◌≡◌, ℕ, List, Some, slice_get}
use Rattle.std.specs.List.{AllByRecursion}
use Rattle.dict_schema.specs.declared.definition.Column.{Column}
use Rattle.dict_value.specs.Values.{FitsColumn}

-- it can't be that a default is no value of its column's type
abbrev pub NoBadDefault : List Column → Type 0
NoBadDefault columns =
    (place : ℕ) (column : Column) → slice_get columns place ≡ Some column
    → (FitsColumn column.ty column.default → ⊥) → ⊥

-- each is one
abbrev pub ColumnsFit : List Column → Type 0
ColumnsFit columns = AllByRecursion (λ (column : Column). FitsColumn column.ty column.default) columns
