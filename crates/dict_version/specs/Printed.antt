-- How the values of a row are written in a reply.
use Rattle.std.specs.Prelude.{◌≡◌, ◌<◌, ℕ, List, Some, length, slice_get}
use Rattle.dict_schema.specs.Shapes.{shape_of}
use Rattle.dict_schema.specs.declared.definition.Definition.{Definition}
use Rattle.dict_schema.specs.declared.definition.ShapeColumn.{ShapeColumn}
use Rattle.dict_value.specs.declared.value.Value.{Value}
use Rattle.packed_rows.specs.Columns.{cell_at}
use Rattle.row_text.specs.Written.{printed}

-- the escaped text of the value in a row and a column of the shape, and \N for NULL
pub record IsPrintedAt (d : Definition) (rows : List (List Value)) (place column : ℕ) (text : List ℕ) : Type 0 where
  pub of_column : ShapeColumn
  pub value : Value
  pub column_is : slice_get (shape_of d) column ≡ Some of_column
  pub value_is : cell_at rows place column ≡ Some value
  pub text_is : text ≡ printed of_column.ty.base value

-- the value stands in a column of some row
abbrev pub IsCellOf : List (List Value) → ℕ → Value → Type 0
IsCellOf rows column value = (place : ℕ) × (place < length rows) × (cell_at rows place column ≡ Some value)

-- the escaped text of the value in each row where it stands in the column
abbrev pub IsPrintedIn : Definition → List (List Value) → ℕ → Value → List ℕ → Type 0
IsPrintedIn d rows column value text =
    (place : ℕ) → place < length rows → cell_at rows place column ≡ Some value → IsPrintedAt d rows place column text
