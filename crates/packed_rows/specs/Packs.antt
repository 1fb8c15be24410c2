-- That columns and a text are the packs of rows, and what a builder of them is seen as.
use Rattle.std.specs.Prelude.{◌≡◌, ◌≤◌, ◌+◌, ◌*◌, ◌/◌, ◌∷◌, ◌++◌, [], if◌then◌else◌, Bool, ℕ, suc, List, length}
use Rattle.std.specs.Prelude.{take, map, sum_by, Option, Some, None, slice_get}
use Rattle.std.specs.List.{flat_map}
use Rattle.dict_value.specs.declared.value.AttrType.{AttrType}
use Rattle.dict_value.specs.declared.value.ColType.{ColType}
use Rattle.dict_value.specs.declared.value.Value.{Value}
use Rattle.packed_rows.specs.declared.column.Column.{Column}
use Rattle.packed_rows.specs.Columns.{AllEndWithin, Filled, is_null, number_of, row_end, row_in, rows_in, start_of}
use Rattle.packed_rows.specs.Columns.{text_of_value}
use Rattle.packed_rows.specs.Widths.{width_bytes, kept, cell_width}

-- the texts of some values, one after another
abbrev pub texts_of : List Value → List ℕ
texts_of values = flat_map text_of_value values

-- the texts of rows
abbrev pub text_of_rows : List (List Value) → List ℕ
text_of_rows rows = flat_map texts_of rows

-- the bytes that are kept of a value, given where its text ends; none where a row has none yet
abbrev pub cell_bytes : ColType → ℕ → Option Value → List ℕ
cell_bytes t end None = []
cell_bytes t end (Some v) = kept (cell_width t) (number_of t end v)

-- the bytes of the column at a place, row by row, given where the text of the first row starts
abbrev pub column_bytes : ColType → ℕ → ℕ → List (List Value) → List ℕ
column_bytes t k start [] = []
column_bytes t k start (row ∷ rows) =
    cell_bytes t (start + length (texts_of (take (suc k) row))) (slice_get row k)
    ++ column_bytes t k (start + length (texts_of row)) rows

abbrev pub null_bits : Option Value → List Bool
null_bits None = []
null_bits (Some v) = is_null v ∷ []

-- which values of the column at a place are NULL
abbrev pub column_nulls : ℕ → List (List Value) → List Bool
column_nulls k rows = flat_map (λ (row : List Value). null_bits (slice_get row k)) rows

-- the column has what the rows have at a place
pub record IsColumnOf (c : Column) (k : ℕ) (rows : List (List Value)) : Type 0 where
  pub cells : c.cells ≡ column_bytes c.ty.base k 0 rows
  pub nulls : c.nulls ≡ (if c.ty.nullable then column_nulls k rows else [])

-- the columns have what the rows have from a place on
abbrev pub AreColumnsOf : List Column → ℕ → List (List Value) → Type 0
AreColumnsOf [] k rows = Unit {0}
AreColumnsOf (c ∷ cs) k rows = IsColumnOf c k rows × AreColumnsOf cs (suc k) rows

-- The columns and the text are the packs of these rows. The last of them may still lack values.
pub record ArePacksOf (cs : List Column) (text : List ℕ) (rows : List (List Value)) : Type 0 where
  pub columns : AreColumnsOf cs 0 rows
  pub texts : text ≡ text_of_rows rows

-- the types of columns
abbrev pub types_of : List Column → List AttrType
types_of cs = map (λ (c : Column). c.ty) cs

-- the values of the row that is still open, in the first columns
abbrev pub open_in : List Column → List ℕ → ℕ → ℕ → List Value
open_in cs text rows place = row_in (take place cs) text rows (start_of cs rows)

-- the columns hold so many rows, and so many cells of a row that is still open; and nothing else
pub record Packs (cs : List Column) (text : List ℕ) (rows place : ℕ) : Type 0 where
  pub filled : Filled cs rows place (length text)
  pub within : place ≤ length cs
  pub ends : row_end (take place cs) rows (start_of cs rows) ≡ length text
  pub start : start_of cs rows ≡ length (text_of_rows (rows_in cs text rows))
  pub settled : AllEndWithin cs rows (start_of cs rows)
  pub packs : ArePacksOf cs text (rows_in cs text rows ++ open_in cs text rows place ∷ [])

-- what a builder is: the types of its columns, its rows, and the first values of a row that is still open
pub record Building : Type 0 where
  pub types : List AttrType
  pub rows : List (List Value)
  pub open_row : List Value

abbrev pub building : List Column → List ℕ → ℕ → ℕ → Building
building cs text rows place = record {
  types = types_of cs;
  rows = rows_in cs text rows;
  open_row = open_in cs text rows place;
}

-- the bytes that so many rows take in a column: those of its cells, and a bit for each where it may hold NULL
abbrev pub column_size : ℕ → AttrType → ℕ
column_size count t = count * width_bytes (cell_width t.base) + (if t.nullable then (count + 7) / 8 else 0)

-- the bytes that rows of these types take
abbrev pub stored_size : List AttrType → List (List Value) → ℕ
stored_size types rows = sum_by (column_size (length rows)) types + length (text_of_rows rows)

-- the packs stand for these rows: no row is open, and they are read as these
pub record StandFor (cs : List Column) (text : List ℕ) (count : ℕ) (rows : List (List Value)) : Type 0 where
  pub packs : Packs cs text count 0
  pub read : rows_in cs text count ≡ rows

-- the bytes of packs: those of the cells, of the bits and of the text
abbrev pub packs_size : List Column → List ℕ → ℕ
packs_size cs text = sum_by (λ (c : Column). length c.cells + (length c.nulls + 7) / 8) cs + length text
