-- The list of rows that packed columns are.
use Rattle.std.specs.Prelude.{◌≡◌, ◌<◌, ◌≤◌, ◌+◌, ◌-◌, ◌*◌, ◌∷◌, ◌++◌, ◌&&◌, [], if◌then◌else◌, Bool, true, false}
use Rattle.std.specs.Prelude.{ℕ, zero, suc, List, length, take, drop, Option, Some, None, slice_get}
use Rattle.std.specs.Prelude.{slice_index_or}
use Rattle.std.specs.Int.{Width, w8, w16, w32, w64, w128, cast_signed, cast_unsigned}
use Rattle.dict_value.specs.declared.value.ColType.{ColType}
use Rattle.dict_value.specs.declared.value.ColType.TheVariants as type
use Rattle.dict_value.specs.declared.value.Value.{Value}
use Rattle.dict_value.specs.declared.value.Value.TheVariants.{U, I, S, Day, Second, Id, V4, V6, Dec, Null}
use Rattle.packed_rows.specs.declared.column.Column.{Column}
use Rattle.packed_rows.specs.Widths.{width_bytes, nat_at, kept, cell_width}

abbrev pub is_text : ColType → Bool
is_text type.Str = true
is_text t = false

-- the value of a type that isn't String, from its number
abbrev pub number_value : ColType → ℕ → Value
number_value type.Date n = Day n
number_value type.DateTime n = Second n
number_value type.Ipv4 n = V4 n
number_value type.Int8 n = I (cast_signed w8 n)
number_value type.Int16 n = I (cast_signed w16 n)
number_value type.Int32 n = I (cast_signed w32 n)
number_value type.Int64 n = I (cast_signed w64 n)
number_value type.Uuid n = Id n
number_value type.Ipv6 n = V6 n
number_value (type.Decimal digits scale) n = Dec (cast_signed w128 n)
number_value t n = U n

-- the bytes of a text between two places
abbrev pub between : ℕ → ℕ → List ℕ → List ℕ
between start end text = take (end - start) (drop start text)

unfoldable pub null_in : Column → ℕ → Bool
null_in c i = c.ty.nullable && slice_index_or c.nulls i false

abbrev pub value_from : ColType → Bool → ℕ → ℕ → List ℕ → Value
value_from t true start n text = Null
value_from type.Str false start n text = S (between start n text)
value_from t false start n text = number_value t n

-- the value at a row, given where its text starts
unfoldable pub value_in : Column → List ℕ → ℕ → ℕ → Value
value_in c text i start = value_from c.ty.base (null_in c i) start (nat_at (cell_width c.ty.base) c.cells i) text

abbrev pub end_from : ColType → ℕ → ℕ → ℕ
end_from type.Str start n = n
end_from t start n = start

-- where its text ends
unfoldable pub end_in : Column → ℕ → ℕ → ℕ
end_in c i start = end_from c.ty.base start (nat_at (cell_width c.ty.base) c.cells i)

-- the values of a row, given where its first text starts
abbrev pub row_in : List Column → List ℕ → ℕ → ℕ → List Value
row_in [] text i start = []
row_in (c ∷ cs) text i start = value_in c text i start ∷ row_in cs text i (end_in c i start)

-- where its last text ends
abbrev pub row_end : List Column → ℕ → ℕ → ℕ
row_end [] i start = start
row_end (c ∷ cs) i start = row_end cs i (end_in c i start)

-- where the texts of a row start
abbrev pub start_of : List Column → ℕ → ℕ
start_of cs zero = 0
start_of cs (suc i) = row_end cs i (start_of cs i)

-- so many rows
abbrev pub rows_in : List Column → List ℕ → ℕ → List (List Value)
rows_in cs text zero = []
rows_in cs text (suc n) = rows_in cs text n ++ row_in cs text n (start_of cs n) ∷ []

-- the first texts of a column end within so many bytes
abbrev pub EndWithin : Column → ℕ → ℕ → Type 0
EndWithin c count limit =
    (i : ℕ) → i < count → is_text c.ty.base ≡ true → nat_at (cell_width c.ty.base) c.cells i ≤ limit

-- the column has so many cells, and its texts end within so many bytes
pub record Holds (c : Column) (count : ℕ) (limit : ℕ) : Type 0 where
  pub cells : length c.cells ≡ count * width_bytes (cell_width c.ty.base)
  pub nulls : c.ty.nullable ≡ true → length c.nulls ≡ count
  pub ends : EndWithin c count limit

-- the first texts of each column end within so many bytes
abbrev pub AllEndWithin : List Column → ℕ → ℕ → Type 0
AllEndWithin [] count limit = Unit {0}
AllEndWithin (c ∷ cs) count limit = EndWithin c count limit × AllEndWithin cs count limit

-- the first columns, as many as the second number, have one cell more than the number of rows
abbrev pub Filled : List Column → ℕ → ℕ → ℕ → Type 0
Filled [] rows place limit = Unit {0}
Filled (c ∷ cs) rows zero limit = Holds c rows limit × Filled cs rows zero limit
Filled (c ∷ cs) rows (suc place) limit = Holds c (rows + 1) limit × Filled cs rows place limit

-- the value at a row and a column
abbrev pub cell_of : Option (List Value) → ℕ → Option Value
cell_of None column = None
cell_of (Some row) column = slice_get row column

abbrev pub cell_at : List (List Value) → ℕ → ℕ → Option Value
cell_at rows place column = cell_of (slice_get rows place) column

-- the column with one more cell
abbrev pub grown : Column → ℕ → Bool → Column
grown c n null = record {
  ty = c.ty;
  cells = c.cells ++ kept (cell_width c.ty.base) n;
  nulls = if c.ty.nullable then c.nulls ++ null ∷ [] else c.nulls;
}

-- the column at a place with one more cell
abbrev pub grow_at : List Column → ℕ → ℕ → Bool → List Column
grow_at [] place n null = []
grow_at (c ∷ cs) zero n null = grown c n null ∷ cs
grow_at (c ∷ cs) (suc place) n null = c ∷ grow_at cs place n null

abbrev pub is_null : Value → Bool
is_null Null = true
is_null v = false

-- the bytes that a value adds to the text
abbrev pub text_of_value : Value → List ℕ
text_of_value (S text) = text
text_of_value v = []

-- how wide the numbers of a signed type are
abbrev pub signed_width : ColType → Width
signed_width type.Int8 = w8
signed_width type.Int16 = w16
signed_width type.Int32 = w32
signed_width t = w64

-- The number that is kept of a value, given where the text ends behind it: that of a signed one in two's complement,
-- and of NULL 0, or in a String column the text's end.
abbrev pub number_of : ColType → ℕ → Value → ℕ
number_of t end (U n) = n
number_of t end (Day n) = n
number_of t end (Second n) = n
number_of t end (V4 n) = n
number_of t end (I z) = cast_unsigned (signed_width t) z
number_of t end (Id n) = n
number_of t end (V6 n) = n
number_of t end (Dec z) = cast_unsigned w128 z
number_of t end (S text) = end
number_of t end Null = if is_text t then end else 0

abbrev pub RowList : Type 0
RowList = List (List Value)

-- each column has at least so many cells
abbrev pub HaveCells : List Column → ℕ → Type 0
HaveCells [] count = Unit {0}
HaveCells (c ∷ cs) count = (count * width_bytes (cell_width c.ty.base) ≤ length c.cells) × HaveCells cs count

-- the column's cell at a place can be read
abbrev pub IsHeld : Column → ℕ → ℕ → Type 0
IsHeld c place limit = (count : ℕ) × Holds c count limit × (place < count)

-- the column's first cells
abbrev pub cut : ℕ → Column → Column
cut count c = record {
  ty = c.ty;
  cells = take (count * width_bytes (cell_width c.ty.base)) c.cells;
  nulls = if c.ty.nullable then take count c.nulls else c.nulls;
}

-- the columns, the first of them cut to so many cells
abbrev pub cut_front : ℕ → ℕ → List Column → List Column
cut_front count place [] = []
cut_front count zero (c ∷ cs) = c ∷ cs
cut_front count (suc place) (c ∷ cs) = cut count c ∷ cut_front count place cs

-- the column has at least so many cells
pub record HasCells (c : Column) (count : ℕ) : Type 0 where
  pub cells : count * width_bytes (cell_width c.ty.base) ≤ length c.cells
  pub nulls : c.ty.nullable ≡ true → count ≤ length c.nulls

-- the first columns have
abbrev pub FrontHasCells : List Column → ℕ → ℕ → Type 0
FrontHasCells [] count place = Unit {0}
FrontHasCells (c ∷ cs) count zero = Unit {0}
FrontHasCells (c ∷ cs) count (suc place) = HasCells c count × FrontHasCells cs count place
