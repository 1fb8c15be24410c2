-- What the steps of taking a row find whose values go from the text into the packs.
use Rattle.std.specs.Prelude.{◌≡◌, ◌≢◌, ◌≤◌, ◌<◌, ◌∷◌, ◌++◌, [], true, ℕ, suc, List, length, map, take, drop}
use Rattle.std.specs.Prelude.{slice_get, slice_index, Some, Ok}
use Rattle.std.specs.List.{AllByRecursion, flat_map}
use Rattle.dict_value.specs.declared.letters.TheConstants.{CARRIAGE_RETURN, COMMA, LINE_FEED}
use Rattle.dict_value.specs.declared.value.Field.{Field}
use Rattle.dict_value.specs.declared.value.Field.TheVariants as field
use Rattle.dict_value.specs.declared.value.Format.{Format}
use Rattle.dict_value.specs.declared.value.Value.{Value}
use Rattle.dict_value.specs.declared.value.TheConstants.{MOST_ROWS}
use Rattle.packed_rows.specs.Packs.{Building}
use Rattle.row_text.specs.Cutting.{IsWhole, ended}
use Rattle.row_text.specs.Decoding.{IsTypedRow, Reader, is_row_line, readings, rule_of}
use Rattle.row_text.specs.Marks.{Mark, bare, escaped, hex, meant_byte}
use Rattle.row_text.specs.TabRow.{field_of}
use Rattle.row_text.specs.steps.CsvSteps.{IsPlainText}
use Rattle.row_text.specs.steps.TabSteps.{HasFieldsBefore, IsOrdinary, ReachesUntabbed}

-- the value of a field at the next column comes to the values
abbrev pub AddsValue : List Reader → Field → List Value → List Value → Type 0
AddsValue columns field old new = (v : Value) × (new ≡ old ++ v ∷ [])
    × ((column : Reader) → slice_get columns (length old) ≡ Some column → column field ≡ Ok v)

-- the first columns make these values of the fields
pub record AreValues (columns : List Reader) (fields : List Field) (row : List Value) : Type 0 where
  pub count : length fields ≡ length row
  pub typed : readings (take (length row) columns) fields ≡ map Ok row

-- the text begins with a line, of so many bytes with its line feed, that is this row
pub record BeginsWithRow
    (format : Format) (columns : List Reader) (text : List ℕ) (size : ℕ) (row : List Value) : Type 0 where
  pub line : List ℕ
  pub within : size ≤ length text
  pub whole : IsWhole (rule_of format) line
  pub joined : text ≡ ended line ++ drop size text
  pub is_row : is_row_line format line ≡ true
  pub typed : IsTypedRow format columns line row

-- the row that the text begins with comes to the rows
pub record TakesRow
    (format : Format) (columns : List Reader) (text : List ℕ) (size : ℕ) (old new : Building) : Type 0 where
  pub row : List Value
  pub room : length old.rows < MOST_ROWS
  pub has : BeginsWithRow format columns text size row
  pub added : new ≡ record { types = old.types; rows = old.rows ++ row ∷ []; open_row = [] }

-- a byte of TabSeparated text that ends no field, no line, and begins no escape
abbrev pub IsQuiet : ℕ → Type 0
IsQuiet b = IsOrdinary b × (b ≢ LINE_FEED)

-- so many quiet bytes stand before this one
abbrev pub EndsPiece : List ℕ → ℕ → ℕ → Type 0
EndsPiece text size byte =
    (size < length text) × AllByRecursion IsQuiet (take size text) × (slice_index text size ≡ byte)

-- the bytes don't end in a carriage return
abbrev pub LacksReturn : List ℕ → Type 0
LacksReturn piece = (k : ℕ) → length piece ≡ suc k → slice_index piece k ≢ CARRIAGE_RETURN

-- a mark that ends no line
abbrev pub EndsNoLine : Mark → Type 0
EndsNoLine (bare b) = b ≢ LINE_FEED
EndsNoLine (escaped b) = Unit {0}
EndsNoLine (hex high low) = Unit {0}

-- the text begins with these marks of a field, and this byte stands behind them
pub record FrontMarks (text : List ℕ) (size byte : ℕ) (marks : List Mark) : Type 0 where
  pub reaches : ReachesUntabbed text size marks
  pub unended : AllByRecursion EndsNoLine marks
  pub below : size < length text
  pub here : slice_index text size ≡ byte

-- the marks that the text begins with stand for these bytes
abbrev pub Unescapes : List ℕ → ℕ → ℕ → List ℕ → Type 0
Unescapes text size byte meant = (marks : List Mark) × FrontMarks text size byte marks × (meant ≡ map meant_byte marks)

-- the value of the field that the text begins with comes to the values
abbrev pub AddsField : List Reader → List ℕ → ℕ → ℕ → List Value → List Value → Type 0
AddsField columns text size byte old new =
    (marks : List Mark) × FrontMarks text size byte marks × AddsValue columns (field_of marks) old new

-- fields with a tab behind each stand before a place of the text, and are these values
pub record HasFieldsTaken (columns : List Reader) (text : List ℕ) (place : ℕ) (row : List Value) : Type 0 where
  pub fields : List Field
  pub marks : List Mark
  pub before : HasFieldsBefore text place fields marks
  pub unended : AllByRecursion EndsNoLine marks
  pub values : AreValues columns fields row

-- so many bytes without a comma, a quote or a line end stand before this one
abbrev pub EndsText : List ℕ → ℕ → ℕ → Type 0
EndsText text size byte =
    (size < length text) × IsPlainText (take size text) × (slice_index text size ≡ byte)

-- a text of CSV with the comma behind it
abbrev pub with_comma : List ℕ → List ℕ
with_comma text = text ++ COMMA ∷ []

-- plain texts with a comma behind each stand before a place of the text, and are these values
pub record HasTextsTaken (columns : List Reader) (text : List ℕ) (place : ℕ) (row : List Value) : Type 0 where
  pub texts : List (List ℕ)
  pub within : place ≤ length text
  pub joined : take place text ≡ flat_map with_comma texts
  pub plain : AllByRecursion IsPlainText texts
  pub values : AreValues columns (map field.Text texts) row
