-- What a whole text decodes to: its typed rows, or its first bad row, or that it has too many.
use Rattle.std.specs.Prelude.{◌≡◌, ◌≢◌, ◌⊎◌, ◌<◌, ◌≤◌, ◌+◌, ◌-◌, ◌^◌, ◌∷◌, ◌++◌, not, min, Bool, true, ℕ}
use Rattle.std.specs.Prelude.{List, length, map, filter, Result, Ok, Err}
use Rattle.std.specs.List.{AllZip, zip}
use Rattle.std.specs.Result.{IsOkAnd}
use Rattle.dict_value.specs.declared.fault.BadRow.{BadRow}
use Rattle.dict_value.specs.declared.fault.LineFault.{LineFault}
use Rattle.dict_value.specs.declared.fault.LineFault.TheVariants as fault
use Rattle.dict_value.specs.declared.fault.Why.{Why}
use Rattle.dict_value.specs.declared.fault.Why.TheVariants as why
use Rattle.dict_value.specs.declared.value.BadValue.{BadValue}
use Rattle.dict_value.specs.declared.value.BadValue.TheVariants as value
use Rattle.dict_value.specs.declared.value.Field.{Field}
use Rattle.dict_value.specs.declared.value.Format.{Format}
use Rattle.dict_value.specs.declared.value.Format.TheVariants.{Tab, Csv}
use Rattle.dict_value.specs.declared.value.Value.{Value}
use Rattle.dict_value.specs.Values.{IsStringValue}
use Rattle.row_text.specs.declared.cutter.CutRule.{CutRule}
use Rattle.row_text.specs.declared.cutter.CutRule.TheVariants as rule
use Rattle.row_text.specs.declared.decode.DecodeFault.{DecodeFault}
use Rattle.row_text.specs.declared.decode.DecodeFault.TheVariants as decode
use Rattle.dict_value.specs.declared.value.TheConstants.{MOST_ROWS}
use Rattle.row_text.specs.CsvRow.{CsvAnswers, is_blank_line}
use Rattle.row_text.specs.TabRow.{TabAnswers}
use Rattle.row_text.specs.Tables.{AreLines}

-- what a column makes of a field: a value, or its fault
abbrev pub Reader : Type 0
Reader = Field → Result Value BadValue

-- The column makes this of the field. Want of memory may stand only in place of a String that isn't empty, the one
-- value that takes memory.
abbrev pub Reads : Reader → Field → Result Value BadValue → Type 0
Reads column field (Err value.NoMemory) = (Err value.NoMemory ≡ column field) ⊎ IsOkAnd (column field) IsStringValue
Reads column field made = made ≡ column field

-- which line feeds end a row
abbrev pub rule_of : Format → CutRule
rule_of Tab = rule.Tab
rule_of Csv = rule.Csv

-- whether a line stands for a row; a blank line of CSV doesn't
abbrev pub is_row_line : Format → List ℕ → Bool
is_row_line Tab line = true
is_row_line Csv line = not (is_blank_line line)

-- a line's fields, or its fault
abbrev pub LineGives : Format → List ℕ → Result (List Field) LineFault → Type 0
LineGives Tab line answer = TabAnswers line answer
LineGives Csv line answer = CsvAnswers line answer

-- what each column makes of its field
abbrev pub readings : List Reader → List Field → List (Result Value BadValue)
readings columns fields = map (λ (both : Reader × Field). both.0 both.1) (zip columns fields)

-- the line has these fields, one for each column
abbrev pub FillsColumns : Format → List Reader → List ℕ → List Field → Type 0
FillsColumns format columns line fields = LineGives format line (Ok fields) × (length fields ≡ length columns)

-- the line is this row: each column has its value
abbrev pub IsTypedRow : Format → List Reader → List ℕ → List Value → Type 0
IsTypedRow format columns line row =
    (fields : List Field) × FillsColumns format columns line fields × (readings columns fields ≡ map Ok row)

-- what a bad row calls the fault of its line; want of memory is none of a line's
abbrev pub why_of : LineFault → Why
why_of (fault.BadEscape place) = why.Escape place
why_of fault.CarriageReturn = why.CarriageReturn
why_of fault.NotOneRecord = why.NotOneRecord
why_of fault.NoMemory = why.Value value.NoMemory

-- a count of fields as a bad row tells it: at most the greatest number of 32 bits
abbrev pub told_count : ℕ → ℕ
told_count count = min count (2 ^ 32 - 1)

-- Why the line is no row, at a column from 1, or at 0 for the line as a whole: its fault; else another number of
-- fields than there are columns; else the first column from the left that has a fault.
pub data IsBadLine (format : Format) (columns : List Reader) (line : List ℕ) (column : ℕ) (reason : Why) : Type 0 where
  Unread : (fault : LineFault) → LineGives format line (Err fault)
      → column ≡ 0 → reason ≡ why_of fault → IsBadLine format columns line column reason
  Miscounted : (fields : List Field) → LineGives format line (Ok fields) → length fields ≢ length columns
      → column ≡ 0 → reason ≡ why.FieldCount (told_count (length fields)) → IsBadLine format columns line column reason
  Unvalued : (fields : List Field) (before : List Value) (fault : BadValue) (after : List (Result Value BadValue))
      → FillsColumns format columns line fields → readings columns fields ≡ map Ok before ++ Err fault ∷ after
      → column ≡ length before + 1 → reason ≡ why.Value fault → IsBadLine format columns line column reason

-- the lines are these typed rows; blank ones have none
abbrev pub AreTypedRows : Format → List Reader → List (List ℕ) → List (List Value) → Type 0
AreTypedRows format columns lines rows =
    AllZip (IsTypedRow format columns) (filter (is_row_line format) lines) rows

-- the text is these rows, and they are not too many
pub record HasRows (format : Format) (columns : List Reader) (text : List ℕ) (rows : List (List Value)) : Type 0 where
  pub lines : List (List ℕ)
  pub cut : AreLines (rule_of format) text lines
  pub typed : AreTypedRows format columns lines rows
  pub few : length rows ≤ MOST_ROWS

-- this line of the text isn't blank, and the lines before it are these typed rows
pub record StandsBehind
    (format : Format) (columns : List Reader) (text : List ℕ) (rows : List (List Value)) (line : List ℕ) : Type 0 where
  pub before : List (List ℕ)
  pub after : List (List ℕ)
  pub cut : AreLines (rule_of format) text (before ++ line ∷ after)
  pub typed : AreTypedRows format columns before rows
  pub is_row : is_row_line format line ≡ true

-- the first bad row of a text, where fewer rows than a version may have stand before it; its line counts from 1
pub record HasBadRow (format : Format) (columns : List Reader) (text : List ℕ) (bad : BadRow) : Type 0 where
  pub rows : List (List Value)
  pub line : List ℕ
  pub stands : StandsBehind format columns text rows line
  pub room : length rows < MOST_ROWS
  pub numbered : bad.line ≡ length stands.before + 1
  pub reason : IsBadLine format columns line bad.column bad.why

-- a row stands behind as many as a version may have, and none of those is bad
pub record HasTooMany (format : Format) (columns : List Reader) (text : List ℕ) : Type 0 where
  pub rows : List (List Value)
  pub line : List ℕ
  pub stands : StandsBehind format columns text rows line
  pub full : length rows ≡ MOST_ROWS

-- what a text is answered with: its rows, or why it has none
abbrev pub Decoded : Type 0
Decoded = Result (List (List Value)) DecodeFault

-- the one answer to a text
abbrev pub Decodes : Format → List Reader → List ℕ → Decoded → Type 0
Decodes format columns text (Ok rows) = HasRows format columns text rows
Decodes format columns text (Err (decode.Bad bad)) = HasBadRow format columns text bad
Decodes format columns text (Err decode.TooMany) = HasTooMany format columns text
Decodes format columns text (Err decode.NoMemory) = ⊥
