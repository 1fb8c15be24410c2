-- What the steps of decoding a text find.
use Rattle.std.specs.Prelude.{◌≡◌, ◌<◌, ◌⊎◌, ◌∷◌, ◌++◌, [], ◌+◌, true, false, ℕ, List, length, map, Option, Some}
use Rattle.std.specs.Prelude.{None, Result, Ok, Err}
use Rattle.dict_value.specs.declared.fault.LineFault.{LineFault}
use Rattle.dict_value.specs.declared.fault.LineFault.TheVariants as line_fault
use Rattle.dict_value.specs.declared.fault.Why.{Why}
use Rattle.dict_value.specs.declared.fault.Why.TheVariants as why
use Rattle.dict_value.specs.declared.value.BadValue.{BadValue}
use Rattle.dict_value.specs.declared.value.BadValue.TheVariants as value
use Rattle.dict_value.specs.declared.value.Field.{Field}
use Rattle.dict_value.specs.declared.value.Format.{Format}
use Rattle.dict_value.specs.declared.value.Value.{Value}
use Rattle.row_text.specs.declared.decode.DecodeFault.{DecodeFault}
use Rattle.row_text.specs.declared.decode.DecodeFault.TheVariants as decode
use Rattle.row_text.specs.declared.decode.RowFault.{RowFault}
use Rattle.row_text.specs.declared.decode.RowFault.TheVariants as no_row
use Rattle.dict_value.specs.declared.value.TheConstants.{MOST_ROWS}
use Rattle.row_text.specs.Cutting.{IsOpen}
use Rattle.row_text.specs.Decoding.{IsBadLine, IsTypedRow, Reader, is_row_line, readings, rule_of}
use Rattle.row_text.specs.steps.CutSteps.{BeginsWithLine}

-- the first fault of the columns from the left, and its column
abbrev pub IsFirstBadField : List Reader → List Field → ℕ → Why → Type 0
IsFirstBadField columns fields column reason =
    (before : List Value) × (fault : BadValue) × (after : List (Result Value BadValue))
    × (readings columns fields ≡ map Ok before ++ Err fault ∷ after)
    × (column ≡ length before + 1) × (reason ≡ why.Value fault)

-- what the columns make of the fields: a row, or the first fault and its column
abbrev pub TakeAll : List Reader → List Field → Result (List Value) RowFault → Type 0
TakeAll columns fields (Ok values) = readings columns fields ≡ map Ok values
TakeAll columns fields (Err (no_row.Bad column reason)) = IsFirstBadField columns fields column reason
TakeAll columns fields (Err no_row.NoMemory) = ⊥

-- a line's fault as that of a row
abbrev pub row_fault : LineFault → RowFault
row_fault (line_fault.BadEscape place) = no_row.Bad 0 (why.Escape place)
row_fault line_fault.CarriageReturn = no_row.Bad 0 why.CarriageReturn
row_fault line_fault.NotOneRecord = no_row.Bad 0 why.NotOneRecord
row_fault line_fault.NoMemory = no_row.NoMemory

-- a fault of the column at a place, from 0, as that of a row
abbrev pub column_fault : ℕ → BadValue → RowFault
column_fault place value.NoMemory = no_row.NoMemory
column_fault place fault = no_row.Bad (place + 1) (why.Value fault)

-- the row of a line, or why it is none
abbrev pub LineDecodes : Format → List Reader → List ℕ → Result (List Value) RowFault → Type 0
LineDecodes format columns line (Ok values) = IsTypedRow format columns line values
LineDecodes format columns line (Err (no_row.Bad column reason)) = IsBadLine format columns line column reason
LineDecodes format columns line (Err no_row.NoMemory) = ⊥

-- the fault of the line of this number as that of its text
abbrev pub fault_at : ℕ → RowFault → DecodeFault
fault_at number (no_row.Bad column reason) = decode.Bad (record { line = number; column = column; why = reason })
fault_at number no_row.NoMemory = decode.NoMemory

-- a row may follow so many rows as these
abbrev pub HasRowRoom : List (List Value) → Type 0
HasRowRoom rows = length rows < MOST_ROWS

-- the rows with that of one more line behind them
abbrev pub AddsRow : Format → List Reader → List ℕ → List (List Value) → List (List Value) → Type 0
AddsRow format columns line old new =
    (values : List Value) × IsTypedRow format columns line values × (new ≡ old ++ values ∷ [])

-- the rows after one more line: its row comes to them where it is one
abbrev pub AddsLine : Format → List Reader → List ℕ → List (List Value) → List (List Value) → Type 0
AddsLine format columns line old new = ((is_row_line format line ≡ false) × (new ≡ old))
    ⊎ ((is_row_line format line ≡ true) × HasRowRoom old × AddsRow format columns line old new)

-- why the line of this number brings no row behind these
abbrev pub LineFails : Format → List Reader → List ℕ → ℕ → List (List Value) → DecodeFault → Type 0
LineFails format columns line number old (decode.Bad bad) = (is_row_line format line ≡ true) × HasRowRoom old
    × (bad.line ≡ number) × IsBadLine format columns line bad.column bad.why
LineFails format columns line number old decode.TooMany = (is_row_line format line ≡ true) × (length old ≡ MOST_ROWS)
LineFails format columns line number old decode.NoMemory = ⊥

-- what the line of this number brings behind these rows
abbrev pub LineBrings : Format → List Reader → List ℕ → ℕ → List (List Value)
    → Result (Unit {0}) DecodeFault → List (List Value) → Type 0
LineBrings format columns line number old (Ok _) new = AddsLine format columns line old new
LineBrings format columns line number old (Err fault) new = LineFails format columns line number old fault

-- what the first line of a text brings behind so many others, where it has its line feed; else the rows stay
abbrev pub FirstBrings : Format → List Reader → List ℕ → ℕ → List (List Value)
    → Result (Option ℕ) DecodeFault → List (List Value) → Type 0
FirstBrings format columns text number old (Ok (Some size)) new =
    (line : List ℕ) × BeginsWithLine (rule_of format) text line size × AddsLine format columns line old new
FirstBrings format columns text number old (Ok None) new = IsOpen (rule_of format) text × (new ≡ old)
FirstBrings format columns text number old (Err fault) new = (size : ℕ) × (line : List ℕ)
    × BeginsWithLine (rule_of format) text line size × LineFails format columns line (number + 1) old fault
