-- What the steps of reading a TabSeparated row find.
use Rattle.std.specs.Prelude.{◌≡◌, ◌≢◌, ◌≤◌, ◌<◌, ◌+◌, ◌∷◌, ◌++◌, [], slice_index, false, ℕ}
use Rattle.std.specs.Prelude.{List, length, take, drop, Option, Some, None, Result, Ok, Err}
use Rattle.std.specs.List.{AllByRecursion}
use Rattle.dict_value.specs.declared.value.Field.{Field}
use Rattle.dict_value.specs.declared.fault.LineFault.{LineFault}
use Rattle.dict_value.specs.declared.fault.LineFault.TheVariants as fault
use Rattle.dict_value.specs.declared.letters.TheConstants.{TAB, BACKSLASH}
use Rattle.row_text.specs.Marks.{Mark, IsBadEscape, Spells, meant_byte}
use Rattle.row_text.specs.TabRow.{EndsInReturn, ends_in_return, field_of, fields_of, is_tab}

-- a byte that ends no field and begins no escape
abbrev pub IsOrdinary : ℕ → Type 0
IsOrdinary b = (b ≢ TAB) × (b ≢ BACKSLASH)

-- these marks are the bytes before a place, and none is a tab
pub record ReachesUntabbed (rest : List ℕ) (place : ℕ) (marks : List Mark) : Type 0 where
  pub within : place ≤ length rest
  pub spells : Spells (take place rest) marks
  pub untabbed : AllByRecursion (λ m. is_tab m ≡ false) marks

-- what stands at the backslash that the text begins with: the byte that its escape stands for, and its size
abbrev pub EscapeOf : List ℕ → Option (ℕ × ℕ) → Type 0
EscapeOf text None = IsBadEscape text
EscapeOf text (Some escape) =
    (mark : Mark) × (escape.0 ≡ meant_byte mark) × (escape.1 ≤ length text) × (ends_in_return (mark ∷ []) ≡ false)
    × ReachesUntabbed text escape.1 (mark ∷ [])

-- a field begins at the start of the text and ends at this place
abbrev pub FieldOf : List ℕ → Field → ℕ → Type 0
FieldOf rest field stop = (marks : List Mark) × ReachesUntabbed rest stop marks × (field ≡ field_of marks)
    × (stop < length rest → slice_index rest stop ≡ TAB) × (stop ≡ length rest → ends_in_return marks ≡ false)

-- the first bad escape of a text that stands at this place of its line
abbrev pub BadEscapeFrom : List ℕ → ℕ → ℕ → Type 0
BadEscapeFrom rest start place = (marks : List Mark) × (before : ℕ) × (place ≡ start + before)
    × Spells (take before rest) marks × IsBadEscape (drop before rest)

-- what reading a field gives, where the text stands at this place of its line
abbrev pub ReadsField : List ℕ → ℕ → Result (Field × ℕ) LineFault → Type 0
ReadsField rest start (Ok found) = FieldOf rest found.0 found.1
ReadsField rest start (Err (fault.BadEscape place)) = BadEscapeFrom rest start place
ReadsField rest start (Err fault.CarriageReturn) = EndsInReturn rest
ReadsField rest start (Err fault.NotOneRecord) = ⊥
ReadsField rest start (Err fault.NoMemory) = ⊥

-- these fields stand before a place of the line where the next one begins
pub record HasFieldsBefore (line : List ℕ) (place : ℕ) (fields : List Field) (marks : List Mark) : Type 0 where
  pub within : place ≤ length line
  pub spells : Spells (take place line) marks
  pub last : ends_in_return marks ≡ false
  pub later : (more : List Mark) → fields_of (marks ++ more) ≡ fields ++ fields_of more
