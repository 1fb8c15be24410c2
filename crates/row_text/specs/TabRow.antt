-- One row of TabSeparated text, without its line feed: which fields it has, or its first fault, and how one is written.
use Rattle.std.specs.Prelude.{◌≡◌, ◌==◌, ◌∷◌, [], if◌then◌else◌, Bool, true, false, ℕ, List, take, drop, map}
use Rattle.std.specs.Prelude.{Option, Some, None, Result, Ok, Err}
use Rattle.std.specs.List.{flat_map, join_with_byte, slice_split}
use Rattle.dict_value.specs.declared.value.Field.{Field}
use Rattle.dict_value.specs.declared.value.Field.TheVariants as field
use Rattle.dict_value.specs.declared.fault.LineFault.{LineFault}
use Rattle.dict_value.specs.declared.fault.LineFault.TheVariants as fault
use Rattle.dict_value.specs.declared.letters.TheConstants.{BACKSLASH, BACKSPACE, CAPITAL_N, CARRIAGE_RETURN, DIGIT_0}
use Rattle.dict_value.specs.declared.letters.TheConstants.{FORM_FEED, LETTER_B, LETTER_F, LETTER_N, LETTER_R, LETTER_T}
use Rattle.dict_value.specs.declared.letters.TheConstants.{LINE_FEED, NUL, SINGLE_QUOTE, TAB}
use Rattle.row_text.specs.Marks.{Mark, bare, escaped, hex, meant_byte, Spells, IsBadEscape}

-- whether a mark is a tab that no backslash took
abbrev pub is_tab : Mark → Bool
is_tab (bare b) = b == TAB
is_tab (escaped b) = false
is_tab (hex high low) = false

-- whether the marks are \N alone
abbrev pub are_null_marks : List Mark → Bool
are_null_marks [] = false
are_null_marks (bare b ∷ marks) = false
are_null_marks (hex high low ∷ marks) = false
are_null_marks (escaped b ∷ []) = b == CAPITAL_N
are_null_marks (escaped b ∷ mark ∷ marks) = false

-- the field that the marks between two tabs stand for
abbrev pub field_of : List Mark → Field
field_of marks = if are_null_marks marks then field.Null else field.Text (map meant_byte marks)

abbrev pub fields_of : List Mark → List Field
fields_of marks = map field_of (slice_split is_tab marks)

-- whether a mark is a carriage return that no backslash took
abbrev pub is_return : Mark → Bool
is_return (bare b) = b == CARRIAGE_RETURN
is_return (escaped b) = false
is_return (hex high low) = false

-- whether the last mark is one
abbrev pub ends_in_return : List Mark → Bool
ends_in_return [] = false
ends_in_return (mark ∷ []) = is_return mark
ends_in_return (mark ∷ next ∷ marks) = ends_in_return (next ∷ marks)

-- the line is a row of these fields
abbrev pub IsTabRow : List ℕ → List Field → Type 0
IsTabRow line fields =
    (marks : List Mark) × Spells line marks × (ends_in_return marks ≡ false) × (fields ≡ fields_of marks)

-- the line has no bad escape, and ends in a carriage return that no backslash took
abbrev pub EndsInReturn : List ℕ → Type 0
EndsInReturn line = (marks : List Mark) × Spells line marks × (ends_in_return marks ≡ true)

-- the first bad escape of the line is at this place
abbrev pub HasBadEscape : List ℕ → ℕ → Type 0
HasBadEscape line place = (marks : List Mark) × Spells (take place line) marks × IsBadEscape (drop place line)

-- the one answer to a line
abbrev pub TabAnswers : List ℕ → Result (List Field) LineFault → Type 0
TabAnswers line (Ok fields) = IsTabRow line fields
TabAnswers line (Err (fault.BadEscape place)) = HasBadEscape line place
TabAnswers line (Err fault.CarriageReturn) = EndsInReturn line
TabAnswers line (Err fault.NotOneRecord) = ⊥
TabAnswers line (Err fault.NoMemory) = ⊥

-- the letter behind the backslash that a byte is written with: the written escapes are \b \f \r \n \t \0 \' \\
unfoldable pub written_letter : ℕ → Option ℕ
written_letter b =
    if b == BACKSPACE then Some LETTER_B
    else if b == FORM_FEED then Some LETTER_F
    else if b == CARRIAGE_RETURN then Some LETTER_R
    else if b == LINE_FEED then Some LETTER_N
    else if b == TAB then Some LETTER_T
    else if b == NUL then Some DIGIT_0
    else if b == SINGLE_QUOTE then Some SINGLE_QUOTE
    else if b == BACKSLASH then Some BACKSLASH
    else None

-- a byte as it is written, where it has this letter
abbrev pub written_as : ℕ → Option ℕ → List ℕ
written_as b None = b ∷ []
written_as b (Some letter) = BACKSLASH ∷ letter ∷ []

abbrev pub written_byte : ℕ → List ℕ
written_byte b = written_as b (written_letter b)

abbrev pub field_text : Field → List ℕ
field_text field.Null = BACKSLASH ∷ CAPITAL_N ∷ []
field_text (field.Text bytes) = flat_map written_byte bytes

-- the one line that is written for these fields, without its line feed
abbrev pub row_line : List Field → List ℕ
row_line fields = join_with_byte TAB (map field_text fields)
