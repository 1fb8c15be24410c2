-- What lines bring to the rows of the lines before them.
use Rattle.std.specs.Prelude.{◌≡◌, ◌<◌, ◌≤◌, ◌+◌, ◌∷◌, ◌++◌, true, ℕ, List, length, drop, Result, Ok, Err}
use Rattle.dict_value.specs.declared.fault.BadRow.{BadRow}
use Rattle.dict_value.specs.declared.value.Format.{Format}
use Rattle.dict_value.specs.declared.value.Value.{Value}
use Rattle.dict_value.specs.declared.value.TheConstants.{MOST_ROWS}
use Rattle.row_text.specs.declared.decode.DecodeFault.{DecodeFault}
use Rattle.row_text.specs.declared.decode.DecodeFault.TheVariants as decode
use Rattle.row_text.specs.Cutting.{Cuts}
use Rattle.row_text.specs.Decoding.{AreTypedRows, Decoded, IsBadLine, Reader, is_row_line, rule_of}
use Rattle.row_text.specs.Tables.{AreLines}

-- the lines are typed rows, and with the rows before them they are these, and not too many
pub record BringRows
    (format : Format) (columns : List Reader) (lines : List (List ℕ)) (old new : List (List Value)) : Type 0 where
  pub rows : List (List Value)
  pub typed : AreTypedRows format columns lines rows
  pub joined : new ≡ old ++ rows
  pub few : length new ≤ MOST_ROWS

-- this one of the lines isn't blank, and those before it are these typed rows
pub record StandsAmong
    (format : Format) (columns : List Reader) (lines : List (List ℕ)) (rows : List (List Value)) (line : List ℕ)
    : Type 0 where
  pub before : List (List ℕ)
  pub after : List (List ℕ)
  pub split : lines ≡ before ++ line ∷ after
  pub typed : AreTypedRows format columns before rows
  pub is_row : is_row_line format line ≡ true

-- The first bad one of the lines, where fewer rows than a version may have stand before it. Its line counts on from
-- the lines before all these, which are so many.
pub record BringBadRow
    (format : Format) (columns : List Reader) (lines : List (List ℕ)) (number : ℕ) (old : List (List Value))
    (bad : BadRow) : Type 0 where
  pub rows : List (List Value)
  pub line : List ℕ
  pub stands : StandsAmong format columns lines rows line
  pub room : length (old ++ rows) < MOST_ROWS
  pub numbered : bad.line ≡ number + length stands.before + 1
  pub reason : IsBadLine format columns line bad.column bad.why

-- one of the lines is a row behind as many as a version may have, and none of those is bad
pub record BringTooMany
    (format : Format) (columns : List Reader) (lines : List (List ℕ)) (old : List (List Value)) : Type 0 where
  pub rows : List (List Value)
  pub line : List ℕ
  pub stands : StandsAmong format columns lines rows line
  pub full : length (old ++ rows) ≡ MOST_ROWS

-- what lines bring that stand behind so many others, whose rows are these: all rows, or why there are none
abbrev pub Bring : Format → List Reader → List (List ℕ) → ℕ → List (List Value) → Decoded → Type 0
Bring format columns lines number old (Ok new) = BringRows format columns lines old new
Bring format columns lines number old (Err (decode.Bad bad)) = BringBadRow format columns lines number old bad
Bring format columns lines number old (Err decode.TooMany) = BringTooMany format columns lines old
Bring format columns lines number old (Err decode.NoMemory) = ⊥

-- what the lines of a text bring, the last of which may lack its line feed
abbrev pub DecodesBehind : Format → List Reader → ℕ → List (List Value) → List ℕ → Decoded → Type 0
DecodesBehind format columns number old text answer =
    (lines : List (List ℕ)) × AreLines (rule_of format) text lines × Bring format columns lines number old answer

-- the same as a call tells it that adds to the rows
abbrev pub AddsRowsOf : Format → List Reader → ℕ → List (List Value) → List ℕ
    → Result (Unit {0}) DecodeFault → List (List Value) → Type 0
AddsRowsOf format columns number old text (Ok _) new = DecodesBehind format columns number old text (Ok new)
AddsRowsOf format columns number old text (Err fault) new = DecodesBehind format columns number old text (Err fault)

-- what the lines bring that have their line feed; the rest of the text is less than one more
abbrev pub WholeLinesBring : Format → List Reader → ℕ → List (List Value) → List ℕ → List (List ℕ) → List ℕ
    → Decoded → Type 0
WholeLinesBring format columns number old text lines rest answer =
    Cuts (rule_of format) text lines rest × Bring format columns lines number old answer

-- The same as a call tells it that adds to the rows and counts the lines on, with the number of bytes that these
-- lines have.
abbrev pub AddsWhole : Format → List Reader → ℕ → List (List Value) → List ℕ
    → Result ℕ DecodeFault → ℕ → List (List Value) → Type 0
AddsWhole format columns number old text (Ok size) counted new = (lines : List (List ℕ)) × (size ≤ length text)
    × (counted ≡ number + length lines) × WholeLinesBring format columns number old text lines (drop size text) (Ok new)
AddsWhole format columns number old text (Err fault) counted new = (lines : List (List ℕ)) × (rest : List ℕ)
    × WholeLinesBring format columns number old text lines rest (Err fault)

-- A text that is cut behind a row's end has what its first part brings, where that is a fault, and else what the
-- rest brings behind it.
abbrev pub DecodesOn : Format → List Reader → ℕ → List (List Value) → List (List ℕ) → List ℕ → Decoded → Decoded → Type 0
DecodesOn format columns number old lines rest (Err fault) answer = answer ≡ Err fault
DecodesOn format columns number old lines rest (Ok middle) answer =
    DecodesBehind format columns (number + length lines) middle rest answer
