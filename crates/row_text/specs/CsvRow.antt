-- One row of CSV, without its line feed: which fields it has, as `csv` reads it, and how one is written.
use Rattle.std.specs.Prelude.{◌≡◌, ◌∷◌, ◌++◌, ◌==◌, if◌then◌else◌, [], Bool, ℕ, List, map, Result, Ok, Err}
use Rattle.std.specs.List.{list_all}
use Rattle.csv.specs.Reading.{AreRecords, default_config, strip_bom}
use Rattle.csv.specs.Writing.{default_writer, is_blank, row_body, row_text}
use Rattle.csv.specs.declared.parser.State.TheVariants as state
use Rattle.dict_value.specs.declared.value.Field.{Field}
use Rattle.dict_value.specs.declared.value.Field.TheVariants as field
use Rattle.dict_value.specs.declared.fault.LineFault.{LineFault}
use Rattle.dict_value.specs.declared.fault.LineFault.TheVariants as fault
use Rattle.dict_value.specs.declared.letters.TheConstants.{BACKSLASH, CAPITAL_N, CARRIAGE_RETURN, DOUBLE_QUOTE}

-- the records that `csv` reads of a text, each with its fields; a byte order mark at its front is none of them
abbrev pub AreCsvRecords : List ℕ → List (List (List ℕ)) → Type 0
AreCsvRecords text records = AreRecords default_config state.StartRecord (strip_bom text) records

-- the line is one record, with these fields
abbrev pub IsRecord : List ℕ → List (List ℕ) → Type 0
IsRecord line texts = AreCsvRecords line (texts ∷ [])

-- the line is a row of these fields
abbrev pub IsCsvRow : List ℕ → List Field → Type 0
IsCsvRow line fields = (texts : List (List ℕ)) × IsRecord line texts × (fields ≡ map field.Text texts)

-- the one answer to a line
abbrev pub CsvAnswers : List ℕ → Result (List Field) LineFault → Type 0
CsvAnswers line (Ok fields) = IsCsvRow line fields
CsvAnswers line (Err (fault.BadEscape place)) = ⊥
CsvAnswers line (Err fault.CarriageReturn) = ⊥
CsvAnswers line (Err fault.NotOneRecord) = (texts : List (List ℕ)) → ¬ IsRecord line texts
CsvAnswers line (Err fault.NoMemory) = ⊥

-- a field as CSV writes it, where NULL has no form of its own and becomes the text \N
abbrev pub csv_field : Field → List ℕ
csv_field field.Null = BACKSLASH ∷ CAPITAL_N ∷ []
csv_field (field.Text bytes) = bytes

-- the one text of a row, line feed included, as the default writer of `csv` writes it
abbrev pub csv_text : List Field → List ℕ
csv_text fields = row_text default_writer (map csv_field fields)

-- what the writer adds where the row would have no byte: two quotes
abbrev pub csv_padding : List (List ℕ) → List ℕ
csv_padding texts = if is_blank default_writer texts then DOUBLE_QUOTE ∷ DOUBLE_QUOTE ∷ [] else []

-- the text of a row without its line feed
abbrev pub csv_line : List Field → List ℕ
csv_line fields = row_body default_writer (map csv_field fields) ++ csv_padding (map csv_field fields)

-- the fields that a written row is read as: a NULL comes back as the text \N
abbrev pub csv_fields : List Field → List Field
csv_fields fields = map (λ f. field.Text (csv_field f)) fields

-- the first field begins with the bytes of a byte order mark, which reading drops
abbrev pub BeginsWithMark : List Field → Type 0
BeginsWithMark [] = ⊥
BeginsWithMark (first ∷ fields) = (rest : List ℕ) × (csv_field first ≡ 0xEF ∷ 0xBB ∷ 0xBF ∷ rest)

-- whether a line has nothing but carriage returns, and so is no row
abbrev pub is_blank_line : List ℕ → Bool
is_blank_line line = list_all (λ b. b == CARRIAGE_RETURN) line
