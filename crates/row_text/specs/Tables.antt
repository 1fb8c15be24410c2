-- The rows of a whole text.
use Rattle.std.specs.Prelude.{◌≡◌, ◌∷◌, ◌++◌, [], not, ℕ, List, filter}
use Rattle.std.specs.List.{AllZip}
use Rattle.dict_value.specs.declared.value.Field.{Field}
use Rattle.row_text.specs.declared.cutter.CutRule.{CutRule}
use Rattle.row_text.specs.declared.cutter.CutRule.TheVariants as rule
use Rattle.row_text.specs.TabRow.{IsTabRow}
use Rattle.row_text.specs.CsvRow.{IsCsvRow, is_blank_line}
use Rattle.row_text.specs.Cutting.{Cuts}

-- a last row with at least one byte may lack its line feed
abbrev pub last_line : List ℕ → List (List ℕ)
last_line [] = []
last_line (b ∷ bytes) = (b ∷ bytes) ∷ []

-- the lines of the text in their order, without their line feeds
abbrev pub AreLines : CutRule → List ℕ → List (List ℕ) → Type 0
AreLines rule text lines =
    (rows : List (List ℕ)) × (rest : List ℕ) × Cuts rule text rows rest × (lines ≡ rows ++ last_line rest)

-- the TabSeparated text is a table of these rows
abbrev pub IsTabTable : List ℕ → List (List Field) → Type 0
IsTabTable text table = (lines : List (List ℕ)) × AreLines rule.Tab text lines × AllZip IsTabRow lines table

-- the lines that stand for rows
abbrev pub without_blank_lines : List (List ℕ) → List (List ℕ)
without_blank_lines lines = filter (λ line. not (is_blank_line line)) lines

-- the CSV text is a table of these rows; blank lines have none
abbrev pub IsCsvTable : List ℕ → List (List Field) → Type 0
IsCsvTable text table =
    (lines : List (List ℕ)) × AreLines rule.Csv text lines × AllZip IsCsvRow (without_blank_lines lines) table
