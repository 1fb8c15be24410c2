-- Where the first row of a piece ends.
use Rattle.std.specs.Prelude.{◌≡◌, ◌<◌, ◌≤◌, ◌++◌, slice_index, ℕ, List, length, take, drop}
use Rattle.row_text.specs.declared.cutter.CutRule.{CutRule}
use Rattle.row_text.specs.declared.cutter.Found.{Found}
use Rattle.row_text.specs.declared.cutter.Found.TheVariants as found
use Rattle.dict_value.specs.declared.letters.TheConstants.{LINE_FEED}
use Rattle.std.specs.List.{AllByRecursion, flat_map}
use Rattle.row_text.specs.Cutting.{IsOpen, IsWhole, ended, keeps_open}

-- the place is one of the piece's
abbrev pub IsWithin : List ℕ → Found → Type 0
IsWithin piece (found.Row place) = place < length piece
IsWithin piece (found.Inside inside) = Unit {0}

-- behind these bytes of a row
abbrev pub FindsEnd : CutRule → List ℕ → List ℕ → Found → Type 0
FindsEnd rule row piece (found.Row place) =
    (place < length piece) × (slice_index piece place ≡ LINE_FEED) × IsWhole rule (row ++ take place piece)
FindsEnd rule row piece (found.Inside inside) = IsOpen rule (row ++ piece) × (inside ≡ keeps_open rule (row ++ piece))

-- the text begins with this line and its line feed, so many bytes together
abbrev pub BeginsWithLine : CutRule → List ℕ → List ℕ → ℕ → Type 0
BeginsWithLine rule text line size =
    IsWhole rule line × (size ≤ length text) × (text ≡ ended line ++ drop size text)

-- the rows that end in a piece come to the others, and what stands behind them is the new front of a row
abbrev pub CutsPiece : CutRule → List ℕ → List (List ℕ) → List ℕ → List ℕ → List (List ℕ) → Type 0
CutsPiece rule row rows piece new_row new_rows =
    (more : List (List ℕ)) × (new_rows ≡ rows ++ more) × AllByRecursion (IsWhole rule) more
    × (row ++ piece ≡ flat_map ended more ++ new_row)
