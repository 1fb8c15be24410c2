-- Where the rows of a text end.
use Rattle.std.specs.Prelude.{◌≡◌, ◌==◌, ◌%◌, ◌<◌, ◌∷◌, ◌++◌, [], Bool, true, false, ℕ}
use Rattle.std.specs.Prelude.{List, length, take, slice_index, count_by}
use Rattle.std.specs.List.{AllByRecursion, flat_map, suffix_len}
use Rattle.row_text.specs.declared.cutter.CutRule.{CutRule}
use Rattle.row_text.specs.declared.cutter.CutRule.TheVariants as rule
use Rattle.dict_value.specs.declared.letters.TheConstants.{BACKSLASH, DOUBLE_QUOTE, LINE_FEED}

abbrev pub is_odd : ℕ → Bool
is_odd n = (n % 2) == 1

-- Whether a line feed that follows these bytes of a row belongs to the row: a backslash took it, or it stands
-- between quotes.
unfoldable pub keeps_open : CutRule → List ℕ → Bool
keeps_open rule.Plain row = false
keeps_open rule.Tab row = is_odd (suffix_len (λ b. b == BACKSLASH) row)
keeps_open rule.Csv row = is_odd (count_by (λ b. b == DOUBLE_QUOTE) row)

-- a line feed at this place of the row belongs to it
abbrev pub KeepsFeed : CutRule → List ℕ → ℕ → Type 0
KeepsFeed rule row place = slice_index row place ≡ LINE_FEED → keeps_open rule (take place row) ≡ true

-- no line feed in these bytes of a row ends it
abbrev pub IsOpen : CutRule → List ℕ → Type 0
IsOpen rule row = (place : ℕ) → place < length row → KeepsFeed rule row place

-- a line feed behind these bytes ends a row, and none before it does
pub record IsWhole (rule : CutRule) (row : List ℕ) : Type 0 where
  pub opened : IsOpen rule row
  pub ends : keeps_open rule row ≡ false

-- a row with the line feed that ends it
abbrev pub ended : List ℕ → List ℕ
ended row = row ++ LINE_FEED ∷ []

-- the text is these whole rows, each with its line feed, and then bytes of a row that has not ended
pub record Cuts (rule : CutRule) (text : List ℕ) (rows : List (List ℕ)) (rest : List ℕ) : Type 0 where
  pub joined : text ≡ flat_map ended rows ++ rest
  pub whole : AllByRecursion (IsWhole rule) rows
  pub opened : IsOpen rule rest

-- the text is these whole rows, and less than one more
abbrev pub AreRows : CutRule → List ℕ → List (List ℕ) → Type 0
AreRows rule text rows = (rest : List ℕ) × Cuts rule text rows rest
