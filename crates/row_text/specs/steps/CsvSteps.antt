-- What the steps of reading a CSV row find.
use Rattle.std.specs.Prelude.{◌≢◌, ℕ, List, Option, Some, None}
use Rattle.std.specs.List.{AllByRecursion}
use Rattle.csv.specs.declared.error.ErrorKind.{ErrorKind}
use Rattle.csv.specs.declared.error.ErrorKind.TheVariants as kind
use Rattle.row_text.specs.CsvRow.{IsRecord}
use Rattle.dict_value.specs.declared.letters.TheConstants.{CARRIAGE_RETURN, COMMA, DOUBLE_QUOTE, LINE_FEED}

-- a byte that is its own in a field without quotes
abbrev pub IsPlainByte : ℕ → Type 0
IsPlainByte b = (b ≢ COMMA) × (b ≢ DOUBLE_QUOTE) × (b ≢ CARRIAGE_RETURN) × (b ≢ LINE_FEED)

abbrev pub IsPlainText : List ℕ → Type 0
IsPlainText text = AllByRecursion IsPlainByte text

-- the only record of a line, if it has just one
abbrev pub RecordOf : List ℕ → Option (List (List ℕ)) → Type 0
RecordOf line None = (texts : List (List ℕ)) → ¬ IsRecord line texts
RecordOf line (Some texts) = IsRecord line texts

-- The kinds of error that a read of bytes in memory may have: memory ran out, or the reader underneath failed. The
-- latter never comes, since std's reader of a slice answers each read well; but the contracts of `csv` speak of any
-- reader, and can't say so.
abbrev pub IsWantOfMemory : ErrorKind → Type 0
IsWantOfMemory kind.OutOfMemory = Unit {0}
IsWantOfMemory (kind.Io fault) = Unit {0}
IsWantOfMemory (kind.UnequalLengths place expected count) = ⊥
IsWantOfMemory (kind.Utf8 place fault) = ⊥
IsWantOfMemory (kind.Serialize text) = ⊥
IsWantOfMemory (kind.Deserialize place fault) = ⊥
