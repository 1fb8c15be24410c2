-- One token that is judged by its bytes: the values of settings, and names from a list.
use Rattle.std.specs.Prelude.{ℕ, Bool, true, false, List, [], ◌∷◌, codes, drop, Option, Some, None, Result, Ok, Err}
use Rattle.std.specs.Prelude.{if◌then◌else◌, nat_le}
use Rattle.std.specs.List.{list_all}
use Rattle.std.specs.Option.{option_and_then}
use Rattle.dict_value.specs.declared.value.Format.{Format}
use Rattle.dict_value.specs.declared.value.Format.TheVariants.{Tab, Csv}
use Rattle.dict_value.specs.declared.value.Value.{Value}
use Rattle.dict_value.specs.declared.value.Value.TheVariants.{U}
use Rattle.dict_value.specs.declared.value.BadValue.{BadValue}
use Rattle.dict_value.specs.Numbers.{unsigned_in}
use Rattle.dict_schema.specs.declared.definition.Kind.{Kind}
use Rattle.dict_schema.specs.declared.definition.Kind.TheVariants as kind
use Rattle.dict_schema.specs.declared.definition.Strategy.{Strategy}
use Rattle.dict_schema.specs.declared.definition.Strategy.TheVariants as strategy
use Rattle.ddl_tokens.specs.declared.letters.LetterCase.TheVariants.{Any, AsWritten}
use Rattle.ddl_tokens.specs.declared.token.TokenKind.{TokenKind}
use Rattle.ddl_tokens.specs.declared.token.TokenKind.TheVariants.{Word, QuotedWord, Number, String}
use Rattle.ddl_tokens.specs.declared.fault.SyntaxFault.{SyntaxFault}
use Rattle.ddl_tokens.specs.declared.fault.SyntaxFault.TheVariants.{Unexpected, Unsupported}
use Rattle.ddl_tokens.specs.Letters.{is_word_start, is_word_byte, same_letters}
use Rattle.ddl_tokens.specs.Tokens.{Token}
use Rattle.ddl_tokens.specs.Reading.{◌>>=◌, Read, kind_ahead, place_ahead, bytes_ahead, is_number, unexpected}

-- what the bytes of a token at a place stand for, or the fault of others
abbrev pub Meaning : Type 0 → Type 0
Meaning A = ℕ → List ℕ → Result A SyntaxFault

-- the judge of a token that has to be of some kind, and whose bytes have to mean something
abbrev pub choice : {A : Type 0} → (TokenKind → Bool) → Meaning A → Token → Result A SyntaxFault
choice test meaning t = if test t.kind then meaning t.place t.bytes else Err (Unexpected t.place)

-- such a token, read
unfoldable pub chosen_at : {A : Type 0} → (TokenKind → Bool) → Meaning A → List Token → Read A
chosen_at test meaning ts =
    if test (kind_ahead ts) then meaning (place_ahead ts) (bytes_ahead ts) >>= (λ a. Ok (a, drop 1 ts))
    else unexpected ts

-- a word or a string
abbrev pub is_written : TokenKind → Bool
is_written Word = true
is_written QuotedWord = true
is_written String = true
is_written _ = false

-- a word, a string or a number
abbrev pub is_plain_value : TokenKind → Bool
is_plain_value Number = true
is_plain_value kind = is_written kind

-- ---- what bytes mean

-- what these bytes stand for by this function, or this fault
abbrev pub or_fault : {A : Type 0} → SyntaxFault → Option A → Result A SyntaxFault
or_fault fault None = Err fault
or_fault fault (Some a) = Ok a

abbrev pub meant_by : {A : Type 0} → (ℕ → SyntaxFault) → (List ℕ → Option A) → Meaning A
meant_by fault value place bytes = or_fault (fault place) (value bytes)

-- 0 and false, 1 and true
abbrev pub flag_in : List ℕ → Option Bool
flag_in bytes =
    if same_letters AsWritten bytes (codes "0") then Some false
    else if same_letters AsWritten bytes (codes "false") then Some false
    else if same_letters AsWritten bytes (codes "1") then Some true
    else if same_letters AsWritten bytes (codes "true") then Some true
    else None

-- a boolean that can't be true yet
abbrev pub unless_true : ℕ → Option Bool → Result Bool SyntaxFault
unless_true place None = Err (Unexpected place)
unless_true place (Some true) = Err (Unsupported place)
unless_true place (Some false) = Ok false

abbrev pub no_flag_meant : Meaning Bool
no_flag_meant place bytes = unless_true place (flag_in bytes)

-- the text form of rows
abbrev pub format_in : List ℕ → Option Format
format_in bytes =
    if same_letters AsWritten bytes (codes "TabSeparated") then Some Tab
    else if same_letters AsWritten bytes (codes "TSV") then Some Tab
    else if same_letters AsWritten bytes (codes "CSV") then Some Csv
    else None

-- which of several ranges counts
abbrev pub strategy_in : List ℕ → Option Strategy
strategy_in bytes =
    if same_letters AsWritten bytes (codes "min") then Some strategy.Min
    else if same_letters AsWritten bytes (codes "max") then Some strategy.Max
    else None

-- a whole number up to this one, with optionally a plus sign and zeros before it
abbrev pub whole_in : ℕ → List ℕ → Option ℕ
whole_in most bytes = option_and_then (λ n. if nat_le n most then Some n else None) (unsigned_in bytes)

-- the same, from what a reading gave
abbrev pub whole_from : ℕ → Result Value BadValue → Option ℕ
whole_from most (Ok (U n)) = if nat_le n most then Some n else None
whole_from most _ = None

-- the greatest whole numbers of 64 and of 32 bits
abbrev pub most_whole : ℕ
most_whole = 18446744073709551615

abbrev pub most_short : ℕ
most_short = 4294967295

-- such a number, read
abbrev pub whole_up_to_at : ℕ → List Token → Read ℕ
whole_up_to_at most ts = chosen_at is_number (meant_by Unexpected (whole_in most)) ts

-- a letter or _, then letters, digits and _
abbrev pub has_bare_form : List ℕ → Bool
has_bare_form [] = false
has_bare_form (b ∷ bytes) = if is_word_start b then list_all is_word_byte bytes else false

abbrev pub bare_name_in : List ℕ → Option (List ℕ)
bare_name_in bytes = if has_bare_form bytes then Some bytes else None

-- the kind of a source, in any letter case
abbrev pub source_kind_in : List ℕ → Option Kind
source_kind_in bytes =
    if same_letters Any bytes (codes "EXECUTABLE") then Some kind.Executable
    else if same_letters Any bytes (codes "EXECUTABLE_POOL") then Some kind.Pool
    else None

-- this word and no other, in any letter case
abbrev pub word_in : List ℕ → List ℕ → Option (Unit {0})
word_in word bytes = if same_letters Any bytes word then Some tt else None
