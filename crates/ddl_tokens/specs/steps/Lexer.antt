-- The tokens of a text as a function, which the code computes step by step.
use Rattle.std.specs.Prelude.{◌≡◌, ◌<◌, ◌≤◌, ℕ, zero, suc, ◌+◌, ◌-◌, ◌*◌, Bool, true, false, ◌&&◌, not, ◌==◌, List, []}
use Rattle.std.specs.Prelude.{◌∷◌, length, take, drop, Result, Ok, Err, Option, Some, None, if◌then◌else◌, unwrap_or}
use Rattle.std.specs.List.{prefix_len}
use Rattle.std.specs.Borrow.{Bor}
use Rattle.ddl_tokens.specs.declared.token.TokenKind.{TokenKind}
use Rattle.ddl_tokens.specs.declared.token.TokenKind.TheVariants.{Word, QuotedWord, Number, String, Sign, Broken, End}
use Rattle.ddl_tokens.specs.declared.token.Lexed.{Lexed}
use Rattle.ddl_tokens.specs.declared.quoted.Scan.{Scan}
use Rattle.ddl_tokens.specs.declared.quoted.Scan.TheVariants as scan
use Rattle.ddl_tokens.specs.declared.quoted.Step.{Step}
use Rattle.ddl_tokens.specs.declared.quoted.Step.TheVariants as step
use Rattle.ddl_tokens.specs.Letters.{is_space, is_digit, is_word_start, is_word_byte, is_sign, is_number_sign}
use Rattle.ddl_tokens.specs.Letters.{quoted_kind, begins_with}
use Rattle.dict_value.specs.Escapes.{hex_digit, begins_with_digits, unescaped}
use Rattle.ddl_tokens.specs.Tokens.{Token}

-- ---- between tokens

-- between tokens; in a comment to its line's end; behind the / of an opening; in a comment in signs; behind its last *
pub data Gap : Type 0 where
  between : Gap
  line : Gap
  opening : Gap
  block : Gap
  closing : Gap

-- what stands behind blanks and comments, or how many bytes there are from the comment on that has no end
unfoldable pub after_gap : Gap → ℕ → List ℕ → Result (List ℕ) ℕ
after_gap between from [] = Ok []
after_gap between from (b ∷ bs) =
    if is_space b then after_gap between from bs
    else (if b == 45 && begins_with (λ c. c == 45) bs then after_gap line from bs
    else (if b == 47 && begins_with (λ c. c == 42) bs then after_gap opening (length (b ∷ bs)) bs
    else Ok (b ∷ bs)))
after_gap line from [] = Ok []
after_gap line from (b ∷ bs) = if b == 10 then after_gap between from bs else after_gap line from bs
after_gap opening from [] = Err from
after_gap opening from (b ∷ bs) = after_gap block from bs
after_gap block from [] = Err from
after_gap block from (b ∷ bs) =
    if b == 42 && begins_with (λ c. c == 47) bs then after_gap closing from bs else after_gap block from bs
after_gap closing from [] = Err from
after_gap closing from (b ∷ bs) = after_gap between 0 bs

-- ---- between quote signs

-- in the text; behind a quote sign; behind a backslash; behind `\x`; behind the digit of this value
pub data Inside : Type 0 where
  plain : Inside
  ended : Inside
  escaped : Inside
  high : Inside
  low : ℕ → Inside

abbrev pub hex_value : ℕ → ℕ
hex_value b = unwrap_or (hex_digit b) 0

-- the bytes that the text up to its closing sign stands for, where `\x` without digits stands for `x`
unfoldable pub bytes_in : ℕ → Inside → List ℕ → List ℕ
bytes_in q plain [] = []
bytes_in q plain (b ∷ bs) =
    if b == q then bytes_in q ended bs
    else (if b == 92 then bytes_in q escaped bs else b ∷ bytes_in q plain bs)
bytes_in q ended [] = []
bytes_in q ended (c ∷ cs) = if c == q then q ∷ bytes_in q plain cs else []
bytes_in q escaped [] = []
bytes_in q escaped (c ∷ cs) =
    if c == 120 && begins_with_digits cs then bytes_in q high cs else unescaped c ∷ bytes_in q plain cs
bytes_in q high [] = []
bytes_in q high (c ∷ cs) = bytes_in q (low (hex_value c)) cs
bytes_in q (low a) [] = []
bytes_in q (low a) (c ∷ cs) = (16 * a + hex_value c) ∷ bytes_in q plain cs

-- whether there is a closing sign
unfoldable pub closes : ℕ → Inside → List ℕ → Bool
closes q plain [] = false
closes q plain (b ∷ bs) =
    if b == q then closes q ended bs else (if b == 92 then closes q escaped bs else closes q plain bs)
closes q ended [] = true
closes q ended (c ∷ cs) = if c == q then closes q plain cs else true
closes q escaped [] = false
closes q escaped (c ∷ cs) = closes q plain cs
closes q high bs = false
closes q (low a) bs = false

-- what stands behind the closing sign; how many bytes there are from the first bad escape on; no closing sign
pub data Ending : Type 0 where
  closed : List ℕ → Ending
  bad : ℕ → Ending
  open_ended : Ending

-- a bad escape is told where there is a closing sign
abbrev pub spoiled : ℕ → Bool → Ending
spoiled n found = if found then bad n else open_ended

unfoldable pub ending : ℕ → Inside → List ℕ → Ending
ending q plain [] = open_ended
ending q plain (b ∷ bs) =
    if b == q then ending q ended bs else (if b == 92 then ending q escaped bs else ending q plain bs)
ending q ended [] = closed []
ending q ended (c ∷ cs) = if c == q then ending q plain cs else closed (c ∷ cs)
ending q escaped [] = open_ended
ending q escaped (c ∷ cs) =
    if c == 120 && not (begins_with_digits cs) then spoiled (length (92 ∷ c ∷ cs)) (closes q plain cs)
    else ending q plain cs
ending q high bs = open_ended
ending q (low a) bs = open_ended

-- ---- numbers

-- a point and digits behind it
abbrev pub fraction_len : List ℕ → ℕ
fraction_len [] = 0
fraction_len (b ∷ bs) = if b == 46 then (if prefix_len is_digit bs == 0 then 0 else suc (prefix_len is_digit bs)) else 0

abbrev pub digits_len : List ℕ → ℕ
digits_len bytes = prefix_len is_digit bytes + fraction_len (drop (prefix_len is_digit bytes) bytes)

-- how long the number is that begins the text, 0 where none does
abbrev pub number_len : List ℕ → ℕ
number_len [] = 0
number_len (b ∷ bs) =
    if is_number_sign b then (if prefix_len is_digit bs == 0 then 0 else suc (digits_len bs))
    else (if is_digit b then digits_len (b ∷ bs) else 0)

-- ---- one token, and what stands behind it; the whole text has this size

abbrev pub token : ℕ → TokenKind → List ℕ → Token
token place kind bytes = record { place = place; kind = kind; bytes = bytes }

abbrev pub one : ℕ → List ℕ → TokenKind → List ℕ → List ℕ → Token × List ℕ
one size all kind bytes rest = (token (size - length all) kind bytes, rest)

abbrev pub front : ℕ → List ℕ → TokenKind → ℕ → Token × List ℕ
front size all kind n = one size all kind (take n all) (drop n all)

abbrev pub in_quotes : ℕ → List ℕ → TokenKind → List ℕ → Ending → Token × List ℕ
in_quotes size all kind bytes (closed rest) = one size all kind bytes rest
in_quotes size all kind bytes (bad n) = (token (size - n) Broken [], [])
in_quotes size all kind bytes open_ended = one size all Broken [] []

abbrev pub unquoted : ℕ → List ℕ → ℕ → List ℕ → Token × List ℕ
unquoted size all b rest =
    if number_len all == 0 then (if is_sign b then one size all Sign (b ∷ []) rest else one size all Broken [] [])
    else front size all Number (number_len all)

abbrev pub quoted_or_not : ℕ → List ℕ → ℕ → List ℕ → Option TokenKind → Token × List ℕ
quoted_or_not size all b rest (Some kind) = in_quotes size all kind (bytes_in b plain rest) (ending b plain rest)
quoted_or_not size all b rest None = unquoted size all b rest

unfoldable pub token_at : ℕ → List ℕ → Token × List ℕ
token_at size [] = one size [] End [] []
token_at size (b ∷ bs) =
    if is_word_start b then front size (b ∷ bs) Word (prefix_len is_word_byte (b ∷ bs))
    else quoted_or_not size (b ∷ bs) b bs (quoted_kind b)

abbrev pub behind_gap : ℕ → Result (List ℕ) ℕ → Token × List ℕ
behind_gap size (Ok rest) = token_at size rest
behind_gap size (Err n) = (token (size - n) Broken [], [])

unfoldable pub next_token : ℕ → List ℕ → Token × List ℕ
next_token size bytes = behind_gap size (after_gap between 0 bytes)

-- ---- the tokens of what is left of a text

abbrev pub is_last : TokenKind → Bool
is_last Broken = true
is_last End = true
is_last _ = false

unfoldable pub tokens_by : ℕ → ℕ → List ℕ → List Token
tokens_by zero size bytes = []
tokens_by (suc n) size bytes =
    let x = next_token size bytes in x.0 ∷ (if is_last x.0.kind then [] else tokens_by n size x.1)

unfoldable pub tokens : ℕ → List ℕ → List Token
tokens size bytes = tokens_by (suc (length bytes)) size bytes

-- a token, and those that come later
abbrev pub ahead : Token → ℕ → List ℕ → List Token
ahead t size rest = t ∷ (if is_last t.kind then [] else tokens size rest)

-- ---- what the code has in hand

-- the bytes that a token stands for, given its own or, in quotes, those behind its first sign
abbrev pub meant : TokenKind → ℕ → List ℕ → List ℕ
meant QuotedWord q text = bytes_in q plain text
meant String q text = bytes_in q plain text
meant _ q text = text

abbrev pub token_of : Lexed → Token
token_of t = token t.place t.kind (meant t.kind t.quote t.text.now)

abbrev pub Found : Token × List ℕ → Lexed → List ℕ → Type 0
Found x t rest = x ≡ (token_of t, rest)

-- the first of these bytes, which is followed by those of the rest; or there is none
abbrev pub StepIs : ℕ → List ℕ → Step → Type 0
StepIs q bytes (step.Byte b rest) = bytes ≡ b ∷ bytes_in q plain rest.now
StepIs q bytes step.Over = bytes ≡ []

abbrev pub EndingIs : Ending → Scan → Type 0
EndingIs e (scan.Closed rest) = e ≡ closed rest.now
EndingIs e (scan.Bad n) = e ≡ bad n
EndingIs e scan.Open = e ≡ open_ended

abbrev pub StepWithin : ℕ → Step → Type 0
StepWithin n (step.Byte b rest) = length rest.now < n
StepWithin n step.Over = Unit {0}

abbrev pub ScanWithin : ℕ → Scan → Type 0
ScanWithin n (scan.Closed rest) = length rest.now ≤ n
ScanWithin n (scan.Bad m) = m ≤ n
ScanWithin n scan.Open = Unit {0}

-- the byte of two digits, and what stands behind them
abbrev pub HexByteIs : List ℕ → Option (ℕ × Bor (List ℕ)) → Type 0
HexByteIs text None = begins_with_digits text ≡ false
HexByteIs text (Some x) = (begins_with_digits text ≡ true)
    × ((q : ℕ) → bytes_in q high text ≡ x.0 ∷ bytes_in q plain x.1.now)

abbrev pub IsInQuotes : TokenKind → Type 0
IsInQuotes QuotedWord = Unit {0}
IsInQuotes String = Unit {0}
IsInQuotes _ = ⊥

abbrev pub IsBare : TokenKind → Type 0
IsBare QuotedWord = ⊥
IsBare String = ⊥
IsBare _ = Unit {0}
