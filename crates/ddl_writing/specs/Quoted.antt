-- Names and texts in quotes.
use Rattle.std.specs.Prelude.{◌==◌, ℕ, List, [], ◌∷◌, ◌++◌, Option, Some, None, if◌then◌else◌}
use Rattle.std.specs.List.{flat_map}
use Rattle.dict_value.specs.declared.letters.TheConstants.{BACKSLASH, BACKSPACE, CARRIAGE_RETURN, DIGIT_0, FORM_FEED}
use Rattle.dict_value.specs.declared.letters.TheConstants.{LETTER_B, LETTER_F, LETTER_N, LETTER_R, LETTER_T, LINE_FEED}
use Rattle.dict_value.specs.declared.letters.TheConstants.{NUL, SINGLE_QUOTE, TAB}
use Rattle.ddl_writing.specs.declared.quoted.TheConstants.{BACKQUOTE}

-- the letter that a byte is written with behind a backslash, where it is
unfoldable pub letter_in_quotes : ℕ → ℕ → Option ℕ
letter_in_quotes quote b =
    if b == quote then Some quote
    else if b == BACKSLASH then Some BACKSLASH
    else if b == BACKSPACE then Some LETTER_B
    else if b == FORM_FEED then Some LETTER_F
    else if b == CARRIAGE_RETURN then Some LETTER_R
    else if b == LINE_FEED then Some LETTER_N
    else if b == TAB then Some LETTER_T
    else if b == NUL then Some DIGIT_0
    else None

abbrev pub with_letter : ℕ → Option ℕ → List ℕ
with_letter b None = b ∷ []
with_letter b (Some letter) = BACKSLASH ∷ letter ∷ []

abbrev pub byte_in_quotes : ℕ → ℕ → List ℕ
byte_in_quotes quote b = with_letter b (letter_in_quotes quote b)

-- a text in quotes
abbrev pub quoted_text : ℕ → List ℕ → List ℕ
quoted_text quote text = quote ∷ (flat_map (byte_in_quotes quote) text ++ quote ∷ [])

abbrev pub name_text : List ℕ → List ℕ
name_text name = quoted_text BACKQUOTE name

abbrev pub string_text : List ℕ → List ℕ
string_text text = quoted_text SINGLE_QUOTE text
