-- What stands behind a backslash in a text.
use Rattle.std.specs.Prelude.{ℕ, ◌+◌, ◌-◌, ◌==◌, ◌&&◌, nat_le, if◌then◌else◌, Bool, false, List, [], ◌∷◌}
use Rattle.std.specs.Prelude.{Option, Some, None, is_some}
use Rattle.dict_value.specs.declared.letters.TheConstants.{BACKSPACE, BELL, CARRIAGE_RETURN, FORM_FEED, LINE_FEED, NUL}
use Rattle.dict_value.specs.declared.letters.TheConstants.{TAB, VERTICAL_TAB}
use Rattle.dict_value.specs.declared.letters.TheConstants.{CAPITAL_A, CAPITAL_F, DIGIT_0, DIGIT_9, LETTER_A, LETTER_B}
use Rattle.dict_value.specs.declared.letters.TheConstants.{LETTER_F, LETTER_N, LETTER_R, LETTER_T, LETTER_V}

-- the value of a hexadecimal digit: 0 to 9, A to F, a to f
unfoldable pub hex_digit : ℕ → Option ℕ
hex_digit b =
    if nat_le DIGIT_0 b && nat_le b DIGIT_9 then Some (b - DIGIT_0)
    else if nat_le CAPITAL_A b && nat_le b CAPITAL_F then Some (b - CAPITAL_A + 10)
    else if nat_le LETTER_A b && nat_le b LETTER_F then Some (b - LETTER_A + 10)
    else None

-- whether a text begins with two hexadecimal digits
abbrev pub begins_with_digits : List ℕ → Bool
begins_with_digits [] = false
begins_with_digits (b ∷ []) = false
begins_with_digits (high ∷ low ∷ rest) = is_some (hex_digit high) && is_some (hex_digit low)

-- the byte that a backslash and this byte stand for: \b \f \r \n \t \0 \a \v have their usual bytes
unfoldable pub unescaped : ℕ → ℕ
unescaped b =
    if b == LETTER_B then BACKSPACE
    else if b == LETTER_F then FORM_FEED
    else if b == LETTER_R then CARRIAGE_RETURN
    else if b == LETTER_N then LINE_FEED
    else if b == LETTER_T then TAB
    else if b == DIGIT_0 then NUL
    else if b == LETTER_A then BELL
    else if b == LETTER_V then VERTICAL_TAB
    else b
