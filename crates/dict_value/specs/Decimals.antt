-- Decimals: the ClickHouse documentation's Decimal(P, S), in this profile, as the scaled whole number.
use Rattle.std.specs.Prelude.{ℕ, zero, suc, ◌+◌, ◌/◌, ◌%◌, ◌^◌, not, ◌&&◌, ◌||◌, ◌==◌, nat_lt, if◌then◌else◌, min, List}
use Rattle.std.specs.Prelude.{[], ◌∷◌, ◌++◌, length, take, drop, replicate, Option, Some, None, Result, Ok, Err, ℤ, pos}
use Rattle.std.specs.Prelude.{negsuc, unsigned_abs, decimal}
use Rattle.std.specs.List.{prefix_len}
use Rattle.std.specs.Str.Parse.{digits_value}
use Rattle.dict_value.specs.Letters.{digit_zero, minus, point}
use Rattle.dict_value.specs.declared.decimals.TheConstants.{DECIMAL_DIGITS}
use Rattle.dict_value.specs.declared.value.BadValue.{BadValue}
use Rattle.dict_value.specs.declared.value.BadValue.TheVariants.{BadDecimal, OutOfRange}
use Rattle.dict_value.specs.Numbers.{is_numeral, signed_in, given}

-- the bytes before the first such byte
abbrev pub before_byte : ℕ → List ℕ → List ℕ
before_byte byte text = take (prefix_len (λ c. not (c == byte)) text) text

-- that byte and what follows it, or nothing where it isn't there
abbrev pub from_byte : ℕ → List ℕ → List ℕ
from_byte byte text = drop (prefix_len (λ c. not (c == byte)) text) text

-- so many digits behind the point: zeros follow where there are fewer, and the others are cut off
abbrev pub places : ℕ → List ℕ → List ℕ
places scale fraction = take scale (fraction ++ replicate scale digit_zero)

-- The scaled number that digits write, with optionally a point and digits behind it.
abbrev pub scaled_in : ℕ → List ℕ → Option ℕ
scaled_in scale text =
    let whole = before_byte point text in
    let rest = from_byte point text in
    if is_numeral whole && ((length rest == 0) || is_numeral (drop 1 rest))
    then Some (digits_value 10 (whole ++ places scale (drop 1 rest))) else None

-- the scaled number of a Decimal with so many digits, of which it has at most 38, and so many of them behind
-- the point
abbrev pub decimal_of : ℕ → ℕ → List ℕ → Result ℤ BadValue
decimal_of digits scale text =
    given (signed_in (scaled_in scale) text) BadDecimal
    (λ z. if nat_lt (unsigned_abs z) (10 ^ min digits DECIMAL_DIGITS) then Ok z else Err OutOfRange)

-- the last digits of a number, so many of them
unfoldable pub last_digits : ℕ → ℕ → List ℕ
last_digits zero n = []
last_digits (suc count) n = last_digits count (n / 10) ++ (digit_zero + n % 10) ∷ []

-- digits without the zeros at their end
unfoldable pub without_end_zeros : List ℕ → List ℕ
without_end_zeros [] = []
without_end_zeros (d ∷ ds) =
    let rest = without_end_zeros ds in
    if (d == digit_zero) && (length rest == 0) then [] else d ∷ rest

-- the point and the digits behind it, where any is left
abbrev pub fraction_text : List ℕ → List ℕ
fraction_text [] = []
fraction_text (d ∷ ds) = point ∷ d ∷ ds

-- the sign of a number below 0
abbrev pub sign_text : ℤ → List ℕ
sign_text (pos n) = []
sign_text (negsuc n) = minus ∷ []

-- the text of a scaled number
abbrev pub decimal_text : ℕ → ℤ → List ℕ
decimal_text scale z =
    let n = unsigned_abs z in
    sign_text z ++ decimal (n / 10 ^ scale) ++ fraction_text (without_end_zeros (last_digits scale n))
