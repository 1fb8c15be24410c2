-- What is written of a number is read as that number.
use Rattle.std.proofs.Common.{◌≡◌, ℕ, suc, ◌^◌, ◌<◌, true, false, List, [], ◌∷◌, ◌++◌, length, Some, ℤ, pos, negsuc, decimal, refl, ap, sym, ◌∙◌, arith, append-nil, lt-ltb, ne_eqb, unsigned_abs}
use Rattle.std.proofs.lemmas.Fmt.{decimal_is_IsNumeral_wide}
use Rattle.std.proofs.lemmas.Str.Parse.{numerals_by_value, tells_all_ascii_digits}
use Rattle.std.specs.Fmt.{signed_decimal}
use Rattle.std.specs.Str.{all_ascii_digits}
use Rattle.std.specs.Str.Parse.{digits_value, without_leading_plus, without_leading_sign, starts_with_minus}
use Rattle.dict_value.specs.Numbers.{is_numeral, number_in, unsigned_in, signed_in}
use Rattle.dict_value.proofs.Digits.{both, digit_value_of}

-- the digits of a number
pub decimal_digits : (n : ℕ) → n < 10 ^ 64 → (all_ascii_digits (decimal n) ≡ true) × (0 < length (decimal n)) × (digits_value 10 (decimal n) ≡ n)
decimal_digits n small =
    let own = numerals_by_value _ tells_all_ascii_digits in
    let written = decimal_is_IsNumeral_wide n small in
    (own.from (decimal n) written.0.1, written.0.0, written.1)

pub digits_are_numeral : (ds : List ℕ) → all_ascii_digits ds ≡ true → 0 < length ds → is_numeral ds ≡ true
digits_are_numeral ds h some = rw (lt-ltb 0 (length ds) some, h) refl

pub number_of_decimal : (n : ℕ) → n < 10 ^ 64 → number_in (decimal n) ≡ Some n
number_of_decimal n small =
    let d = decimal_digits n small in
    rw (digits_are_numeral (decimal n) d.0 d.1) (ap Some d.2)

-- a text that begins with a digit has no sign
pub no_plus : (ds rest : List ℕ) → all_ascii_digits ds ≡ true → 0 < length ds → without_leading_plus (ds ++ rest) ≡ ds ++ rest
no_plus [] rest h some = absurd (omega arith)
no_plus (d ∷ ds) rest h some =
    let v = digit_value_of d (both _ _ h).0 in rw (ne_eqb d 43 (λ e. omega (arith, v, e))) refl

pub no_minus : (ds rest : List ℕ) → all_ascii_digits ds ≡ true → 0 < length ds → starts_with_minus (ds ++ rest) ≡ false
no_minus [] rest h some = absurd (omega arith)
no_minus (d ∷ ds) rest h some =
    let v = digit_value_of d (both _ _ h).0 in ne_eqb d 45 (λ e. omega (arith, v, e))

pub no_sign : (ds rest : List ℕ) → all_ascii_digits ds ≡ true → 0 < length ds → without_leading_sign (ds ++ rest) ≡ ds ++ rest
no_sign ds rest h some = rw (no_minus ds rest h some) (no_plus ds rest h some)

-- whole numbers
pub unsigned_again : (n : ℕ) → n < 10 ^ 64 → unsigned_in (decimal n) ≡ Some n
unsigned_again n small =
    let d = decimal_digits n small in
    ap number_in (ap without_leading_plus (sym (append-nil (decimal n))) ∙ no_plus (decimal n) [] d.0 d.1 ∙ append-nil (decimal n))
    ∙ number_of_decimal n small

pub signed_again : (z : ℤ) → unsigned_abs z < 10 ^ 64 → signed_in number_in (signed_decimal z) ≡ Some z
signed_again (pos n) small =
    let d = decimal_digits n small in
    let minus = ap starts_with_minus (sym (append-nil (decimal n))) ∙ no_minus (decimal n) [] d.0 d.1 in
    let rest = ap without_leading_sign (sym (append-nil (decimal n))) ∙ no_sign (decimal n) [] d.0 d.1 ∙ append-nil (decimal n) in
    rw (rest, number_of_decimal n small, minus) refl
signed_again (negsuc n) small = rw (number_of_decimal (suc n) small) refl
