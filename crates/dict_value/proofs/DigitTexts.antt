-- The front of a text of digits, one digit longer.
use Rattle.std.proofs.Common.{◌≡◌, ◌<◌, ◌≤◌, ◌^◌, ℕ, zero, suc, ◌+◌, ◌*◌, ◌-◌, List, [], ◌∷◌, length, take, get_or, arith}
use Rattle.std.proofs.lemmas.List.{take_more}
use Rattle.std.proofs.lemmas.Int.Digits.{digits_value_push, digits_push}
use Rattle.std.proofs.lemmas.Str.Parse.{digits_value-take-le}
use Rattle.std.proofs.lemmas.Str.{digit_value_digit}
use Rattle.std.specs.Char.{digit_value}
use Rattle.std.specs.Str.Parse.{AllDigits, digits_value}
use Rattle.dict_value.specs.Digits.{IsDigits}

pub number-next : (text : List ℕ) (i : ℕ) → i < length text → digits_value 10 (take (i + 1) text) ≡ digits_value 10 (take i text) * 10 + digit_value (get_or text i 0)
number-next text i within = rw (take_more text i 0 within) (digits_value_push 10 (take i text) (get_or text i 0))

pub digits-next : (text : List ℕ) (i : ℕ) → i < length text → AllDigits 10 (take i text) → digit_value (get_or text i 0) < 10 → AllDigits 10 (take (i + 1) text)
digits-next text i within front here = rw (take_more text i 0 within) (digits_push 10 (take i text) (get_or text i 0) front here)

-- each byte of a text of digits is one
pub digit-at : (text : List ℕ) (i : ℕ) → i < length text → AllDigits 10 text → digit_value (get_or text i 0) < 10
digit-at [] i within each = absurd (omega arith)
digit-at (c ∷ cs) zero within each = each.0
digit-at (c ∷ cs) (suc i) within each = digit-at cs i (omega arith) each.1

-- a number that has no 64 bits so far has none in the end
pub too-great : (text : List ℕ) (i : ℕ) → i < length text → 2 ^ 64 ≤ digits_value 10 (take i text) * 10 + digit_value (get_or text i 0) → IsDigits text → ⊥
too-great text i within great d = omega (arith, number-next text i within, digits_value-take-le 10 text (i + 1) (omega arith), d.fits)

-- the value of a decimal digit
pub value-of : (c : ℕ) → 48 ≤ c → c ≤ 57 → digit_value c ≡ c - 48
value-of c low high = omega (arith, digit_value_digit c (low, high))
