-- Digits as tests and as facts.
use Rattle.std.proofs.Common.{◌≡◌, ℕ, ◌+◌, ◌<◌, ◌≤◌, Bool, true, false, ◌&&◌, List, [], ◌∷◌, length, get_or, drop, zero, suc, lit<, refl, arith, min, ◌^◌}
use Rattle.std.proofs.Math.Nat.{pow-le-pow_right}
use Rattle.std.proofs.lemmas.Bool.Decides.{nat_tests}
use Rattle.std.proofs.lemmas.List.{at_drop_more}
use Rattle.std.proofs.lemmas.Str.Parse.{digits_value_short, numerals_by_value, tells_all_ascii_digits}
use Rattle.std.specs.Char.{digit_value, is_ascii_digit}
use Rattle.std.specs.Str.{all_ascii_digits}
use Rattle.std.specs.Str.Parse.{digits_value}

-- the two parts of a test that holds
pub both : (a b : Bool) → (a && b) ≡ true → (a ≡ true) × (b ≡ true)
both true b h = (refl, h)
both false b h = absurd (cc)

-- a byte from 48 to 57 is the digit that many past 48
pub digit_value_of : (c : ℕ) → is_ascii_digit c ≡ true → (48 ≤ c) × (c ≤ 57) × (digit_value c + 48 ≡ c)
digit_value_of c h = grind (arith, nat_tests)

-- the first of what is left of digits is one, and the rest are
pub first_of_rest : (ds : List ℕ) (i d : ℕ) → i < length ds → all_ascii_digits (drop i ds) ≡ true
    → (is_ascii_digit (get_or ds i d) ≡ true) × (all_ascii_digits (drop (i + 1) ds) ≡ true)
first_of_rest ds i d within h = both _ _ (rw (at_drop_more all_ascii_digits ds i d within) at h)

-- a digit of digits, or 0 past their end
pub digit_or_zero : (ds : List ℕ) (i : ℕ) → all_ascii_digits ds ≡ true → digit_value (get_or ds i 48) < 10
digit_or_zero [] i h = lit< tt
digit_or_zero (d ∷ ds) zero h = let v = digit_value_of d (both _ _ h).0 in omega arith
digit_or_zero (d ∷ ds) (suc i) h = digit_or_zero ds i (both _ _ h).1

-- so many digits write a number below that power of ten
pub short_value : (ds : List ℕ) (k : ℕ) → all_ascii_digits ds ≡ true → length ds ≤ k → digits_value 10 ds < 10 ^ k
short_value ds k h fits = digits_value_short (numerals_by_value _ tells_all_ascii_digits) ds k h fits

pub few_digits : (digits : ℕ) → 10 ^ min digits 38 ≤ 10 ^ 38
few_digits digits =
    let few : min digits 38 ≤ 38 = omega arith in
    pow-le-pow_right {n = 10} (omega arith) few
