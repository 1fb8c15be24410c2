-- What is written of a day or a second is read as that day or second.
use Rattle.std.proofs.Common.{◌≡◌, ℕ, ◌+◌, ◌*◌, ◌/◌, ◌%◌, ◌^◌, ◌<◌, true, cond, ◌&&◌, None, option_map, ◌++◌, Option, Some, Result, Ok, ℤ, pos, refl, ap, ◌∙◌, arith, lt-ltb}
use Rattle.std.proofs.lemmas.Int.{ints}
use Rattle.std.specs.Str.{all_ascii_digits}
use Rattle.std.specs.Str.Parse.{digits_value}
use Rattle.jiff_core.proofs.CalendarLemmas.{days_in_month_bounds}
use Rattle.dict_value.specs.declared.value.BadValue.{BadValue}
use Rattle.dict_value.specs.declared.value.BadValue.TheVariants.{BadDate}
use Rattle.dict_value.specs.Numbers.{given, below}
use Rattle.dict_value.specs.Dates.{second_after, from_zero_below, civil, is_civil, civil_in, civil_at, has_date_form, day_in, day_of, date_of, two, date_text, clock_text, clock_in, day_text, second_text, second_of}
use Rattle.dict_value.proofs.CivilDays.{dated, civil_is, civil_true}
use Rattle.dict_value.proofs.WrittenDecimals.{digit_passes}

-- two digits pass, and write their number
two_pass : (n : ℕ) → n < 100 → all_ascii_digits (two n) ≡ true
two_pass n small = rw ((digit_passes (n / 10) (omega arith)).0, (digit_passes (n % 10) (omega arith)).0) refl

two_value : (n : ℕ) → n < 100 → digits_value 10 (two n) ≡ n
two_value n small = rw ((digit_passes (n / 10) (omega arith)).1, (digit_passes (n % 10) (omega arith)).1) (omega arith)

four_pass : (n : ℕ) → n < 10000 → all_ascii_digits (two (n / 100) ++ two (n % 100)) ≡ true
four_pass n small =
    rw ((digit_passes (n / 100 / 10) (omega arith)).0, (digit_passes (n / 100 % 10) (omega arith)).0, (digit_passes (n % 100 / 10) (omega arith)).0, (digit_passes (n % 100 % 10) (omega arith)).0) refl

four_value : (n : ℕ) → n < 10000 → digits_value 10 (two (n / 100) ++ two (n % 100)) ≡ n
four_value n small =
    rw ((digit_passes (n / 100 / 10) (omega arith)).1, (digit_passes (n / 100 % 10) (omega arith)).1, (digit_passes (n % 100 / 10) (omega arith)).1, (digit_passes (n % 100 % 10) (omega arith)).1) (omega arith)

module _ (y m d : ℕ) (year : y < 10000) (month : m < 100) (day : d < 100) where
  form_again : has_date_form (date_text (civil y m d)) ≡ true
  form_again = rw (four_pass y year, two_pass m month, two_pass d day) refl

  civil_again : civil_at (date_text (civil y m d)) ≡ civil y m d
  civil_again = λ i. civil (four_value y year i) (two_value m month i) (two_value d day i)

  civil_read : is_civil (civil y m d) ≡ true → civil_in (date_text (civil y m d)) ≡ Some (civil y m d)
  civil_read real =
      let text = date_text (civil y m d) in
      ap (λ b. cond (b && is_civil (civil_at text)) (Some (civil_at text)) None) form_again
      ∙ ap (λ c. cond (is_civil c) (Some c) None) civil_again
      ∙ ap (λ b. cond b (Some (civil y m d)) None) real

-- the day of a number
pub day_again : (n : ℕ) → n < 2 ^ 16 → day_in (day_text n) ≡ Some (pos n)
day_again n small =
    let c = dated n small in
    let month : c.month < 100 = omega (arith, c.date.1.1) in
    let day : c.day < 100 = omega (arith, c.date.2.1, days_in_month_bounds (pos c.year) c.month) in
    let text : day_text n ≡ date_text (civil c.year c.month c.day) = ap date_text (civil_is c.year c.month c.day n c.date c.number c.small) in
    let real = civil_true c.year c.month c.day (c.date.0, (omega (arith, ints, c.date.1), omega (arith, ints, c.date.1)), (omega (arith, ints, c.date.2), omega (arith, ints, c.date.2))) in
    ap day_in text ∙ ap (λ o. option_map day_of o) (civil_read c.year c.month c.day (omega (arith, c.small)) month day real) ∙ ap Some c.number

pub date_again : (n : ℕ) → n < 2 ^ 16 → date_of (day_text n) ≡ Ok n
date_again n small = rw (day_again n small, lt-ltb n (2 ^ 16) small) refl

-- the second of a day
clock_again : (n : ℕ) → n < 86400 → clock_in (clock_text n) ≡ Some n
clock_again n small =
    let hour : n / 3600 < 24 = omega arith in
    let minute : n / 60 % 60 < 60 = omega arith in
    let second : n % 60 < 60 = omega arith in
    rw (two_pass (n / 3600) (omega arith), two_pass (n / 60 % 60) (omega arith), two_pass (n % 60) (omega arith), two_value (n / 3600) (omega arith), two_value (n / 60 % 60) (omega arith), two_value (n % 60) (omega arith), lt-ltb (n / 3600) 24 hour, lt-ltb (n / 60 % 60) 60 minute, lt-ltb (n % 60) 60 second)
    (ap Some (omega arith))

pub second_again : (n : ℕ) → n < 2 ^ 32 → second_of (second_text n) ≡ Ok n
second_again n small =
    let read : Option ℤ → Option ℕ → Result ℕ BadValue = λ day clock. given (second_after day clock) BadDate (from_zero_below (2 ^ 32)) in
    ap (λ o. read o (clock_in (clock_text (n % 86400)))) (day_again (n / 86400) (omega arith))
    ∙ ap (read (Some (pos (n / 86400)))) (clock_again (n % 86400) (omega arith))
    ∙ ap (below (2 ^ 32)) (let whole : n / 86400 * 86400 + n % 86400 ≡ n = omega arith in whole)
    ∙ rw (lt-ltb n (2 ^ 32) small) refl
