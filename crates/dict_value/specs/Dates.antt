-- Dates and seconds: the ClickHouse documentation's Date and DateTime, in this profile, on the civil calendar
-- and in UTC.
use Rattle.std.specs.Prelude.{ℕ, ◌+◌, ◌*◌, ◌/◌, ◌%◌, ◌^◌, Bool, ◌&&◌, ◌==◌, nat_lt, nat_le, int_le, if◌then◌else◌, List}
use Rattle.std.specs.Prelude.{[], ◌∷◌, ◌++◌, length, take, drop, slice_index, Option, Some, None, Result, Err, ℤ, pos}
use Rattle.std.specs.Prelude.{negsuc, ◌+ℤ◌, ◌-ℤ◌, ◌*ℤ◌, unsigned_abs}
use Rattle.std.specs.Option.{option_map, option_or}
use Rattle.std.specs.List.{count_by, range_with_len}
use Rattle.std.specs.Str.{all_ascii_digits}
use Rattle.std.specs.Str.Parse.{digits_value}
use Rattle.jiff_core.specs.Calendar.{days_from_civil, days_in_month}
use Rattle.dict_value.specs.Letters.{colon, digit_zero, minus, space}
use Rattle.dict_value.specs.declared.dates.TheConstants.{DAY_SECONDS}
use Rattle.dict_value.specs.declared.value.BadValue.{BadValue}
use Rattle.dict_value.specs.declared.value.BadValue.TheVariants.{BadDate, OutOfRange}
use Rattle.dict_value.specs.Numbers.{given, below}

-- a day of the civil calendar
pub record Civil : Type 0 where
  pub year : ℕ
  pub month : ℕ
  pub day : ℕ

abbrev pub civil : ℕ → ℕ → ℕ → Civil
civil y m d = record { year = y; month = m; day = d }

-- the number of a day, from 1970-01-01
abbrev pub day_of : Civil → ℤ
day_of c = days_from_civil (pos c.year) c.month c.day

-- the calendar has such a day
abbrev pub is_civil : Civil → Bool
is_civil c =
    nat_le 1 c.month && nat_le c.month 12 && nat_le 1 c.day
    && nat_le c.day (days_in_month (pos c.year) c.month)

-- four digits, `-`, two digits, `-`, two digits
abbrev pub has_date_form : List ℕ → Bool
has_date_form text =
    (length text == 10) && all_ascii_digits (take 4 text) && (slice_index text 4 == minus)
    && all_ascii_digits (take 2 (drop 5 text)) && (slice_index text 7 == minus)
    && all_ascii_digits (take 2 (drop 8 text))

-- the year, month and day of a text of that form
abbrev pub civil_at : List ℕ → Civil
civil_at text =
    civil (digits_value 10 (take 4 text)) (digits_value 10 (take 2 (drop 5 text)))
    (digits_value 10 (take 2 (drop 8 text)))

-- the day that a text writes
abbrev pub civil_in : List ℕ → Option Civil
civil_in text = if has_date_form text && is_civil (civil_at text) then Some (civil_at text) else None

-- the number of that day
abbrev pub day_in : List ℕ → Option ℤ
day_in text = option_map day_of (civil_in text)

-- a number from 0 on and below the bound
abbrev pub from_zero_below : ℕ → ℤ → Result ℕ BadValue
from_zero_below bound (pos n) = below bound n
from_zero_below bound (negsuc n) = Err OutOfRange

-- the number of the day, from 1970-01-01 to 2149-06-06
abbrev pub date_of : List ℕ → Result ℕ BadValue
date_of text = given (day_in text) BadDate (from_zero_below (2 ^ 16))

-- two digits, `:`, two digits, `:`, two digits
abbrev pub has_clock_form : List ℕ → Bool
has_clock_form text =
    (length text == 8) && all_ascii_digits (take 2 text) && (slice_index text 2 == colon)
    && all_ascii_digits (take 2 (drop 3 text)) && (slice_index text 5 == colon)
    && all_ascii_digits (drop 6 text)

-- the second of the day that a text writes
abbrev pub clock_in : List ℕ → Option ℕ
clock_in text =
    let hour = digits_value 10 (take 2 text) in
    let minute = digits_value 10 (take 2 (drop 3 text)) in
    let second = digits_value 10 (drop 6 text) in
    if has_clock_form text && nat_lt hour 24 && nat_lt minute 60 && nat_lt second 60
    then Some (hour * 3600 + minute * 60 + second) else None

-- the second at a time of the day with this number
abbrev pub second_after : Option ℤ → Option ℕ → Option ℤ
second_after None clock = None
second_after (Some day) None = None
second_after (Some day) (Some n) = Some (day *ℤ pos DAY_SECONDS +ℤ pos n)

-- five to ten digits, which write the second itself
abbrev pub plain_second_in : List ℕ → Option ℤ
plain_second_in text =
    if nat_le 5 (length text) && nat_le (length text) 10 && all_ascii_digits text
    then Some (pos (digits_value 10 text)) else None

-- a date, a space and a time
abbrev pub civil_second_in : List ℕ → Option ℤ
civil_second_in text =
    if slice_index text 10 == space
    then second_after (day_in (take 10 text)) (clock_in (drop 11 text))
    else None

-- the second that a text writes in either form
abbrev pub second_in : List ℕ → Option ℤ
second_in text = option_or (plain_second_in text) (civil_second_in text)

-- the second of 32 bits
abbrev pub second_of : List ℕ → Result ℕ BadValue
second_of text = given (second_in text) BadDate (from_zero_below (2 ^ 32))

-- The day with this number. Its year is 1970 and one more for each year, 1971 to 2170, whose first day is not after
-- it; its month is January and one more for each later month of that year whose first day is not after it.
abbrev pub year_of_day : ℕ → ℕ
year_of_day n =
    1970 + count_by (λ k. int_le (days_from_civil (pos (1971 + k)) 1 1) (pos n)) (range_with_len 0 200)

abbrev pub month_of_day : ℕ → ℕ
month_of_day n =
    1 + count_by (λ k. int_le (days_from_civil (pos (year_of_day n)) (2 + k) 1) (pos n))
    (range_with_len 0 11)

unfoldable pub civil_of_day : ℕ → Civil
civil_of_day n =
    civil (year_of_day n) (month_of_day n)
    (unsigned_abs (pos n -ℤ days_from_civil (pos (year_of_day n)) (month_of_day n) 1) + 1)

-- two digits
abbrev pub two : ℕ → List ℕ
two n = (digit_zero + n / 10) ∷ (digit_zero + n % 10) ∷ []

-- the text of a day: four digits, two and two
abbrev pub date_text : Civil → List ℕ
date_text c = two (c.year / 100) ++ two (c.year % 100) ++ minus ∷ two c.month ++ minus ∷ two c.day

-- the text of a second of the day
abbrev pub clock_text : ℕ → List ℕ
clock_text n = two (n / 3600) ++ colon ∷ two (n / 60 % 60) ++ colon ∷ two (n % 60)

-- the text of the day with this number
abbrev pub day_text : ℕ → List ℕ
day_text n = date_text (civil_of_day n)

-- the text of a second
abbrev pub second_text : ℕ → List ℕ
second_text n = day_text (n / DAY_SECONDS) ++ space ∷ clock_text (n % DAY_SECONDS)
