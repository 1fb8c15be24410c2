-- The day of the calendar that a number has.
use Rattle.std.proofs.Common.{◌≡◌, ℕ, zero, suc, ◌+◌, ◌-◌, ◌*◌, ◌<◌, ◌≤◌, ◌^◌, Bool, true, false, cond, [], ◌∷◌, sym, ap, ◌∙◌, arith, inl, inr, ℤ, pos, negsuc, ◌-ℤ◌, ◌<ℤ◌, ◌≤ℤ◌, unsigned_abs, int_le}
use Rattle.std.specs.List.{count_by, range_with_len}
use Rattle.std.proofs.lemmas.Bool.{cases_lt}
use Rattle.std.proofs.lemmas.List.Sums.{sum_by-append}
use Rattle.std.proofs.lemmas.Bool.Decides.{nat_tests}
use Rattle.std.proofs.lemmas.Int.{ints}
use Rattle.jiff_core.specs.Calendar.{days_from_civil, day_count, IsCivilDate, IsDate}
use Rattle.jiff_core.proofs.SignedLemmas.{signed_arith}
use Rattle.jiff_core.proofs.CalendarLemmas.{day_count-epoch, days_from_civil-day_count, days_in_month_bounds, days_in_year_bounds, day_count-day_of_year, day_count-next_year, day_count-lt_year, day_count-lt_month, day_count-day, day_count-next_month, day_count-last_of_year}
use Rattle.dict_value.specs.Dates.{Civil, civil, is_civil, year_of_day, month_of_day, civil_of_day}

-- so many of a row of numbers pass, where those below a place do and the others don't
count_is : (p : ℕ → Bool) (n a c : ℕ) → a ≤ c → c ≤ a + n → ((k : ℕ) → a ≤ k → k < c → p k ≡ true) → ((k : ℕ) → c ≤ k → k < a + n → p k ≡ false)
    → count_by p (range_with_len a n) + a ≡ c
count_is p zero a c low high pass fail = omega arith
count_is p (suc n) a c low high pass fail =
    let others = count_by p (range_with_len (a + 1) n) in
    let step : count_by p (range_with_len a (suc n)) ≡ cond (p a) 1 0 + others =
    sum_by-append (λ x. cond (p x) 1 0) (a ∷ []) (range_with_len (a + 1) n) ∙ omega arith in
    elim (cases_lt a c) [
      | inl less ↦
          let rest = count_is p n (a + 1) c (omega arith) (omega arith) (λ k l h. pass k (omega arith) h) (λ k l h. fail k l (omega arith)) in
          let here = ap (λ b. cond b 1 0 + others) (pass a (omega arith) less) in
          omega (arith, rest, step, here)
      | inr most ↦
          let rest = count_is p n (a + 1) (a + 1) (omega arith) (omega arith) (λ k l h. absurd (omega arith)) (λ k l h. fail k (omega arith) (omega arith)) in
          let here = ap (λ b. cond b 1 0 + others) (fail a most (omega arith)) in
          omega (arith, rest, step, here)
    ]

-- a day number as a count of days
counted : (y : ℤ) (m d n : ℕ) → days_from_civil y m d ≡ pos n → day_count y m d ≡ n + 4371953
counted y m d n e = omega (arith, signed_arith, days_from_civil-day_count y m d, e)

numbered : (y : ℤ) (m d n : ℕ) → day_count y m d ≡ n + 4371953 → days_from_civil y m d ≡ pos n
numbered y m d n e = omega (arith, signed_arith, days_from_civil-day_count y m d, e)

-- the day begins a month that has begun by day n, or that hasn't
begun : (y : ℤ) (m n : ℕ) → day_count y m 1 ≤ n + 4371953 → int_le (days_from_civil y m 1) (pos n) ≡ true
begun y m n h =
    let early : days_from_civil y m 1 ≤ℤ pos n = omega (arith, signed_arith, days_from_civil-day_count y m 1) in
    grind (arith, ints)

not_begun : (y : ℤ) (m n : ℕ) → n + 4371953 < day_count y m 1 → int_le (days_from_civil y m 1) (pos n) ≡ false
not_begun y m n h =
    let late : pos n <ℤ days_from_civil y m 1 = omega (arith, signed_arith, days_from_civil-day_count y m 1) in
    grind (arith, ints)

-- the first day of a month
first_of : (y m : ℕ) → y ≤ 9999 → 1 ≤ m → m ≤ 12 → IsCivilDate (pos y) m 1
first_of y m small low high =
    (omega (arith, signed_arith), (low, high), (omega arith, omega (arith, days_in_month_bounds (pos y) m)))

-- the years from 1970 on have at least 365 days each
years_long : (k : ℕ) → 4371953 + 365 * k ≤ day_count (pos (1970 + k)) 1 1
years_long zero = omega (arith, day_count-epoch)
years_long (suc k) =
    let next = day_count-next_year (pos (1970 + k)) (pos (1970 + suc k)) (omega (arith, signed_arith)) (omega (arith, signed_arith)) in
    omega (arith, years_long k, next, days_in_year_bounds (pos (1970 + k)))

module _ (y m d n : ℕ) (date : IsCivilDate (pos y) m d) (number : days_from_civil (pos y) m d ≡ pos n) where
  from_1970 : 1970 ≤ y
  from_1970 = elim (cases_lt y 1970) [
    | inl early ↦
        let less = day_count-lt_year (pos y) m d (pos 1970) 1 1 date (omega arith) (omega (arith, signed_arith)) in
        absurd (omega (arith, less, day_count-epoch, counted (pos y) m d n number))
    | inr late ↦ late
  ]

  year_begun : (k : ℕ) → 0 ≤ k → k < y - 1970 → int_le (days_from_civil (pos (1971 + k)) 1 1) (pos n) ≡ true
  year_begun k low high =
      begun (pos (1971 + k)) 1 n (elim (cases_lt (1971 + k) y) [
        | inl less ↦
            let small : y ≤ 9999 = omega (arith, signed_arith, date.0) in
            let before = day_count-lt_year (pos (1971 + k)) 1 1 (pos y) m d (first_of (1971 + k) 1 (omega arith) (omega arith) (omega arith)) date.2.0 (omega (arith, signed_arith)) in
            omega (arith, before, counted (pos y) m d n number)
        | inr same ↦
            let e : 1971 + k ≡ y = omega arith in
            rw e (omega (arith, day_count-day_of_year (pos y) m d date.2.0, counted (pos y) m d n number, date.2.0))
      ])

  year_not_begun : (k : ℕ) → y - 1970 ≤ k → k < 0 + 200 → int_le (days_from_civil (pos (1971 + k)) 1 1) (pos n) ≡ false
  year_not_begun k low high =
      let after = day_count-lt_year (pos y) m d (pos (1971 + k)) 1 1 date (omega arith) (omega (arith, signed_arith)) in
      not_begun (pos (1971 + k)) 1 n (omega (arith, after, counted (pos y) m d n number))

  year_is : y < 2170 → year_of_day n ≡ y
  year_is small =
      let count = count_is (λ k. int_le (days_from_civil (pos (1971 + k)) 1 1) (pos n)) 200 0 (y - 1970) (omega arith) (omega arith) year_begun year_not_begun in
      omega (arith, count, from_1970)

  month_begun : (k : ℕ) → 0 ≤ k → k < m - 1 → int_le (days_from_civil (pos y) (2 + k) 1) (pos n) ≡ true
  month_begun k low high =
      begun (pos y) (2 + k) n (elim (cases_lt (2 + k) m) [
        | inl less ↦
            let small : y ≤ 9999 = omega (arith, signed_arith, date.0) in
            let before = day_count-lt_month (pos y) (2 + k) 1 m d (first_of y (2 + k) small (omega arith) (omega (arith, date.1.1))) date.2.0 less in
            omega (arith, before, counted (pos y) m d n number)
        | inr same ↦
            let e : 2 + k ≡ m = omega arith in
            rw e (omega (arith, day_count-day (pos y) m 1 d (omega arith) date.2.0, counted (pos y) m d n number, date.2.0))
      ])

  month_not_begun : (k : ℕ) → m - 1 ≤ k → k < 0 + 11 → int_le (days_from_civil (pos y) (2 + k) 1) (pos n) ≡ false
  month_not_begun k low high =
      let after = day_count-lt_month (pos y) m d (2 + k) 1 date (omega arith) (omega (arith, date.1.0)) in
      not_begun (pos y) (2 + k) n (omega (arith, after, counted (pos y) m d n number))

  month_is : y < 2170 → month_of_day n ≡ m
  month_is small =
      let count = count_is (λ k. int_le (days_from_civil (pos y) (2 + k) 1) (pos n)) 11 0 (m - 1) (omega arith) (omega (arith, date.1.1)) month_begun month_not_begun in
      ap (λ y. 1 + count_by (λ k. int_le (days_from_civil (pos y) (2 + k) 1) (pos n)) (range_with_len 0 11)) (year_is small) ∙ omega (arith, count, date.1.0)

  day_is : unsigned_abs (pos n -ℤ days_from_civil (pos y) m 1) + 1 ≡ d
  day_is =
      let before : pos n -ℤ days_from_civil (pos y) m 1 ≡ pos (d - 1) =
      omega (arith, signed_arith, day_count-day (pos y) m 1 d (omega arith) date.2.0, counted (pos y) m d n number, days_from_civil-day_count (pos y) m 1, date.2.0) in
      ap (λ z. unsigned_abs z + 1) before ∙ omega (arith, date.2.0)

  pub civil_is : y < 2170 → civil_of_day n ≡ civil y m d
  unfolding civil_of_day
  civil_is small =
      let at : ℕ → ℕ → Civil = λ y m. civil y m (unsigned_abs (pos n -ℤ days_from_civil (pos y) m 1) + 1) in
      ap (λ y. at y (month_of_day n)) (year_is small) ∙ ap (λ m. at y m) (month_is small) ∙ ap (λ d. civil y m d) day_is

  pub before_2170 : n < 2 ^ 16 → y < 2170
  before_2170 small = elim (cases_lt y 2170) [
    | inl early ↦ early
    | inr late ↦
        let long = years_long 200 in
        let first = day_count-day_of_year (pos y) m d date.2.0 in
        let there = counted (pos y) m d n number in
        elim (cases_lt 2170 y) [
          | inl later ↦
              let after = day_count-lt_year (pos 2170) 1 1 (pos y) m d (first_of 2170 1 (omega arith) (omega arith) (omega arith)) date.2.0 (omega (arith, signed_arith)) in
              absurd (omega arith)
          | inr same ↦
              let e : y ≡ 2170 = omega arith in
              absurd (omega (arith, rw e at first, rw e at there))
        ]
  ]

-- a year and a month that hold a day
year_for : (k n : ℕ) → n + 4371953 < day_count (pos (1970 + k)) 1 1
    → (y : ℕ) × (y < 1970 + k) × (day_count (pos y) 1 1 ≤ n + 4371953) × (n + 4371953 < day_count (pos (y + 1)) 1 1)
year_for zero n h = absurd (omega (arith, day_count-epoch))
year_for (suc k) n h = elim (cases_lt (n + 4371953) (day_count (pos (1970 + k)) 1 1)) [
  | inl less ↦ let found = year_for k n less in (found.0, omega (arith, found.1), found.2, found.3)
  | inr more ↦ (1970 + k, omega arith, more, rw (ap (λ y. day_count (pos y) 1 1) (let e : 1970 + k + 1 ≡ 1970 + suc k = omega arith in e)) h)
]

month_for : (y k n : ℕ) → day_count (pos y) 1 1 ≤ n + 4371953 → n + 4371953 < day_count (pos y) (k + 1) 1
    → (m : ℕ) × (1 ≤ m) × (m ≤ k) × (day_count (pos y) m 1 ≤ n + 4371953) × (n + 4371953 < day_count (pos y) (m + 1) 1)
month_for y zero n low h = absurd (omega arith)
month_for y (suc k) n low h = elim (cases_lt (n + 4371953) (day_count (pos y) (k + 1) 1)) [
  | inl less ↦ let found = month_for y k n low less in (found.0, found.1, omega (arith, found.2), found.3, found.4)
  | inr more ↦ (k + 1, omega arith, omega arith, more, rw (ap (λ m. day_count (pos y) m 1) (let e : k + 1 + 1 ≡ suc k + 1 = omega arith in e)) h)
]

-- the day of a number
pub record Dated (n : ℕ) : Type 0 where
  pub year : ℕ
  pub month : ℕ
  pub day : ℕ
  pub date : IsCivilDate (pos year) month day
  pub number : days_from_civil (pos year) month day ≡ pos n
  pub small : year < 2170

pub dated : (n : ℕ) → n < 2 ^ 16 → Dated n
dated n small =
    let y = year_for 180 n (omega (arith, years_long 180)) in
    let wide : y.0 < 2150 = omega (arith, y.1) in
    let next = day_count-next_year (pos y.0) (pos (y.0 + 1)) (omega (arith, signed_arith)) (omega (arith, signed_arith)) in
    let last = day_count-last_of_year (pos y.0) in
    let end = day_count-next_month (pos y.0) 12 (omega arith) in
    let december = day_count-day (pos y.0) 12 1 31 (omega arith) (omega arith) in
    let m = month_for y.0 12 n y.2 (omega (arith, y.3, next, last, end, december)) in
    let d = n + 4371953 - day_count (pos y.0) m.0 1 + 1 in
    let within = day_count-next_month (pos y.0) m.0 m.1 in
    let here = day_count-day (pos y.0) m.0 1 d (omega arith) (omega arith) in
    record {
      year = y.0;
      month = m.0;
      day = d;
      date = (omega (arith, signed_arith, wide), (m.1, m.2), (omega arith, omega (arith, m.3, m.4, within)));
      number = numbered (pos y.0) m.0 d n (omega (arith, here, m.3));
      small = omega (arith, wide);
    }

-- the calendar has one day of a number, and its year is in this range
pub civil_of_date : (y : ℤ) (m d n : ℕ) → IsCivilDate y m d → days_from_civil y m d ≡ pos n → n < 2 ^ 16
    → (civil (unsigned_abs y) m d ≡ civil_of_day n) × (pos 0 ≤ℤ y) × (y <ℤ pos 2170)
civil_of_date (pos y) m d n date number small =
    let early = before_2170 y m d n date number small in
    (sym (civil_is y m d n date number early), omega (arith, signed_arith), omega (arith, signed_arith))
civil_of_date (negsuc y) m d n date number small =
    let less = day_count-lt_year (negsuc y) m d (pos 1970) 1 1 date (omega arith) (omega (arith, signed_arith)) in
    absurd (omega (arith, less, day_count-epoch, counted (negsuc y) m d n number))

-- the calendar has the day exactly where `jiff` does
pub civil_true : (y m d : ℕ) → IsDate (pos y) (pos m) (pos d) → is_civil (civil y m d) ≡ true
civil_true y m d h = grind (arith, ints, nat_tests)
