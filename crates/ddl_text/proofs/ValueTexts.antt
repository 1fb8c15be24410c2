-- The texts of values that stand in quotes have no byte to escape.
use Rattle.std.proofs.Common.{◌≡◌, ◌<◌, ◌^◌, ◌/◌, ◌%◌, ◌+◌, ℕ, zero, suc, cond, List, [], ◌∷◌, ◌++◌, get_or, drop, take, All, sym, ap, subst, inl, inr, arith, pos}
use Rattle.std.specs.Prelude.{codes}
use Rattle.std.specs.List.{AllByRecursion}
use Rattle.std.specs.Int.{w32, w128, to_be_bytes}
use Rattle.std.specs.Str.{bytes_eq}
use Rattle.std.specs.Net.Addr.{octets_of, segments_of}
use Rattle.std.specs.Net.Text.{hex_groups_text, ipv4_text, ipv6_text}
use Rattle.std.proofs.lemmas.Bool.{cases_lt, cond_both, lt-ltb, le-ltb}
use Rattle.std.proofs.lemmas.List.Elements.{All-from_recursion, All-head, All-tail}
use Rattle.std.proofs.NetLemmas.Texts.{AllSegments, AllSegments-drop}
use Rattle.std.proofs.NetLemmas.Alphabet.{All-hex_groups_text, All-ipv4_text, IsDigitOrDot, IsHexOrColon}
use Rattle.uuid.specs.Text.{by_index, digit_place, hex_digit, is_hyphen_place, lower, nibble}
use Rattle.jiff_core.proofs.CalendarLemmas.{days_in_month_bounds}
use Rattle.dict_value.specs.Addresses.{v4_text, v6_text}
use Rattle.dict_value.specs.Dates.{civil, clock_text, date_text, day_text, second_text}
use Rattle.dict_value.specs.Identifiers.{id_text}
use Rattle.dict_value.proofs.CivilDays.{civil_is, dated}
use Rattle.ddl_text.proofs.Quoting.{IsPlain}

abbrev Plain : List ℕ → Type 0
Plain text = AllByRecursion IsPlain text

plain_both : (xs ys : List ℕ) → Plain xs → Plain ys → Plain (xs ++ ys)
plain_both [] ys h k = k
plain_both (x ∷ xs) ys h k = (h.0, plain_both xs ys h.1 k)

plain_each : (P : ℕ → Type 0) → ((b : ℕ) → P b → IsPlain b) → (xs : List ℕ) → All P xs → Plain xs
plain_each P of [] h = tt
plain_each P of (x ∷ xs) h = (of x (All-head P x xs h), plain_each P of xs (All-tail P x xs h))

-- ---- days and seconds

plain_digit : (d : ℕ) → d < 10 → IsPlain (48 + d)
plain_digit d small = (λ e. omega (arith, small, e), λ e. omega (arith, small, e))

plain_hyphen : IsPlain 45
plain_hyphen = (λ e. omega (arith, e), λ e. omega (arith, e))

plain_date : (y m d : ℕ) → y < 10000 → m < 100 → d < 100 → Plain (date_text (civil y m d))
plain_date y m d year month day = (
  plain_digit (y / 100 / 10) (omega arith),
  (
    plain_digit (y / 100 % 10) (omega arith),
    (
      plain_digit (y % 100 / 10) (omega arith),
      (
        plain_digit (y % 100 % 10) (omega arith),
        (
          plain_hyphen,
          (
            plain_digit (m / 10) (omega arith),
            (
              plain_digit (m % 10) (omega arith),
              (plain_hyphen, (plain_digit (d / 10) (omega arith), (plain_digit (d % 10) (omega arith), tt))),
            ),
          ),
        ),
      ),
    ),
  ),
)

pub plain_day : (n : ℕ) → n < 2 ^ 16 → Plain (day_text n)
plain_day n small =
    let c = dated n small in
    let month : c.month < 100 = omega (arith, c.date.1.1) in
    let day : c.day < 100 = omega (arith, c.date.2.1, days_in_month_bounds (pos c.year) c.month) in
    let text : day_text n ≡ date_text (civil c.year c.month c.day) = ap date_text (civil_is c.year c.month c.day n c.date c.number c.small) in
    subst (λ (t : List ℕ). Plain t) (sym text) (plain_date c.year c.month c.day (omega (arith, c.small)) month day)

plain_colon : IsPlain 58
plain_colon = (λ e. omega (arith, e), λ e. omega (arith, e))

plain_blank : IsPlain 32
plain_blank = (λ e. omega (arith, e), λ e. omega (arith, e))

plain_clock : (n : ℕ) → n < 86400 → Plain (clock_text n)
plain_clock n small = (
  plain_digit (n / 3600 / 10) (omega arith),
  (
    plain_digit (n / 3600 % 10) (omega arith),
    (
      plain_colon,
      (
        plain_digit (n / 60 % 60 / 10) (omega arith),
        (
          plain_digit (n / 60 % 60 % 10) (omega arith),
          (plain_colon, (plain_digit (n % 60 / 10) (omega arith), (plain_digit (n % 60 % 10) (omega arith), tt))),
        ),
      ),
    ),
  ),
)

pub plain_second : (n : ℕ) → n < 2 ^ 32 → Plain (second_text n)
plain_second n small =
    plain_both (day_text (n / 86400)) (32 ∷ clock_text (n % 86400)) (plain_day (n / 86400) (omega (arith, small)))
    (plain_blank, plain_clock (n % 86400) (omega arith))

-- ---- identifiers

plain_hex : (d : ℕ) → IsPlain (hex_digit lower d)
plain_hex d = elim (cases_lt d 10) [
  | inl low ↦ rw (lt-ltb d 10 low) (plain_digit d low)
  | inr high ↦ rw (le-ltb d 10 high) (λ e. omega (arith, high, e), λ e. omega (arith, high, e))
]

plain_place : (xs : List ℕ) (k : ℕ) → IsPlain (cond (is_hyphen_place k) 45 (hex_digit lower (nibble xs (digit_place k))))
plain_place xs k = cond_both _ _ _ IsPlain (λ _. plain_hyphen) (λ _. plain_hex (nibble xs (digit_place k)))

plain_places : (n : ℕ) (f : ℕ → ℕ) → ((k : ℕ) → IsPlain (f k)) → Plain (by_index n f)
unfolding by_index
plain_places zero f h = tt
plain_places (suc n) f h = plain_both (by_index n f) (f n ∷ []) (plain_places n f h) (h n, tt)

pub plain_id : (n : ℕ) → Plain (id_text n)
plain_id n = plain_places 36 _ (plain_place (to_be_bytes w128 n))

-- ---- addresses

digit_or_dot : (b : ℕ) → IsDigitOrDot b → IsPlain b
digit_or_dot b (inl h) = (λ e. omega (arith, h, e), λ e. omega (arith, h, e))
digit_or_dot b (inr h) = (λ e. omega (arith, h, e), λ e. omega (arith, h, e))

hex_or_colon : (b : ℕ) → IsHexOrColon b → IsPlain b
hex_or_colon b (inl h) = (λ e. omega (arith, h, e), λ e. omega (arith, h, e))
hex_or_colon b (inr h) = (λ e. omega (arith, h, e), λ e. omega (arith, h, e))

-- a bound of each number in a list is one of what stands at any place
bounded : (bound : ℕ) (xs : List ℕ) → 0 < bound → AllByRecursion (λ x. x < bound) xs → (k : ℕ) → get_or xs k 0 < bound
bounded bound [] some all k = some
bounded bound (x ∷ xs) some all zero = all.0
bounded bound (x ∷ xs) some all (suc k) = bounded bound xs some all.1 k

pub plain_v4 : (n : ℕ) → Plain (v4_text n)
plain_v4 n = plain_each IsDigitOrDot digit_or_dot (v4_text n) (All-ipv4_text (to_be_bytes w32 n) (bounded 256 (to_be_bytes w32 n) (omega arith) (omega arith)))

octet_within : (xs : List ℕ) → AllSegments xs → (k : ℕ) → get_or (octets_of xs) k 0 < 2 ^ 8
octet_within [] h k = omega arith
octet_within (x ∷ xs) h zero = let first = h 0 in omega (arith, first)
octet_within (x ∷ xs) h (suc zero) = omega arith
octet_within (x ∷ xs) h (suc (suc k)) = octet_within xs (λ j. h (suc j)) k

mapped_plain : Plain (codes "::ffff:")
mapped_plain = plain_each IsHexOrColon hex_or_colon (codes "::ffff:") (All-from_recursion IsHexOrColon (codes "::ffff:") (colon, (colon, (letter, (letter, (letter, (letter, (colon, tt)))))))) where
  colon : IsHexOrColon 58
  colon = inl (omega arith)

  letter : IsHexOrColon 102
  letter = inr (omega arith)

plain_groups : (xs : List ℕ) → AllSegments xs → Plain (ipv6_text xs)
unfolding ipv6_text
plain_groups xs fits =
    cond_both (bytes_eq (take 6 xs) (0 ∷ 0 ∷ 0 ∷ 0 ∷ 0 ∷ 65535 ∷ [])) (codes "::ffff:" ++ ipv4_text (octets_of (drop 6 xs))) (hex_groups_text xs) (λ text. Plain text)
    (λ _. plain_both (codes "::ffff:") (ipv4_text (octets_of (drop 6 xs))) mapped_plain
    (plain_each IsDigitOrDot digit_or_dot (ipv4_text (octets_of (drop 6 xs))) (All-ipv4_text (octets_of (drop 6 xs)) (octet_within (drop 6 xs) (AllSegments-drop 6 xs fits)))))
    (λ _. plain_each IsHexOrColon hex_or_colon (hex_groups_text xs) (All-hex_groups_text xs fits))

pub plain_v6 : (n : ℕ) → Plain (v6_text n)
plain_v6 n = plain_groups (segments_of (to_be_bytes w128 n)) (bounded (2 ^ 16) (segments_of (to_be_bytes w128 n)) (omega arith) (omega arith))
