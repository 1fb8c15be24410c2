-- The texts of values that aren't Strings have no byte that is escaped.
use Rattle.std.proofs.Common.{◌≡◌, ◌≢◌, ℕ, zero, suc, ◌+◌, ◌/◌, ◌%◌, ◌^◌, ◌<◌, ◌≤◌, ◌==◌, ◌&&◌, true, false, Bool, List, [], ◌∷◌, ◌++◌, Option, Some, None, Ok, ℤ, pos, negsuc, refl, ap, arith, ne_eqb, cond, decimal, inl, inr, unsigned_abs, length}
use Rattle.std.specs.Prelude.{codes, if◌then◌else◌}
use Rattle.std.specs.List.{flat_map}
use Rattle.std.specs.Char.{is_ascii_digit}
use Rattle.std.specs.Fmt.{signed_decimal}
use Rattle.std.specs.Int.{w128, to_be_bytes}
use Rattle.std.specs.Str.{all_ascii_digits}
use Rattle.std.specs.Str.Parse.{AllDigits}
use Rattle.std.specs.Net.Grammar.{IsDotted, IsColonHex, IsElided, IsGroupsAfter}
use Rattle.std.proofs.Math.Nat.{div-le_self}
use Rattle.std.proofs.lemmas.Bool.Decides.{nat_tests}
use Rattle.uuid.specs.Text.{by_index, digit_place, hex_digit, is_hyphen_place, lower, nibble}
use Rattle.uuid.proofs.TextLemmas.{nibble_small}
use Rattle.jiff_core.proofs.CalendarLemmas.{days_in_month_bounds}
use Rattle.dict_value.proofs.CivilDays.{civil_is, dated}
use Rattle.dict_value.proofs.Digits.{both, digit_value_of, few_digits}
use Rattle.dict_value.proofs.WrittenAddresses.{v4_written, v6_written}
use Rattle.dict_value.proofs.WrittenBytes.{v4_again, v6_again}
use Rattle.dict_value.proofs.WrittenNumbers.{decimal_digits}
use Rattle.dict_value.specs.Addresses.{v4_in, v4_text, v6_in, v6_text}
use Rattle.dict_value.specs.Dates.{civil, clock_text, date_text, day_text, second_text, two}
use Rattle.dict_value.specs.Decimals.{decimal_text, fraction_text, last_digits, sign_text, without_end_zeros}
use Rattle.dict_value.specs.Identifiers.{id_text}
use Rattle.dict_value.specs.Numbers.{given, is_within}
use Rattle.dict_value.specs.Values.{FitsColumn, HasType, value_text}
use Rattle.dict_value.specs.declared.value.AttrType.{AttrType}
use Rattle.dict_value.specs.declared.value.ColType.{ColType}
use Rattle.dict_value.specs.declared.value.ColType.TheVariants as type
use Rattle.dict_value.specs.declared.value.Value.{Value}
use Rattle.dict_value.specs.declared.value.Value.TheVariants.{U, I, S, Day, Second, Id, V4, V6, Dec, Null}
use Rattle.dict_value.specs.declared.value.BadValue.TheVariants.{BadAddress}
use Rattle.row_text.specs.TabRow.{written_byte, written_letter}
use Rattle.row_text.specs.Written.{printed}

-- a byte that is written as it is
pub record IsPlainByte (b : ℕ) : Type 0 where
  pub past : 13 < b
  pub quote : b ≢ 39
  pub slash : b ≢ 92

no_letter : (b : ℕ) → IsPlainByte b → written_letter b ≡ None
unfolding written_letter
no_letter b plain =
    rw (ne_eqb b 8 (omega (arith, plain.past)), ne_eqb b 12 (omega (arith, plain.past)), ne_eqb b 13 (omega (arith, plain.past)), ne_eqb b 10 (omega (arith, plain.past)), ne_eqb b 9 (omega (arith, plain.past)), ne_eqb b 0 (omega (arith, plain.past)), ne_eqb b 39 plain.quote, ne_eqb b 92 plain.slash) refl

-- each byte of the text is
abbrev pub IsPlain : List ℕ → Type 0
IsPlain [] = Unit {0}
IsPlain (b ∷ bs) = IsPlainByte b × IsPlain bs

-- such a text is written as it is
pub written-plain : (text : List ℕ) → IsPlain text → flat_map written_byte text ≡ text
written-plain [] plain = refl
written-plain (b ∷ bs) plain = rw (no_letter b plain.0) (ap (λ l. b ∷ l) (written-plain bs plain.1))

IsPlain-append : (xs ys : List ℕ) → IsPlain xs → IsPlain ys → IsPlain (xs ++ ys)
IsPlain-append [] ys h k = k
IsPlain-append (x ∷ xs) ys h k = (h.0, IsPlain-append xs ys h.1 k)

-- digits, and the signs between them
digit_plain : (d : ℕ) → d < 10 → IsPlainByte (48 + d)
digit_plain d small = record { past = omega arith; quote = omega arith; slash = omega arith }

IsPlain-digits : (ds : List ℕ) → all_ascii_digits ds ≡ true → IsPlain ds
IsPlain-digits [] h = tt
IsPlain-digits (d ∷ ds) h =
    let parts = both (is_ascii_digit d) (all_ascii_digits ds) h in
    let range = digit_value_of d parts.0 in
    (record { past = omega (arith, range); quote = omega (arith, range); slash = omega (arith, range) }, IsPlain-digits ds parts.1)

sign_plain : (b : ℕ) → 13 < b → b < 39 → IsPlainByte b
sign_plain b low high = record { past = low; quote = omega arith; slash = omega arith }

mark_plain : (b : ℕ) → 39 < b → b < 92 → IsPlainByte b
mark_plain b low high = record { past = omega arith; quote = omega arith; slash = omega arith }

pub IsPlain-decimal : (n : ℕ) → n < 10 ^ 64 → IsPlain (decimal n)
IsPlain-decimal n small = IsPlain-digits (decimal n) (decimal_digits n small).0

pub IsPlain-signed : (z : ℤ) → unsigned_abs z < 10 ^ 64 → IsPlain (signed_decimal z)
IsPlain-signed (pos n) small = IsPlain-decimal n small
IsPlain-signed (negsuc n) small =
    (mark_plain 45 (omega arith) (omega arith), IsPlain-decimal (suc n) small)

IsPlain-two : (n : ℕ) → n < 100 → IsPlain (two n)
IsPlain-two n small =
    (digit_plain (n / 10) (omega arith), (digit_plain (n % 10) (omega arith), tt))

-- two digits behind a sign
IsPlain-behind : (b n : ℕ) → IsPlainByte b → n < 100 → IsPlain (b ∷ two n)
IsPlain-behind b n plain small = (plain, IsPlain-two n small)

-- a day, and a second
IsPlain-date : (y m d : ℕ) → y < 10000 → m < 100 → d < 100 → IsPlain (date_text (civil y m d))
IsPlain-date y m d year month day =
    let minus : IsPlainByte 45 = mark_plain 45 (omega arith) (omega arith) in
    IsPlain-append (two (y / 100) ++ two (y % 100) ++ 45 ∷ two m) (45 ∷ two d)
    (IsPlain-append (two (y / 100) ++ two (y % 100)) (45 ∷ two m)
    (IsPlain-append (two (y / 100)) (two (y % 100)) (IsPlain-two (y / 100) (omega arith)) (IsPlain-two (y % 100) (omega arith)))
    (IsPlain-behind 45 m minus month))
    (IsPlain-behind 45 d minus day)

pub IsPlain-day : (n : ℕ) → n < 2 ^ 16 → IsPlain (day_text n)
IsPlain-day n small =
    let c = dated n small in
    let month : c.month < 100 = omega (arith, c.date.1.1) in
    let day : c.day < 100 = omega (arith, c.date.2.1, days_in_month_bounds (pos c.year) c.month) in
    rw (civil_is c.year c.month c.day n c.date c.number c.small)
    (IsPlain-date c.year c.month c.day (omega (arith, c.small)) month day)

IsPlain-clock : (n : ℕ) → n < 86400 → IsPlain (clock_text n)
IsPlain-clock n small =
    let colon : IsPlainByte 58 = mark_plain 58 (omega arith) (omega arith) in
    IsPlain-append (two (n / 3600) ++ 58 ∷ two (n / 60 % 60)) (58 ∷ two (n % 60))
    (IsPlain-append (two (n / 3600)) (58 ∷ two (n / 60 % 60)) (IsPlain-two (n / 3600) (omega arith))
    (IsPlain-behind 58 (n / 60 % 60) colon (omega arith)))
    (IsPlain-behind 58 (n % 60) colon (omega arith))

pub IsPlain-second : (n : ℕ) → n < 2 ^ 32 → IsPlain (second_text n)
IsPlain-second n small =
    IsPlain-append (day_text (n / 86400)) (32 ∷ clock_text (n % 86400)) (IsPlain-day (n / 86400) (omega arith))
    (sign_plain 32 (omega arith) (omega arith), IsPlain-clock (n % 86400) (omega arith))

-- a Decimal
IsPlain-last : (count n : ℕ) → IsPlain (last_digits count n)
unfolding last_digits
IsPlain-last zero n = tt
IsPlain-last (suc count) n =
    IsPlain-append (last_digits count (n / 10)) ((48 + n % 10) ∷ []) (IsPlain-last count (n / 10))
    (digit_plain (n % 10) (omega arith), tt)

IsPlain-kept : (ds : List ℕ) → IsPlain ds → IsPlain (without_end_zeros ds)
unfolding without_end_zeros
IsPlain-kept [] h = tt
IsPlain-kept (d ∷ ds) h =
    let others = IsPlain-kept ds h.1 in
    elim ((d == 48) && (length (without_end_zeros ds) == 0)) as (λ b. IsPlain (cond b [] (d ∷ without_end_zeros ds))) [
      | true ↦ tt
      | false ↦ (h.0, others)
    ]

IsPlain-fraction : (ds : List ℕ) → IsPlain ds → IsPlain (fraction_text ds)
IsPlain-fraction [] h = tt
IsPlain-fraction (d ∷ ds) h = (mark_plain 46 (omega arith) (omega arith), h)

IsPlain-sign : (z : ℤ) → IsPlain (sign_text z)
IsPlain-sign (pos n) = tt
IsPlain-sign (negsuc n) = (mark_plain 45 (omega arith) (omega arith), tt)

pub IsPlain-decimal_text : (scale : ℕ) (z : ℤ) → unsigned_abs z < 10 ^ 64 → IsPlain (decimal_text scale z)
IsPlain-decimal_text scale z small =
    let n = unsigned_abs z in
    let fraction = fraction_text (without_end_zeros (last_digits scale n)) in
    IsPlain-append (sign_text z ++ decimal (n / 10 ^ scale)) fraction
    (IsPlain-append (sign_text z) (decimal (n / 10 ^ scale)) (IsPlain-sign z)
    (IsPlain-decimal (n / 10 ^ scale) (omega (arith, div-le_self n (10 ^ scale)))))
    (IsPlain-fraction (without_end_zeros (last_digits scale n))
    (IsPlain-kept (last_digits scale n) (IsPlain-last scale n)))

-- an address of four octets
IsPlain-dotted : (text octets : List ℕ) → IsDotted text octets → IsPlain text
IsPlain-dotted text octets dotted =
    let point : IsPlain (46 ∷ []) = (mark_plain 46 (omega arith) (omega arith), tt) in
    let a = IsPlain-decimal dotted.a (omega (arith, dotted.fit)) in
    let b = IsPlain-decimal dotted.b (omega (arith, dotted.fit)) in
    let c = IsPlain-decimal dotted.c (omega (arith, dotted.fit)) in
    let d = IsPlain-decimal dotted.d (omega (arith, dotted.fit)) in
    rw dotted.spelled (IsPlain-append _ _ (IsPlain-append _ _ (IsPlain-append _ _ (IsPlain-append _ _
    (IsPlain-append _ _ (IsPlain-append _ _ a point) b) point) c) point) d)

-- a group of hexadecimal digits
IsPlain-group : (ds : List ℕ) → AllDigits 16 ds → IsPlain ds
IsPlain-group [] h = tt
IsPlain-group (d ∷ ds) h =
    (record { past = grind (arith, nat_tests, h.0); quote = grind (arith, nat_tests, h.0); slash = grind (arith, nat_tests, h.0) }, IsPlain-group ds h.1)

-- groups with colons between them
IsPlain-groups : (ipv4 : Bool) (lead text groups : List ℕ) → IsPlain lead → IsGroupsAfter ipv4 lead text groups → IsPlain text
IsPlain-groups ipv4 lead text [] plain h = rw h tt
IsPlain-groups ipv4 lead text (s ∷ groups) plain (inl h) =
    let colon : IsPlain (58 ∷ []) = (mark_plain 58 (omega arith) (omega arith), tt) in
    rw h.2 (IsPlain-append _ _ (IsPlain-append _ _ plain (IsPlain-group h.0 h.3.0.0.1)) (IsPlain-groups ipv4 (codes ":") h.1 groups colon h.4))
IsPlain-groups ipv4 lead text (s ∷ groups) plain (inr h) =
    rw h.3 (IsPlain-append _ _ plain (IsPlain-dotted h.0 h.1 h.4))

IsPlain-colon_hex : (text groups : List ℕ) → IsColonHex text groups → IsPlain text
IsPlain-colon_hex text groups (inl whole) = IsPlain-groups true [] text groups tt whole.0
IsPlain-colon_hex text groups (inr elided) =
    let colon : IsPlainByte 58 = mark_plain 58 (omega arith) (omega arith) in
    rw elided.spelled (IsPlain-append _ _ (IsPlain-append _ _
    (IsPlain-groups false [] elided.head_text elided.head tt elided.head_groups) (colon, (colon, tt)))
    (IsPlain-groups true [] elided.tail_text elided.tail tt elided.tail_groups))

-- what an address is read as
in_ok : (o : Option ℕ) (n : ℕ) → given o BadAddress Ok ≡ Ok n → o ≡ Some n
in_ok None n h = absurd (cc)
in_ok (Some x) n h = cc

pub IsPlain-v4 : (n : ℕ) → n < 2 ^ 32 → IsPlain (v4_text n)
IsPlain-v4 n small =
    let written = v4_written (v4_text n) n (in_ok (v4_in (v4_text n)) n (v4_again n small)) in
    IsPlain-dotted (v4_text n) written.0 written.1

pub IsPlain-v6 : (n : ℕ) → n < 2 ^ 128 → IsPlain (v6_text n)
IsPlain-v6 n small =
    let written = v6_written (v6_text n) n (in_ok (v6_in (v6_text n)) n (v6_again n small)) in
    IsPlain-colon_hex (v6_text n) written.0 written.1

-- an identifier
hex_plain : (d : ℕ) → d < 16 → IsPlainByte (hex_digit lower d)
hex_plain d small = record { past = grind (arith, nat_tests); quote = grind (arith, nat_tests); slash = grind (arith, nat_tests) }

place_plain : (xs : List ℕ) (k : ℕ) → IsPlainByte (if is_hyphen_place k then 45 else hex_digit lower (nibble xs (digit_place k)))
place_plain xs k =
    elim (is_hyphen_place k) as (λ b. IsPlainByte (if b then 45 else hex_digit lower (nibble xs (digit_place k)))) [
      | true ↦ mark_plain 45 (omega arith) (omega arith)
      | false ↦ hex_plain (nibble xs (digit_place k)) (nibble_small xs (digit_place k))
    ]

IsPlain-by_index : (f : ℕ → ℕ) → ((k : ℕ) → IsPlainByte (f k)) → (n : ℕ) → IsPlain (by_index n f)
unfolding by_index
IsPlain-by_index f h zero = tt
IsPlain-by_index f h (suc n) = IsPlain-append (by_index n f) (f n ∷ []) (IsPlain-by_index f h n) (h n, tt)

pub IsPlain-id : (n : ℕ) → IsPlain (id_text n)
IsPlain-id n =
    let xs = to_be_bytes w128 n in
    IsPlain-by_index (λ k. if is_hyphen_place k then 45 else hex_digit lower (nibble xs (digit_place k))) (place_plain xs) 36

-- the magnitude of a signed number
signed_small : (bound : ℕ) (z : ℤ) → is_within bound z ≡ true → bound < 10 ^ 64 → unsigned_abs z < 10 ^ 64
signed_small bound (pos n) h few = grind (arith, nat_tests)
signed_small bound (negsuc n) h few = grind (arith, nat_tests)

-- the text of a value that isn't a String
pub value_text-plain : (t : ColType) (v : Value) → HasType t v → ((text : List ℕ) → v ≢ S text) → IsPlain (value_text t v)
unfolding value_text
value_text-plain type.UInt8 (U n) h other = IsPlain-decimal n (omega (arith, h))
value_text-plain type.UInt16 (U n) h other = IsPlain-decimal n (omega (arith, h))
value_text-plain type.UInt32 (U n) h other = IsPlain-decimal n (omega (arith, h))
value_text-plain type.UInt64 (U n) h other = IsPlain-decimal n (omega (arith, h))
value_text-plain type.Int8 (I z) h other = IsPlain-signed z (signed_small (2 ^ 7) z h (omega arith))
value_text-plain type.Int16 (I z) h other = IsPlain-signed z (signed_small (2 ^ 15) z h (omega arith))
value_text-plain type.Int32 (I z) h other = IsPlain-signed z (signed_small (2 ^ 31) z h (omega arith))
value_text-plain type.Int64 (I z) h other = IsPlain-signed z (signed_small (2 ^ 63) z h (omega arith))
value_text-plain type.Str (S text) h other = absurd (other text refl)
value_text-plain type.Date (Day n) h other = IsPlain-day n h
value_text-plain type.DateTime (Second n) h other = IsPlain-second n h
value_text-plain type.Uuid (Id n) h other = IsPlain-id n
value_text-plain type.Ipv4 (V4 n) h other = IsPlain-v4 n h
value_text-plain type.Ipv6 (V6 n) h other = IsPlain-v6 n h
value_text-plain (type.Decimal digits scale) (Dec z) h other = IsPlain-decimal_text scale z (omega (arith, h, few_digits digits))
value_text-plain t v h other = absurd h

-- so it is printed as it is
pub printed-plain : (t : AttrType) (v : Value) → FitsColumn t v → v ≢ Null → ((text : List ℕ) → v ≢ S text)
    → printed t.base v ≡ value_text t.base v
printed-plain t Null fits some other = absurd (some refl)
printed-plain t (U n) fits some other = written-plain _ (value_text-plain t.base (U n) fits other)
printed-plain t (I z) fits some other = written-plain _ (value_text-plain t.base (I z) fits other)
printed-plain t (S text) fits some other = absurd (other text refl)
printed-plain t (Day n) fits some other = written-plain _ (value_text-plain t.base (Day n) fits other)
printed-plain t (Second n) fits some other = written-plain _ (value_text-plain t.base (Second n) fits other)
printed-plain t (Id n) fits some other = written-plain _ (value_text-plain t.base (Id n) fits other)
printed-plain t (V4 n) fits some other = written-plain _ (value_text-plain t.base (V4 n) fits other)
printed-plain t (V6 n) fits some other = written-plain _ (value_text-plain t.base (V6 n) fits other)
printed-plain t (Dec z) fits some other = written-plain _ (value_text-plain t.base (Dec z) fits other)
