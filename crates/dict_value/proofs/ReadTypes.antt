-- What a text is read as has the type that it is read at.
use Rattle.std.proofs.Common.{◌≡◌, ◌≤◌, ◌<◌, ◌-◌, ◌+◌, ◌*◌, ◌^◌, ◌∷◌, ◌++◌, ◌∙◌, ◌==◌, ◌&&◌, ◌⊎◌, [], suc, zero, ℕ, Bool, true, false, List, Option, Some, None, Result, Ok, Err, length, take, drop, replicate, get_or, nat_lt, refl, sym, ap, subst, inl, inr, arith, lit<}
use Rattle.std.specs.Prelude.{codes, if◌then◌else◌, ℤ, pos, negsuc, unsigned_abs, min, IsTrue}
use Rattle.std.specs.Int.{w32, w128, from_be_bytes}
use Rattle.std.specs.Net.Addr.{octets_of, segments_of}
use Rattle.std.specs.Net.Grammar.{IsDotted, IsColonHex, IsGroup, IsGroupsAfter}
use Rattle.std.proofs.lemmas.Int.Digits.{digits_value-lt}
use Rattle.std.proofs.lemmas.Bool.Decides.{nat_tests}
use Rattle.std.specs.List.{list_all}
use Rattle.std.specs.Str.Parse.{AllDigits, digits_value}
use Rattle.std.proofs.Math.Nat.{pow-le-pow_right}
use Rattle.std.proofs.lemmas.Bool.{cases_lt, eqb-true}
use Rattle.std.proofs.lemmas.List.{get_or_past}
use Rattle.std.proofs.lemmas.List.Elements.{All-get_or}
use Rattle.std.proofs.lemmas.List.Sums.{AllPass-from_list_all}
use Rattle.uuid.proofs.TextLemmas.{by_index_at, by_index_length}
use Rattle.uuid.specs.Text.{by_index, byte_of_digits, digits_of, has_hyphens, is_hex_digit, parsed, parsed_hyphenated, parsed_simple, value_of}
use Rattle.dict_value.proofs.WrittenAddresses.{v4_written, v6_written}
use Rattle.dict_value.specs.Addresses.{v4_in, v6_in, v4_of, v6_of}
use Rattle.dict_value.specs.Dates.{date_of, day_in, from_zero_below, second_in, second_of}
use Rattle.dict_value.specs.Decimals.{decimal_of, scaled_in}
use Rattle.dict_value.specs.Identifiers.{id_of}
use Rattle.dict_value.specs.Numbers.{below, given, is_within, number_in, signed_in, signed_of, unsigned_in, unsigned_of, within}
use Rattle.dict_value.specs.Values.{HasType, as_value, text_reading}
use Rattle.dict_value.specs.declared.value.BadValue.{BadValue}
use Rattle.dict_value.specs.declared.value.BadValue.TheVariants.{BadAddress, BadDate, BadDecimal, BadUuid, NotANumber, OutOfRange}
use Rattle.dict_value.specs.declared.value.ColType.{ColType}
use Rattle.dict_value.specs.declared.value.ColType.TheVariants as type
use Rattle.dict_value.specs.declared.value.Value.{Value}
use Rattle.dict_value.specs.declared.value.Value.TheVariants.{U, I, S, Day, Second, Id, V4, V6, Dec}

-- a value, and what it was read from
given-ok : {A B : Type 0} (o : Option A) (fault : BadValue) (f : A → Result B BadValue) (y : B) → given o fault f ≡ Ok y → (x : A) × (o ≡ Some x) × (f x ≡ Ok y)
given-ok None fault f y e = absurd (cc)
given-ok (Some x) fault f y e = (x, refl, e)

as_value-ok : {A : Type 0} (f : A → Value) (r : Result A BadValue) (v : Value) → as_value f r ≡ Ok v → (x : A) × (r ≡ Ok x) × (v ≡ f x)
as_value-ok f (Ok x) v e = (x, refl, cc)
as_value-ok f (Err fault) v e = absurd (cc)

if-ok : {A : Type 0} (test : Bool) (x y : A) → ◌≡◌ {A = Result A BadValue} (if test then Ok x else Err OutOfRange) (Ok y) → (test ≡ true) × (x ≡ y)
if-ok true x y e = (refl, cc)
if-ok false x y e = absurd (cc)

tested : (n bound : ℕ) → nat_lt n bound ≡ true → n < bound
tested n bound e = grind (arith, nat_tests)

below-fits : (bound n m : ℕ) → below bound n ≡ Ok m → m < bound
below-fits bound n m e = let h = if-ok (nat_lt n bound) n m e in subst (λ k. k < bound) h.1 (tested n bound h.0)

within-fits : (bound : ℕ) (z y : ℤ) → within bound z ≡ Ok y → IsTrue (is_within bound y)
within-fits bound z y e = let h = if-ok (is_within bound z) z y e in subst (λ k. IsTrue (is_within bound k)) h.1 h.0

from_zero-fits : (bound : ℕ) (z : ℤ) (n : ℕ) → from_zero_below bound z ≡ Ok n → n < bound
from_zero-fits bound (pos m) n e = below-fits bound m n e
from_zero-fits bound (negsuc m) n e = absurd (cc)

unsigned-typed : (bits : ℕ) (text : List ℕ) (v : Value) → as_value U (unsigned_of bits text) ≡ Ok v → (n : ℕ) × (v ≡ U n) × (n < 2 ^ bits)
unsigned-typed bits text v e =
    let a = as_value-ok U (unsigned_of bits text) v e in
    let b = given-ok (unsigned_in text) NotANumber (below (2 ^ bits)) a.0 a.1 in
    (a.0, a.2, below-fits (2 ^ bits) b.0 a.0 b.2)

signed-typed : (bits : ℕ) (text : List ℕ) (v : Value) → as_value I (signed_of bits text) ≡ Ok v → (z : ℤ) × (v ≡ I z) × IsTrue (is_within (2 ^ (bits - 1)) z)
signed-typed bits text v e =
    let a = as_value-ok I (signed_of bits text) v e in
    let b = given-ok (signed_in number_in text) NotANumber (within (2 ^ (bits - 1))) a.0 a.1 in
    (a.0, a.2, within-fits (2 ^ (bits - 1)) b.0 a.0 b.2)

day-typed : (text : List ℕ) (v : Value) → as_value Day (date_of text) ≡ Ok v → HasType type.Date v
day-typed text v e =
    let a = as_value-ok Day (date_of text) v e in
    let b = given-ok (day_in text) BadDate (from_zero_below (2 ^ 16)) a.0 a.1 in
    subst (HasType type.Date) (sym a.2) (from_zero-fits (2 ^ 16) b.0 a.0 b.2)

second-typed : (text : List ℕ) (v : Value) → as_value Second (second_of text) ≡ Ok v → HasType type.DateTime v
second-typed text v e =
    let a = as_value-ok Second (second_of text) v e in
    let b = given-ok (second_in text) BadDate (from_zero_below (2 ^ 32)) a.0 a.1 in
    subst (HasType type.DateTime) (sym a.2) (from_zero-fits (2 ^ 32) b.0 a.0 b.2)

decimal-typed : (digits scale : ℕ) (text : List ℕ) (v : Value) → as_value Dec (decimal_of digits scale text) ≡ Ok v → HasType (type.Decimal digits scale) v
decimal-typed digits scale text v e =
    let a = as_value-ok Dec (decimal_of digits scale text) v e in
    let f : ℤ → Result ℤ BadValue = λ z. if nat_lt (unsigned_abs z) (10 ^ min digits 38) then Ok z else Err OutOfRange in
    let b = given-ok (signed_in (scaled_in scale) text) BadDecimal f a.0 a.1 in
    let h = if-ok (nat_lt (unsigned_abs b.0) (10 ^ min digits 38)) b.0 a.0 b.2 in
    subst (HasType (type.Decimal digits scale)) (ap Dec h.1 ∙ sym a.2) (tested (unsigned_abs b.0) (10 ^ min digits 38) h.0)

-- bytes
abbrev AreBytes : List ℕ → Type 0
AreBytes bytes = (i : ℕ) → get_or bytes i 0 < 256

four-bytes : (a b c d : ℕ) → a < 256 → b < 256 → c < 256 → d < 256 → from_be_bytes w32 (a ∷ b ∷ c ∷ d ∷ []) < 2 ^ 32
four-bytes a b c d ha hb hc hd = omega arith

sixteen-bytes : (bytes : List ℕ) → AreBytes bytes → from_be_bytes w128 bytes < 2 ^ 128
sixteen-bytes bytes h = omega (arith, h 0, h 1, h 2, h 3, h 4, h 5, h 6, h 7, h 8, h 9, h 10, h 11, h 12, h 13, h 14, h 15)

v4-typed : (text : List ℕ) (v : Value) → as_value V4 (v4_of text) ≡ Ok v → HasType type.Ipv4 v
v4-typed text v e =
    let a = as_value-ok V4 (v4_of text) v e in
    let b = given-ok (v4_in text) BadAddress Ok a.0 a.1 in
    let written = v4_written text b.0 b.1 in
    let d = written.1 in
    let n : b.0 ≡ from_be_bytes w32 (d.a ∷ d.b ∷ d.c ∷ d.d ∷ []) = written.2 ∙ ap (from_be_bytes w32) d.value in
    let same : from_be_bytes w32 (d.a ∷ d.b ∷ d.c ∷ d.d ∷ []) ≡ a.0 = sym n ∙ (cc (b.2)) in
    subst (HasType type.Ipv4) (ap V4 same ∙ sym a.2) (four-bytes d.a d.b d.c d.d d.fit.0 d.fit.1 d.fit.2 d.fit.3)

abbrev AreSegments : List ℕ → Type 0
AreSegments segments = (i : ℕ) → get_or segments i 0 < 65536

none-segments : AreSegments []
none-segments i = lit< tt

more-segments : (s : ℕ) (segments : List ℕ) → s < 65536 → AreSegments segments → AreSegments (s ∷ segments)
more-segments s segments h later zero = h
more-segments s segments h later (suc i) = later i

octets-bytes : (segments : List ℕ) → AreSegments segments → AreBytes (octets_of segments)
octets-bytes [] h i = lit< tt
octets-bytes (s ∷ segments) h zero = let small : s < 65536 = h 0 in omega arith
octets-bytes (s ∷ segments) h (suc zero) = omega arith
octets-bytes (s ∷ segments) h (suc (suc i)) = octets-bytes segments (λ k. h (suc k)) i

-- one to four digits of sixteen
group-small : (group : List ℕ) (s : ℕ) → IsGroup group s → s < 65536
group-small group s h =
    let all : AllDigits 16 group = h.0.0.1 in
    let below : digits_value 16 group < 16 ^ length group = digits_value-lt 16 group all in
    let most : 16 ^ length group ≤ 16 ^ 4 = pow-le-pow_right (lit< tt) h.1 in
    omega (arith, h.0.1)

two-segments : (octets : List ℕ) (text : List ℕ) → IsDotted text octets → AreSegments (segments_of octets)
two-segments octets text d =
    let P : List ℕ → Type 0 = λ o. AreSegments (segments_of o) in
    let high : d.a * 256 + d.b < 65536 = omega arith in
    let low : d.c * 256 + d.d < 65536 = omega arith in
    subst P (sym d.value) (more-segments (d.a * 256 + d.b) ((d.c * 256 + d.d) ∷ []) high (more-segments (d.c * 256 + d.d) [] low none-segments))

groups-segments : (ipv4 : Bool) (lead text segments : List ℕ) → IsGroupsAfter ipv4 lead text segments → AreSegments segments
groups-segments ipv4 lead text [] h = none-segments
groups-segments ipv4 lead text (s ∷ segments) (inl (group, rest, spelled, one, more)) =
    more-segments s segments (group-small group s one) (groups-segments ipv4 (codes ":") rest segments more)
groups-segments ipv4 lead text (s ∷ segments) (inr (last, octets, allowed, spelled, dotted, same)) =
    subst AreSegments (sym same) (two-segments octets last dotted)

join-segments : (front back : List ℕ) → AreSegments front → AreSegments back → AreSegments (front ++ back)
join-segments [] back f b = b
join-segments (s ∷ front) back f b = more-segments s (front ++ back) (f 0) (join-segments front back (λ k. f (suc k)) b)

zero-segments : (n : ℕ) → AreSegments (replicate n 0)
zero-segments zero = none-segments
zero-segments (suc n) = more-segments 0 (replicate n 0) (lit< tt) (zero-segments n)

colon-segments : (text segments : List ℕ) → IsColonHex text segments → AreSegments segments
colon-segments text segments (inl h) = groups-segments true [] text segments h.0
colon-segments text segments (inr h) =
    let front = groups-segments false [] h.head_text h.head h.head_groups in
    let back = groups-segments true [] h.tail_text h.tail h.tail_groups in
    subst AreSegments (sym h.value) (join-segments (h.head ++ replicate (8 - length h.head - length h.tail) 0) h.tail (join-segments h.head (replicate (8 - length h.head - length h.tail) 0) front (zero-segments (8 - length h.head - length h.tail))) back)

v6-typed : (text : List ℕ) (v : Value) → as_value V6 (v6_of text) ≡ Ok v → HasType type.Ipv6 v
v6-typed text v e =
    let a = as_value-ok V6 (v6_of text) v e in
    let b = given-ok (v6_in text) BadAddress Ok a.0 a.1 in
    let written = v6_written text b.0 b.1 in
    let same : from_be_bytes w128 (octets_of written.0) ≡ a.0 = sym written.2 ∙ (cc (b.2)) in
    subst (HasType type.Ipv6) (ap V6 same ∙ sym a.2) (sixteen-bytes (octets_of written.0) (octets-bytes written.0 (colon-segments text written.0 written.1)))

-- identifiers
if-some : {A : Type 0} (test : Bool) (x y : A) → (if test then Some x else None) ≡ Some y → (test ≡ true) × (x ≡ y)
if-some true x y e = (refl, cc)
if-some false x y e = absurd (cc)

if-either : {A : Type 0} (test : Bool) (r s : Option A) (y : A) → (if test then r else s) ≡ Some y → (r ≡ Some y) ⊎ (s ≡ Some y)
if-either true r s y e = inl e
if-either false r s y e = inr e

if-then : {A : Type 0} (test : Bool) (r : Option A) (y : A) → (if test then r else None) ≡ Some y → r ≡ Some y
if-then true r y e = e
if-then false r y e = absurd (cc)

and-both : (a b : Bool) → (a && b) ≡ true → (a ≡ true) × (b ≡ true)
and-both true b e = (refl, e)
and-both false b e = absurd (cc)

digit-small : (c : ℕ) → is_hex_digit c ≡ true → value_of c < 16
digit-small c e = grind (arith, nat_tests)

byte-small : (hex : List ℕ) → length hex ≡ 32 → list_all is_hex_digit hex ≡ true → (i : ℕ) → i < 16 → byte_of_digits hex i < 256
byte-small hex long all i within =
    let at : (k : ℕ) → k < length hex → is_hex_digit (get_or hex k 0) ≡ true = λ k h. All-get_or (λ c. is_hex_digit c ≡ true) hex k 0 h (AllPass-from_list_all is_hex_digit hex all) in
    let high : value_of (get_or hex (2 * i) 0) < 16 = digit-small (get_or hex (2 * i) 0) (at (2 * i) (omega arith)) in
    let low : value_of (get_or hex (2 * i + 1) 0) < 16 = digit-small (get_or hex (2 * i + 1) 0) (at (2 * i + 1) (omega arith)) in
    omega arith

simple-bytes : (hex bytes : List ℕ) → parsed_simple hex ≡ Some bytes → AreBytes bytes
simple-bytes hex bytes e i =
    let h = if-some ((length hex == 32) && list_all is_hex_digit hex) (by_index 16 (byte_of_digits hex)) bytes e in
    let b = and-both (length hex == 32) (list_all is_hex_digit hex) h.0 in
    let P : List ℕ → Type 0 = λ bs. get_or bs i 0 < 256 in
    subst P h.1 (elim (cases_lt i 16) [
      | inl under ↦ rw (by_index_at 16 (byte_of_digits hex) i 0 under) (byte-small hex (eqb-true (length hex) 32 b.0) b.1 i under)
      | inr over ↦ rw (get_or_past (by_index 16 (byte_of_digits hex)) i 0 (rw (by_index_length 16 (byte_of_digits hex)) over)) (lit< tt)
    ])

hyphenated-bytes : (text bytes : List ℕ) → parsed_hyphenated text ≡ Some bytes → AreBytes bytes
hyphenated-bytes text bytes e = simple-bytes (digits_of text) bytes (if-then ((length text == 36) && has_hyphens text) (parsed_simple (digits_of text)) bytes e)

parsed-bytes : (text bytes : List ℕ) → parsed text ≡ Some bytes → AreBytes bytes
parsed-bytes text bytes e = elim (if-either (length text == 32) _ _ bytes e) [
  | inl h ↦ simple-bytes text bytes h
  | inr e1 ↦ elim (if-either (length text == 36) _ _ bytes e1) [
    | inl h ↦ hyphenated-bytes text bytes h
    | inr e2 ↦ elim (if-either (length text == 38) _ _ bytes e2) [
      | inl h ↦ hyphenated-bytes (take 36 (drop 1 text)) bytes (if-then _ _ bytes h)
      | inr e3 ↦ hyphenated-bytes (drop 9 text) bytes (if-then _ _ bytes (if-then _ _ bytes e3))
    ]
  ]
]

id-typed : (text : List ℕ) (v : Value) → as_value Id (id_of text) ≡ Ok v → HasType type.Uuid v
id-typed text v e =
    let a = as_value-ok Id (id_of text) v e in
    let f : List ℕ → Result ℕ BadValue = λ bytes. Ok (from_be_bytes w128 bytes) in
    let b = given-ok (parsed text) BadUuid f a.0 a.1 in
    let same : from_be_bytes w128 b.0 ≡ a.0 = cc (b.2) in
    subst (HasType type.Uuid) (ap Id same ∙ sym a.2) (sixteen-bytes b.0 (parsed-bytes text b.0 b.1))

-- what a text is read as at a type is a value of it
pub read-typed : (t : ColType) (text : List ℕ) (v : Value) → text_reading t text ≡ Ok v → HasType t v
unfolding text_reading
read-typed type.UInt8 text v e = let h = unsigned-typed 8 text v e in subst (HasType type.UInt8) (sym h.1) h.2
read-typed type.UInt16 text v e = let h = unsigned-typed 16 text v e in subst (HasType type.UInt16) (sym h.1) h.2
read-typed type.UInt32 text v e = let h = unsigned-typed 32 text v e in subst (HasType type.UInt32) (sym h.1) h.2
read-typed type.UInt64 text v e = let h = unsigned-typed 64 text v e in subst (HasType type.UInt64) (sym h.1) h.2
read-typed type.Int8 text v e = let h = signed-typed 8 text v e in subst (HasType type.Int8) (sym h.1) h.2
read-typed type.Int16 text v e = let h = signed-typed 16 text v e in subst (HasType type.Int16) (sym h.1) h.2
read-typed type.Int32 text v e = let h = signed-typed 32 text v e in subst (HasType type.Int32) (sym h.1) h.2
read-typed type.Int64 text v e = let h = signed-typed 64 text v e in subst (HasType type.Int64) (sym h.1) h.2
read-typed type.Str text v e = let same : S text ≡ v = cc in subst (HasType type.Str) same tt
read-typed type.Date text v e = day-typed text v e
read-typed type.DateTime text v e = second-typed text v e
read-typed type.Uuid text v e = id-typed text v e
read-typed type.Ipv4 text v e = v4-typed text v e
read-typed type.Ipv6 text v e = v6-typed text v e
read-typed (type.Decimal digits scale) text v e = decimal-typed digits scale text v e
