-- What is written of a value is read as the value again.
use Rattle.std.proofs.Common.{◌≡◌, ◌≢◌, ℕ, ◌<◌, ◌^◌, ◌≤◌, min, decimal, Ok, ℤ, pos, negsuc, refl, ap, arith, lt-ltb, unsigned_abs, true}
use Rattle.dict_value.specs.declared.value.ColType.{ColType}
use Rattle.dict_value.specs.declared.value.ColType.TheVariants as type
use Rattle.dict_value.specs.declared.value.AttrType.{AttrType}
use Rattle.dict_value.specs.declared.value.Value.{Value}
use Rattle.dict_value.specs.declared.value.Value.TheVariants.{U, I, S, Day, Second, Id, V4, V6, Dec, Null}
use Rattle.dict_value.specs.declared.value.BadValue.TheVariants.{NotANumber}
use Rattle.std.proofs.lemmas.Bool.Decides.{nat_tests}
use Rattle.std.specs.Fmt.{signed_decimal}
use Rattle.dict_value.specs.Numbers.{given, below, within, is_within, unsigned_in, signed_in, number_in}
use Rattle.dict_value.specs.Values.{as_value, HasType, FitsColumn, value_text, text_reading}
use Rattle.dict_value.proofs.Digits.{few_digits}
use Rattle.dict_value.proofs.WrittenBytes.{id_again, v4_again, v6_again}
use Rattle.dict_value.proofs.WrittenDates.{date_again, second_again}
use Rattle.dict_value.proofs.WrittenDecimals.{decimal_again}
use Rattle.dict_value.proofs.WrittenNumbers.{unsigned_again, signed_again}

in_bounds : (bound n : ℕ) → n < bound → below bound n ≡ Ok n
in_bounds bound n small = rw (lt-ltb n bound small) refl

-- the magnitude of a number within a bound
magnitude : (bound : ℕ) (z : ℤ) → is_within bound z ≡ true → unsigned_abs z ≤ bound
magnitude bound (pos n) h = grind (arith, nat_tests)
magnitude bound (negsuc n) h = grind (arith, nat_tests)

unsigned : (bound n : ℕ) → n < bound → n < 10 ^ 64 → as_value U (given (unsigned_in (decimal n)) NotANumber (below bound)) ≡ Ok (U n)
unsigned bound n small fits = rw (unsigned_again n fits, in_bounds bound n small) refl

signed : (bound : ℕ) (z : ℤ) → is_within bound z ≡ true → bound < 10 ^ 64 → as_value I (given (signed_in number_in (signed_decimal z)) NotANumber (within bound)) ≡ Ok (I z)
signed bound z inside fits = rw (signed_again z (omega (arith, magnitude bound z inside)), inside) refl

pub read_again : (t : ColType) (v : Value) → HasType t v → text_reading t (value_text t v) ≡ Ok v
unfolding text_reading value_text
read_again type.UInt8 (U n) h = unsigned (2 ^ 8) n h (omega arith)
read_again type.UInt16 (U n) h = unsigned (2 ^ 16) n h (omega arith)
read_again type.UInt32 (U n) h = unsigned (2 ^ 32) n h (omega arith)
read_again type.UInt64 (U n) h = unsigned (2 ^ 64) n h (omega arith)
read_again type.Int8 (I z) h = signed (2 ^ 7) z h (omega arith)
read_again type.Int16 (I z) h = signed (2 ^ 15) z h (omega arith)
read_again type.Int32 (I z) h = signed (2 ^ 31) z h (omega arith)
read_again type.Int64 (I z) h = signed (2 ^ 63) z h (omega arith)
read_again type.Str (S text) h = refl
read_again type.Date (Day n) h = ap (as_value Day) (date_again n h)
read_again type.DateTime (Second n) h = ap (as_value Second) (second_again n h)
read_again type.Uuid (Id n) h = ap (as_value Id) (id_again n h)
read_again type.Ipv4 (V4 n) h = ap (as_value V4) (v4_again n h)
read_again type.Ipv6 (V6 n) h = ap (as_value V6) (v6_again n h)
read_again (type.Decimal digits scale) (Dec z) h =
    rw (decimal_again scale z (omega (arith, few_digits digits)), lt-ltb (unsigned_abs z) (10 ^ min digits 38) h) refl
read_again t v h = absurd h

-- a value of a column that isn't Null has the column's type
pub has_type : (t : AttrType) (v : Value) → FitsColumn t v → v ≢ Null → HasType t.base v
has_type t Null h some = absurd (some refl)
has_type t (U n) h some = h
has_type t (I z) h some = h
has_type t (S text) h some = h
has_type t (Day n) h some = h
has_type t (Second n) h some = h
has_type t (Id n) h some = h
has_type t (V4 n) h some = h
has_type t (V6 n) h some = h
has_type t (Dec z) h some = h
