-- No reading is want of memory.
use Rattle.std.proofs.Common.{◌≡◌, ◌≢◌, ◌^◌, ◌-◌, ℕ, Bool, true, false, List, Option, Some, None, Result, Ok, Err, ap}
use Rattle.std.specs.Prelude.{ℤ, pos, negsuc, nat_lt, if◌then◌else◌, unsigned_abs, min}
use Rattle.std.specs.Int.{w128, from_be_bytes}
use Rattle.uuid.specs.Text.{parsed}
use Rattle.dict_value.specs.Addresses.{v4_in, v6_in}
use Rattle.dict_value.specs.Dates.{day_in, from_zero_below, second_in}
use Rattle.dict_value.specs.Decimals.{scaled_in}
use Rattle.dict_value.specs.Numbers.{below, given, is_within, number_in, signed_in, unsigned_in, within}
use Rattle.dict_value.specs.Values.{as_value, reading, text_reading}
use Rattle.dict_value.specs.declared.decimals.TheConstants.{DECIMAL_DIGITS}
use Rattle.dict_value.specs.declared.value.AttrType.{AttrType}
use Rattle.dict_value.specs.declared.value.BadValue.{BadValue}
use Rattle.dict_value.specs.declared.value.BadValue.TheVariants.{BadAddress, BadDate, BadDecimal, BadUuid, NoMemory, NotANumber, OutOfRange}
use Rattle.dict_value.specs.declared.value.ColType.{ColType}
use Rattle.dict_value.specs.declared.value.ColType.TheVariants as type
use Rattle.dict_value.specs.declared.value.Field.{Field}
use Rattle.dict_value.specs.declared.value.Field.TheVariants as field
use Rattle.dict_value.specs.declared.value.Value.{Value}
use Rattle.dict_value.specs.declared.value.Value.TheVariants.{U, I, Day, Second, Id, V4, V6, Dec}

-- what has the form, or the fault of what hasn't
given-has : {A B : Type 0} (o : Option A) (bad : BadValue) (f : A → Result B BadValue) → bad ≢ NoMemory → ((x : A) → f x ≢ Err NoMemory) → given o bad f ≢ Err NoMemory
given-has None bad f other h e = other (cc)
given-has (Some x) bad f other h e = h x e

value-has : {A : Type 0} (f : A → Value) (r : Result A BadValue) → r ≢ Err NoMemory → as_value f r ≢ Err NoMemory
value-has f (Ok x) h e = absurd (cc)
value-has f (Err bad) h e = let same : bad ≡ NoMemory = cc in h (ap Err same)

ranged-has : {A : Type 0} (test : Bool) (x : A) → ◌≢◌ {A = Result A BadValue} (if test then Ok x else Err OutOfRange) (Err NoMemory)
ranged-has true x e = absurd (cc)
ranged-has false x e = absurd (cc)

below-has : (bound n : ℕ) → below bound n ≢ Err NoMemory
below-has bound n = ranged-has (nat_lt n bound) n

within-has : (bound : ℕ) (z : ℤ) → within bound z ≢ Err NoMemory
within-has bound z = ranged-has (is_within bound z) z

from_zero-has : (bound : ℕ) (z : ℤ) → from_zero_below bound z ≢ Err NoMemory
from_zero-has bound (pos n) = below-has bound n
from_zero-has bound (negsuc n) = λ e. absurd (cc)

unsigned-has : (bits : ℕ) (text : List ℕ) → as_value U (given (unsigned_in text) NotANumber (below (2 ^ bits))) ≢ Err NoMemory
unsigned-has bits text = value-has U _ (given-has (unsigned_in text) NotANumber (below (2 ^ bits)) (λ e. absurd (cc)) (below-has (2 ^ bits)))

signed-has : (bits : ℕ) (text : List ℕ) → as_value I (given (signed_in number_in text) NotANumber (within (2 ^ (bits - 1)))) ≢ Err NoMemory
signed-has bits text = value-has I _ (given-has (signed_in number_in text) NotANumber (within (2 ^ (bits - 1))) (λ e. absurd (cc)) (within-has (2 ^ (bits - 1))))

address-has : {A : Type 0} (f : A → Value) (o : Option A) → as_value f (given o BadAddress Ok) ≢ Err NoMemory
address-has f o = value-has f _ (given-has o BadAddress Ok (λ e. absurd (cc)) (λ x e. absurd (cc)))

pub text_has_memory : (t : ColType) (text : List ℕ) → text_reading t text ≢ Err NoMemory
unfolding text_reading
text_has_memory type.UInt8 text = unsigned-has 8 text
text_has_memory type.UInt16 text = unsigned-has 16 text
text_has_memory type.UInt32 text = unsigned-has 32 text
text_has_memory type.UInt64 text = unsigned-has 64 text
text_has_memory type.Int8 text = signed-has 8 text
text_has_memory type.Int16 text = signed-has 16 text
text_has_memory type.Int32 text = signed-has 32 text
text_has_memory type.Int64 text = signed-has 64 text
text_has_memory type.Str text = λ e. absurd (cc)
text_has_memory type.Date text = value-has Day _ (given-has (day_in text) BadDate (from_zero_below (2 ^ 16)) (λ e. absurd (cc)) (from_zero-has (2 ^ 16)))
text_has_memory type.DateTime text = value-has Second _ (given-has (second_in text) BadDate (from_zero_below (2 ^ 32)) (λ e. absurd (cc)) (from_zero-has (2 ^ 32)))
text_has_memory type.Uuid text = value-has Id _ (given-has (parsed text) BadUuid (λ bytes. Ok (from_be_bytes w128 bytes)) (λ e. absurd (cc)) (λ x e. absurd (cc)))
text_has_memory type.Ipv4 text = address-has V4 (v4_in text)
text_has_memory type.Ipv6 text = address-has V6 (v6_in text)
text_has_memory (type.Decimal digits scale) text =
    value-has Dec _ (given-has (signed_in (scaled_in scale) text) BadDecimal (λ z. if nat_lt (unsigned_abs z) (10 ^ min digits DECIMAL_DIGITS) then Ok z else Err OutOfRange) (λ e. absurd (cc)) (λ z. ranged-has (nat_lt (unsigned_abs z) (10 ^ min digits DECIMAL_DIGITS)) z))

null-has : (nullable : Bool) → reading (record { base = type.Str; nullable = nullable }) field.Null ≢ Err NoMemory
null-has true e = absurd (cc)
null-has false e = absurd (cc)

pub reading_has_memory : (t : AttrType) (seen : Field) → reading t seen ≢ Err NoMemory
reading_has_memory t field.Null = null-has t.nullable
reading_has_memory t (field.Text text) = text_has_memory t.base text
