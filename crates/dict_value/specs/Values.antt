-- What each type reads and writes: the values of the ClickHouse documentation's types, in this profile.
use Rattle.std.specs.Prelude.{◌≡◌, ◌≢◌, ℕ, ◌^◌, ◌<◌, IsTrue, if◌then◌else◌, List, [], Result, Ok, Err, pos, decimal}
use Rattle.std.specs.Prelude.{unsigned_abs, min}
use Rattle.std.specs.Fmt.{signed_decimal}
use Rattle.dict_value.specs.declared.value.ColType.{ColType}
use Rattle.dict_value.specs.declared.value.ColType.TheVariants as type
use Rattle.dict_value.specs.declared.value.AttrType.{AttrType}
use Rattle.dict_value.specs.declared.value.Field.{Field}
use Rattle.dict_value.specs.declared.value.Field.TheVariants as field
use Rattle.dict_value.specs.declared.value.Value.{Value}
use Rattle.dict_value.specs.declared.value.Value.TheVariants.{U, I, S, Day, Second, Id, V4, V6, Dec, Null}
use Rattle.dict_value.specs.declared.value.BadValue.{BadValue}
use Rattle.dict_value.specs.declared.value.BadValue.TheVariants.{NullNotAllowed}
use Rattle.dict_value.specs.declared.decimals.TheConstants.{DECIMAL_DIGITS}
use Rattle.dict_value.specs.Numbers.{unsigned_of, signed_of, is_within}
use Rattle.dict_value.specs.Decimals.{decimal_of, decimal_text}
use Rattle.dict_value.specs.Dates.{date_of, second_of, day_text, second_text}
use Rattle.dict_value.specs.Identifiers.{id_of, id_text}
use Rattle.dict_value.specs.Addresses.{v4_of, v6_of, v4_text, v6_text}

-- the value that a number or a text is
abbrev pub as_value : {A : Type 0} → (A → Value) → Result A BadValue → Result Value BadValue
as_value f (Ok x) = Ok (f x)
as_value f (Err fault) = Err fault

-- the value that a text has at a type, or its fault
unfoldable pub text_reading : ColType → List ℕ → Result Value BadValue
text_reading type.UInt8 text = as_value U (unsigned_of 8 text)
text_reading type.UInt16 text = as_value U (unsigned_of 16 text)
text_reading type.UInt32 text = as_value U (unsigned_of 32 text)
text_reading type.UInt64 text = as_value U (unsigned_of 64 text)
text_reading type.Int8 text = as_value I (signed_of 8 text)
text_reading type.Int16 text = as_value I (signed_of 16 text)
text_reading type.Int32 text = as_value I (signed_of 32 text)
text_reading type.Int64 text = as_value I (signed_of 64 text)
text_reading type.Str text = Ok (S text)
text_reading type.Date text = as_value Day (date_of text)
text_reading type.DateTime text = as_value Second (second_of text)
text_reading type.Uuid text = as_value Id (id_of text)
text_reading type.Ipv4 text = as_value V4 (v4_of text)
text_reading type.Ipv6 text = as_value V6 (v6_of text)
text_reading (type.Decimal digits scale) text = as_value Dec (decimal_of digits scale text)

-- the value of a field, or its fault
abbrev pub reading : AttrType → Field → Result Value BadValue
reading t field.Null = if t.nullable then Ok Null else Err NullNotAllowed
reading t (field.Text text) = text_reading t.base text

-- the text of a String, which takes memory; that of no bytes takes none
abbrev pub IsStringText : ColType → List ℕ → Type 0
IsStringText t text = (t ≡ type.Str) × (text ≢ [])

-- the same of a field; NULL takes no memory
abbrev pub IsStringField : AttrType → Field → Type 0
IsStringField t field.Null = ⊥
IsStringField t (field.Text text) = IsStringText t.base text

-- the same of a value
abbrev pub IsStringValue : Value → Type 0
IsStringValue (S text) = text ≢ []
IsStringValue v = ⊥

-- a value of a type, Null aside
abbrev pub HasType : ColType → Value → Type 0
HasType type.UInt8 (U n) = n < 2 ^ 8
HasType type.UInt16 (U n) = n < 2 ^ 16
HasType type.UInt32 (U n) = n < 2 ^ 32
HasType type.UInt64 (U n) = n < 2 ^ 64
HasType type.Int8 (I z) = IsTrue (is_within (2 ^ 7) z)
HasType type.Int16 (I z) = IsTrue (is_within (2 ^ 15) z)
HasType type.Int32 (I z) = IsTrue (is_within (2 ^ 31) z)
HasType type.Int64 (I z) = IsTrue (is_within (2 ^ 63) z)
HasType type.Str (S text) = Unit {0}
HasType type.Date (Day n) = n < 2 ^ 16
HasType type.DateTime (Second n) = n < 2 ^ 32
HasType type.Uuid (Id n) = n < 2 ^ 128
HasType type.Ipv4 (V4 n) = n < 2 ^ 32
HasType type.Ipv6 (V6 n) = n < 2 ^ 128
HasType (type.Decimal digits scale) (Dec z) = unsigned_abs z < 10 ^ min digits DECIMAL_DIGITS
HasType t v = ⊥

-- a value of a column: one of its type, or Null where that is allowed
abbrev pub FitsColumn : AttrType → Value → Type 0
FitsColumn t Null = IsTrue t.nullable
FitsColumn t v = HasType t.base v

-- the scale of a Decimal
abbrev pub scale_of : ColType → ℕ
scale_of (type.Decimal digits scale) = scale
scale_of t = 0

-- the one text of a value
unfoldable pub value_text : ColType → Value → List ℕ
value_text t (U n) = decimal n
value_text t (I z) = signed_decimal z
value_text t (S text) = text
value_text t (Day n) = day_text n
value_text t (Second n) = second_text n
value_text t (Id n) = id_text n
value_text t (V4 n) = v4_text n
value_text t (V6 n) = v6_text n
value_text t (Dec z) = decimal_text (scale_of t) z
value_text t Null = []

-- what stands where no value is given
abbrev pub default_value : ColType → Value
default_value type.UInt8 = U 0
default_value type.UInt16 = U 0
default_value type.UInt32 = U 0
default_value type.UInt64 = U 0
default_value type.Int8 = I (pos 0)
default_value type.Int16 = I (pos 0)
default_value type.Int32 = I (pos 0)
default_value type.Int64 = I (pos 0)
default_value type.Str = S []
default_value type.Date = Day 0
default_value type.DateTime = Second 0
default_value type.Uuid = Id 0
default_value type.Ipv4 = V4 0
default_value type.Ipv6 = V6 0
default_value (type.Decimal digits scale) = Dec (pos 0)

abbrev pub default_of_column : AttrType → Value
default_of_column t = if t.nullable then Null else default_value t.base
