-- The names of types, and what a token says where a type is wanted.
use Rattle.std.specs.Prelude.{ℕ, Bool, true, false, ◌&&◌, nat_le, if◌then◌else◌, List}
use Rattle.std.specs.Prelude.{codes, Option, Some, None, Result, Ok, Err}
use Rattle.std.specs.Prelude.{unwrap_or}
use Rattle.dict_value.specs.declared.value.AttrType.{AttrType}
use Rattle.dict_value.specs.declared.value.BadValue.{BadValue}
use Rattle.dict_value.specs.declared.value.ColType.{ColType}
use Rattle.dict_value.specs.declared.value.ColType.TheVariants as type
use Rattle.dict_value.specs.Numbers.{unsigned_of}
use Rattle.ddl_tokens.specs.declared.fault.SyntaxFault.{SyntaxFault}
use Rattle.ddl_tokens.specs.declared.fault.SyntaxFault.TheVariants.{Unexpected, Unsupported}
use Rattle.ddl_tokens.specs.declared.letters.LetterCase.TheVariants.{AsWritten}
use Rattle.ddl_tokens.specs.Letters.{same_letters}
use Rattle.ddl_tokens.specs.Tokens.{Token}
use Rattle.ddl_tokens.specs.Reading.{◌>>=◌, is_name, is_number, is_string}
use Rattle.ddl_tokens.specs.Verdicts.{Verdict, stands, falls}
use Rattle.ddl_columns.specs.declared.types.BaseName.{BaseName}
use Rattle.ddl_columns.specs.declared.types.BaseName.TheVariants as base
use Rattle.ddl_columns.specs.declared.types.TypeName.{TypeName}
use Rattle.ddl_columns.specs.declared.types.TypeName.TheVariants as name

-- ---- names, as they are written

abbrev pub reads : List ℕ → List ℕ → Bool
reads word bytes = same_letters AsWritten bytes word

abbrev pub plain_named : ColType → Option TypeName
plain_named t = Some (name.Base (base.Plain t))

unfoldable pub number_named : List ℕ → Option TypeName
number_named bytes =
    if reads (codes "UInt8") bytes then plain_named type.UInt8
    else if reads (codes "UInt16") bytes then plain_named type.UInt16
    else if reads (codes "UInt32") bytes then plain_named type.UInt32
    else if reads (codes "UInt64") bytes then plain_named type.UInt64
    else if reads (codes "Int8") bytes then plain_named type.Int8
    else if reads (codes "Int16") bytes then plain_named type.Int16
    else if reads (codes "Int32") bytes then plain_named type.Int32
    else if reads (codes "Int64") bytes then plain_named type.Int64
    else None

unfoldable pub text_named : List ℕ → Option TypeName
text_named bytes =
    if reads (codes "String") bytes then plain_named type.Str
    else if reads (codes "Date") bytes then plain_named type.Date
    else if reads (codes "DateTime") bytes then Some (name.Base base.DateTime)
    else if reads (codes "UUID") bytes then plain_named type.Uuid
    else if reads (codes "IPv4") bytes then plain_named type.Ipv4
    else if reads (codes "IPv6") bytes then plain_named type.Ipv6
    else None

unfoldable pub decimal_named : List ℕ → Option TypeName
decimal_named bytes =
    if reads (codes "Decimal") bytes then Some (name.Base base.Decimal)
    else if reads (codes "Decimal32") bytes then Some (name.Base (base.Digits 9))
    else if reads (codes "Decimal64") bytes then Some (name.Base (base.Digits 18))
    else if reads (codes "Decimal128") bytes then Some (name.Base (base.Digits 38))
    else if reads (codes "Nullable") bytes then Some name.Nullable
    else None

-- the first of two that there is
abbrev pub or_else : {A : Type 0} → Option A → Option A → Option A
or_else (Some a) other = Some a
or_else None other = other

unfoldable pub type_named : List ℕ → Option TypeName
type_named bytes = or_else (or_else (number_named bytes) (text_named bytes)) (decimal_named bytes)

-- ---- what a token says

-- a name that isn't on the list isn't supported
abbrev pub listed : ℕ → Option TypeName → Result (TypeName × ℕ) SyntaxFault
listed place (Some n) = Ok (n, place)
listed place None = Err (Unsupported place)

-- the name of a type and its place
abbrev pub type_name : Token → Result (TypeName × ℕ) SyntaxFault
type_name t = if is_name t.kind then listed t.place (type_named t.bytes) else Err (Unexpected t.place)

-- Nullable stands in no Nullable
abbrev pub not_nullable : TypeName × ℕ → Result (BaseName × ℕ) SyntaxFault
not_nullable n = elim n.0 [ name.Nullable ↦ Err (Unsupported n.1) | name.Base b ↦ Ok (b, n.1) ]

-- the name of a type in Nullable
abbrev pub base_name : Token → Result (BaseName × ℕ) SyntaxFault
base_name t = type_name t >>= not_nullable

-- the one time zone is the string 'UTC'; another word, number or string isn't supported
abbrev pub zone : Token → Result (Unit {0}) SyntaxFault
zone t =
    if is_string t.kind then (if reads (codes "UTC") t.bytes then Ok (tt {0}) else Err (Unsupported t.place))
    else if is_name t.kind then Err (Unsupported t.place)
    else if is_number t.kind then Err (Unsupported t.place)
    else Err (Unexpected t.place)

-- a whole number of up to 64 bits, with or without a plus sign
abbrev pub whole_of : ℕ → Result ℕ BadValue → Result ℕ SyntaxFault
whole_of place (Ok n) = Ok n
whole_of place (Err fault) = Err (Unexpected place)

abbrev pub whole_number : Token → Result ℕ SyntaxFault
whole_number t = if is_number t.kind then whole_of t.place (unsigned_of 64 t.bytes) else Err (Unexpected t.place)

-- ---- Decimals

-- A Decimal has 1 to 38 digits, and at most as many behind the point; another isn't supported, at its word.
abbrev pub decimal : ℕ → ℕ → ℕ → Verdict ColType
decimal place digits scale =
    if nat_le 1 digits && nat_le digits 38 && nat_le scale digits then stands (type.Decimal digits scale)
    else falls (Unsupported place)

-- without its second number a Decimal has no digits behind the point
abbrev pub or_none : Option ℕ → ℕ
or_none scale = unwrap_or scale 0

-- ---- types

abbrev pub not_null : ColType → AttrType
not_null base = record { base = base; nullable = false }

abbrev pub nullable : ColType → AttrType
nullable base = record { base = base; nullable = true }
