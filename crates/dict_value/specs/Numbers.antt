-- Whole numbers: the ClickHouse documentation's UInt8 to UInt64 and Int8 to Int64, in this profile.
use Rattle.std.specs.Prelude.{ℕ, ◌-◌, ◌^◌, Bool, ◌&&◌, nat_lt, if◌then◌else◌, List, length, Option, Some, None, Result}
use Rattle.std.specs.Prelude.{Ok, Err, ℤ, pos, negsuc, neg_ℤ}
use Rattle.std.specs.Option.{option_map}
use Rattle.std.specs.Str.{all_ascii_digits}
use Rattle.std.specs.Str.Parse.{digits_value, without_leading_plus, without_leading_sign, starts_with_minus}
use Rattle.dict_value.specs.declared.value.BadValue.{BadValue}
use Rattle.dict_value.specs.declared.value.BadValue.TheVariants.{NotANumber, OutOfRange}

-- one digit from 0 to 9 or more, and nothing else
abbrev pub is_numeral : List ℕ → Bool
is_numeral text = nat_lt 0 (length text) && all_ascii_digits text

-- the number that digits alone write
abbrev pub number_in : List ℕ → Option ℕ
number_in text = if is_numeral text then Some (digits_value 10 text) else None

-- the same behind an optional plus sign
abbrev pub unsigned_in : List ℕ → Option ℕ
unsigned_in text = number_in (without_leading_plus text)

-- what magnitude reads, behind an optional sign
abbrev pub signed_in : (List ℕ → Option ℕ) → List ℕ → Option ℤ
signed_in magnitude text =
    option_map (λ n. if starts_with_minus text then neg_ℤ (pos n) else pos n)
    (magnitude (without_leading_sign text))

-- what a text of the form gives, or the fault of one that hasn't the form
abbrev pub given : {A B : Type 0} → Option A → BadValue → (A → Result B BadValue) → Result B BadValue
given None fault f = Err fault
given (Some x) fault f = f x

-- a number below the bound
abbrev pub below : ℕ → ℕ → Result ℕ BadValue
below bound n = if nat_lt n bound then Ok n else Err OutOfRange

-- the number of an unsigned type of so many bits
abbrev pub unsigned_of : ℕ → List ℕ → Result ℕ BadValue
unsigned_of bits text = given (unsigned_in text) NotANumber (below (2 ^ bits))

-- whether a number is from minus the bound to the bound, the latter excluded; negsuc n is -(n + 1)
abbrev pub is_within : ℕ → ℤ → Bool
is_within bound (pos n) = nat_lt n bound
is_within bound (negsuc n) = nat_lt n bound

abbrev pub within : ℕ → ℤ → Result ℤ BadValue
within bound z = if is_within bound z then Ok z else Err OutOfRange

-- the number of a signed type of so many bits
abbrev pub signed_of : ℕ → List ℕ → Result ℤ BadValue
signed_of bits text = given (signed_in number_in text) NotANumber (within (2 ^ (bits - 1)))
