-- The bytes of a key list: for each value its kind, how many digits its number has to the base 256, these digits from
-- the lowest on, and its text; and an end mark.
use Rattle.std.specs.Prelude.{◌≡◌, ◌/◌, ◌%◌, ◌==◌, ℕ, zero, suc, List, [], ◌∷◌, ◌++◌, length, if◌then◌else◌, pos}
use Rattle.std.specs.Prelude.{negsuc, unsigned_abs}
use Rattle.dict_value.specs.declared.value.Value.{Value}
use Rattle.dict_value.specs.declared.value.Value.TheVariants.{U, I, S, Day, Second, Id, V4, V6, Dec, Null}
use Rattle.hashed_layout.specs.declared.key_bytes.TheConstants.{END_MARK}

-- which kind of value it is; a number below 0 has a kind of its own
abbrev pub kind_of : Value → ℕ
kind_of Null = 0
kind_of (U n) = 1
kind_of (I (pos n)) = 2
kind_of (I (negsuc n)) = 3
kind_of (S text) = 4
kind_of (Day n) = 5
kind_of (Second n) = 6
kind_of (Id n) = 7
kind_of (V4 n) = 8
kind_of (V6 n) = 9
kind_of (Dec (pos n)) = 10
kind_of (Dec (negsuc n)) = 11

-- its number without a sign, or the length of its text
abbrev pub magnitude_of : Value → ℕ
magnitude_of Null = 0
magnitude_of (U n) = n
magnitude_of (I z) = unsigned_abs z
magnitude_of (S text) = length text
magnitude_of (Day n) = n
magnitude_of (Second n) = n
magnitude_of (Id n) = n
magnitude_of (V4 n) = n
magnitude_of (V6 n) = n
magnitude_of (Dec z) = unsigned_abs z

-- its text
abbrev pub string_of : Value → List ℕ
string_of (S text) = text
string_of v = []

-- at most so many digits of a number to the base 256, from the lowest on
unfoldable pub digits_to : ℕ → ℕ → List ℕ
digits_to zero n = []
digits_to (suc most) n = if n == 0 then [] else n % 256 ∷ digits_to most (n / 256)

-- all of them
abbrev pub digits_of : ℕ → List ℕ
digits_of n = digits_to n n

-- what stands before the text
abbrev pub head_bytes : Value → List ℕ
head_bytes v = kind_of v ∷ length (digits_of (magnitude_of v)) ∷ digits_of (magnitude_of v)

abbrev pub value_bytes : Value → List ℕ
value_bytes v = head_bytes v ++ string_of v

abbrev pub key_bytes : List Value → List ℕ
key_bytes [] = END_MARK ∷ []
key_bytes (v ∷ vs) = value_bytes v ++ key_bytes vs

-- the bytes begin with those of the key
abbrev pub BeginsWithKey : List ℕ → List Value → Type 0
BeginsWithKey bytes key = (rest : List ℕ) × (bytes ≡ key_bytes key ++ rest)
