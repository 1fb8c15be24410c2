-- The number that a key list is hashed to, value by value.
use Rattle.std.specs.Prelude.{◌/◌, ◌%◌, ◌^◌, ℕ, List, [], ◌∷◌, bit_xor}
use Rattle.std.specs.Int.{cast_unsigned, w128, w64}
use Rattle.std.specs.Hash.FoldHasher.{finish, initial, write}
use Rattle.dict_value.specs.declared.value.Value.{Value}
use Rattle.dict_value.specs.declared.value.Value.TheVariants.{U, I, S, Day, Second, Id, V4, V6, Dec, Null}
use Rattle.hashed_layout.specs.Probing.{mixed}
use Rattle.hashed_layout.specs.declared.key_bytes.TheConstants.{NULL_BITS, SEED}

-- 64 bits of a number of 128
abbrev pub folded_bits : ℕ → ℕ
folded_bits n = bit_xor (n % 2 ^ 64) (mixed (n / 2 ^ 64))

-- 64 bits of a text
abbrev pub text_bits : List ℕ → ℕ
text_bits text = finish (write initial text)

-- 64 bits of a value. Its kind isn't told: the values of one column have one, NULL aside.
abbrev pub bits_of : Value → ℕ
bits_of Null = NULL_BITS
bits_of (U n) = n
bits_of (I z) = cast_unsigned w64 z
bits_of (S text) = text_bits text
bits_of (Day n) = n
bits_of (Second n) = n
bits_of (Id n) = folded_bits n
bits_of (V4 n) = n
bits_of (V6 n) = folded_bits n
bits_of (Dec z) = folded_bits (cast_unsigned w128 z)

-- the state after the values
abbrev pub hashed_on : ℕ → List Value → ℕ
hashed_on state [] = state
hashed_on state (v ∷ vs) = hashed_on (mixed (bit_xor state (bits_of v))) vs

-- the number of a key list
unfoldable pub hash_of : List Value → ℕ
hash_of key = hashed_on SEED key
