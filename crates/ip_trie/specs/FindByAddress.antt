-- Find by address: among the rows whose prefix is of the address's family and holds it, the one with the longest
-- prefix, then the least place.
use Rattle.std.specs.Prelude.{◌≡◌, ◌+◌, ◌<◌, ◌≤◌, ◌⊎◌, ℕ, List, Option, Some, None, IsSome, slice_get}
use Rattle.dict_value.specs.Addresses.{first_bits, prefix_in, prefix_of, prefix_width}
use Rattle.dict_value.specs.declared.value.Address.{Address}
use Rattle.dict_value.specs.declared.value.Prefix.{Prefix}
use Rattle.ip_trie.specs.declared.trie.TrieFault.{TrieFault}
use Rattle.ip_trie.specs.declared.trie.TrieFault.TheVariants as fault

-- the row at the place writes the prefix
abbrev pub HasPrefixAt : List (List ℕ) → ℕ → Prefix → Type 0
HasPrefixAt texts place prefix =
    (text : List ℕ) × (slice_get texts place ≡ Some text) × (prefix_in text ≡ Some prefix)

-- a prefix of the address's family holds the address: it is as many first bits of it
abbrev pub HoldsAddress : Prefix → Address → Type 0
HoldsAddress prefix address = prefix_of address prefix.len ≡ prefix

-- the row has the longest prefix that holds the address, and is the first of those
pub record IsLongest (texts : List (List ℕ)) (address : Address) (place : ℕ) : Type 0 where
  pub prefix : Prefix
  pub here : HasPrefixAt texts place prefix
  pub holds : HoldsAddress prefix address
  pub longest : (other : ℕ) (shorter : Prefix) → HasPrefixAt texts other shorter → HoldsAddress shorter address
      → (shorter.len < prefix.len) ⊎ ((shorter.len ≡ prefix.len) × (place ≤ other))

-- what is found by an address: the row with the longest prefix, or none where no prefix holds it
abbrev pub FindsByAddress : List (List ℕ) → Address → Option ℕ → Type 0
FindsByAddress texts address None =
    (place : ℕ) (prefix : Prefix) → HasPrefixAt texts place prefix → ¬ (HoldsAddress prefix address)
FindsByAddress texts address (Some place) = IsLongest texts address place

-- the first bits of a prefix, so many
abbrev pub shortened : Prefix → ℕ → Prefix
shortened prefix count = record prefix { bits = first_bits (prefix_width prefix) count prefix.bits; len = count }

-- A prefix of a row, of the address's family, has so many first bits in common with the address, or the number is 0. So
-- it is at most the greatest number of bits that any prefix has in common with it.
abbrev pub HasInCommon : List (List ℕ) → Address → ℕ → Type 0
HasInCommon texts address count =
    (count ≡ 0)
    ⊎ ((place : ℕ) × (prefix : Prefix) × HasPrefixAt texts place prefix × (count ≤ prefix.len)
    × (prefix_of address count ≡ shortened prefix count))

-- the first text that writes no prefix, counted from 1
pub record IsFirstBad (texts : List (List ℕ)) (row : ℕ) : Type 0 where
  pub place : ℕ
  pub text : List ℕ
  pub counted : row ≡ place + 1
  pub here : slice_get texts place ≡ Some text
  pub bad : prefix_in text ≡ None
  pub before : (earlier : ℕ) (other : List ℕ) → earlier < place → slice_get texts earlier ≡ Some other
      → IsSome (prefix_in other)

-- why a list of texts has no trie, want of memory aside
abbrev pub IsTrieRefused : List (List ℕ) → TrieFault → Type 0
IsTrieRefused texts (fault.BadPrefix row) = IsFirstBad texts row
IsTrieRefused texts fault.NoMemory = ⊥
