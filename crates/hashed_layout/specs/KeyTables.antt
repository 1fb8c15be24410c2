-- What the table of a list of key lists keeps.
use Rattle.std.specs.Prelude.{◌≡◌, ◌-◌, ◌+◌, ◌*◌, ◌/◌, ◌%◌, ◌^◌, ◌==◌, ◌<◌, ◌≤◌, ℕ, List, Option, Some, None}
use Rattle.std.specs.Prelude.{drop, length, slice_get, slice_index, if◌then◌else◌}
use Rattle.dict_value.specs.FindByKey.{HasKeyAt, IsLeastPlace}
use Rattle.dict_value.specs.declared.value.Value.{Value}
use Rattle.hashed_layout.specs.KeyBytes.{BeginsWithKey}
use Rattle.hashed_layout.specs.KeyHash.{hash_of}
use Rattle.hashed_layout.specs.Probing.{IsMet, part_of}
use Rattle.hashed_layout.specs.declared.complex.Entry.{Entry}

-- where the probes of a key begin
unfoldable pub key_home : ℕ → List Value → ℕ
key_home size key = part_of size (hash_of key / 2 ^ 32)

-- where the bytes of an entry's key begin
abbrev pub entry_start : Entry → ℕ
entry_start entry = entry.high * 2 ^ 32 + entry.low

-- the number in a cell
abbrev pub number_below_tag : ℕ → ℕ
number_below_tag cell = cell % 2 ^ 23

-- the tag above it
abbrev pub tag_in : ℕ → ℕ
tag_in cell = cell / 2 ^ 23

-- the tag of a key: nine bits of its hash, none of those that its home is taken from
abbrev pub tag_of : List Value → ℕ
tag_of key = hash_of key % 2 ^ 32 / 2 ^ 23

-- the number in the cell at a place of the table
abbrev pub number_at : List ℕ → ℕ → ℕ
number_at cells i = number_below_tag (slice_index cells i)

-- the key that a cell holds: 0 is free, and every other number one more than a key's
abbrev pub key_held : List (List Value) → List ℕ → ℕ → Option (List Value)
key_held distinct cells i = if number_at cells i == 0 then None else slice_get distinct (number_at cells i - 1)

-- The distinct keys, each with its bytes and its least place; each cell's number is one of them, and its tag that of
-- this key; and each key is met by its probes.
pub record IsKeyTableOf (keys : List (List Value)) (bytes : List ℕ) (entries : List Entry)
    (cells : List ℕ) : Type 0 where
  pub distinct : List (List Value)
  pub count : length entries ≡ length distinct
  pub stored : (n : ℕ) (key : List Value) (entry : Entry) → slice_get distinct n ≡ Some key
      → slice_get entries n ≡ Some entry
      → BeginsWithKey (drop (entry_start entry) bytes) key × IsLeastPlace keys key entry.place
  pub numbered : (i : ℕ) → i < length cells → number_at cells i ≤ length distinct
  pub tagged : (i : ℕ) (key : List Value) → key_held distinct cells i ≡ Some key
      → tag_in (slice_index cells i) ≡ tag_of key
  pub met : (place : ℕ) (key : List Value) → HasKeyAt keys key place
      → IsMet (length cells) (key_home (length cells) key) (key_held distinct cells) key
