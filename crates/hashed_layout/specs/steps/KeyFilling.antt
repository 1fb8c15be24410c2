-- A table of the first key lists.
use Rattle.std.specs.Prelude.{◌≡◌, ◌≢◌, ◌-◌, ◌+◌, ◌<◌, ◌≤◌, ◌⊎◌, ℕ, zero, suc, List, [], ◌∷◌, Option, Some, None, drop}
use Rattle.std.specs.Prelude.{length, slice_get, slice_index}
use Rattle.dict_value.specs.FindByKey.{HasKeyAt}
use Rattle.dict_value.specs.declared.value.Value.{Value}
use Rattle.hashed_layout.specs.KeyBytes.{BeginsWithKey}
use Rattle.hashed_layout.specs.KeyTables.{key_held, key_home, number_at, number_below_tag, entry_start, tag_in, tag_of}
use Rattle.hashed_layout.specs.Probing.{IsMet, probed}
use Rattle.hashed_layout.specs.declared.complex.Entry.{Entry}

-- the cell has the key's tag, and the entry of its number the key's bytes
abbrev pub TellsKey : List Entry → List ℕ → List Value → ℕ → Type 0
TellsKey entries bytes key cell =
    (tag_in cell ≡ tag_of key) × (entry : Entry) × (slice_get entries (number_below_tag cell - 1) ≡ Some entry)
    × BeginsWithKey (drop (entry_start entry) bytes) key

-- the cell of the table has another key
abbrev pub Skips : List Entry → List ℕ → List ℕ → List Value → ℕ → Type 0
Skips entries bytes cells key i =
    (i < length cells) × (number_at cells i ≢ 0) × ¬ (TellsKey entries bytes key (slice_index cells i))

-- the probes come to cell i, which is free or has the key, behind cells with other keys
pub record Stops (entries : List Entry) (bytes cells : List ℕ) (key : List Value) (i : ℕ) : Type 0 where
  pub probe : ℕ
  pub near : probe < length cells
  pub at : i ≡ probed (length cells) (key_home (length cells) key) probe
  pub skips : (earlier : ℕ) → earlier < probe
      → Skips entries bytes cells key (probed (length cells) (key_home (length cells) key) earlier)
  pub stops : (number_at cells i ≡ 0) ⊎ TellsKey entries bytes key (slice_index cells i)

-- where the probes of a key end: at a cell, or nowhere where each cell has another key
abbrev pub StopsAt : List Entry → List ℕ → List ℕ → List Value → Option ℕ → Type 0
StopsAt entries bytes cells key None =
    (probe : ℕ) → probe < length cells
    → Skips entries bytes cells key (probed (length cells) (key_home (length cells) key) probe)
StopsAt entries bytes cells key (Some i) = Stops entries bytes cells key i

-- how many numbers are 0
abbrev pub zeros : List ℕ → ℕ
zeros [] = 0
zeros (zero ∷ ns) = zeros ns + 1
zeros (suc n ∷ ns) = zeros ns

-- the place is the least of the first rows with the key
pub record IsLeastOf (keys : List (List Value)) (count : ℕ) (key : List Value) (place : ℕ) : Type 0 where
  pub within : place < count
  pub equal : HasKeyAt keys key place
  pub least : (earlier : ℕ) → earlier < place → ¬ (HasKeyAt keys key earlier)

-- a table of the first rows
pub record IsKeyTableTo (keys : List (List Value)) (count : ℕ) (bytes : List ℕ) (entries : List Entry)
    (cells : List ℕ) : Type 0 where
  pub distinct : List (List Value)
  pub same : length entries ≡ length distinct
  pub few : length entries ≤ count
  pub stored : (n : ℕ) (key : List Value) (entry : Entry) → slice_get distinct n ≡ Some key
      → slice_get entries n ≡ Some entry
      → BeginsWithKey (drop (entry_start entry) bytes) key × IsLeastOf keys count key entry.place
  pub numbered : (i : ℕ) → i < length cells → number_at cells i ≤ length distinct
  pub tagged : (i : ℕ) (key : List Value) → key_held distinct cells i ≡ Some key
      → tag_in (slice_index cells i) ≡ tag_of key
  pub met : (place : ℕ) (key : List Value) → place < count → HasKeyAt keys key place
      → IsMet (length cells) (key_home (length cells) key) (key_held distinct cells) key
  pub room : length cells ≤ zeros cells + count
