-- What a cell tells of its key and the first rows.
use Rattle.std.specs.Prelude.{◌+◌, ◌<◌, ◌≡◌, ◌≢◌, ◌⊎◌, ℕ, List, slice_index}

-- none of the first rows has the key
abbrev pub NoneBelow : List ℕ → ℕ → ℕ → Type 0
NoneBelow keys count key = (place : ℕ) → place < count → slice_index keys place ≢ key

-- 0 where none of the first rows has the key, and else one more than the least place
abbrev pub CellTells : List ℕ → ℕ → ℕ → ℕ → Type 0
CellTells keys count key cell =
    ((cell ≡ 0) × NoneBelow keys count key)
    ⊎ ((place : ℕ) × (cell ≡ place + 1) × (place < count) × (slice_index keys place ≡ key) × NoneBelow keys place key)
