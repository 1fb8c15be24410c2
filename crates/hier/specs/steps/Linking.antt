-- What the first rows tell of a member.
use Rattle.std.specs.Prelude.{◌≡◌, ◌≢◌, ◌+◌, ◌<◌, ◌⊎◌, ℕ, List, Some, length, slice_get, slice_index}
use Rattle.hier.specs.declared.hier.Parent.{Parent}
use Rattle.hier.specs.declared.hier.Parent.TheVariants.{Of, Top}

-- the cell of a parent: 0 for none, and else one more than the parent's number
abbrev pub IsUp : List ℕ → Parent → ℕ → Type 0
IsUp members Top cell = cell ≡ 0
IsUp members (Of parent) cell =
    (number : ℕ) × (cell ≡ number + 1) × (number < length members) × (slice_index members number ≡ parent)

-- 0 and no parent where none of the first rows has the member's key, and else one more than the least row with it,
-- and its parent
abbrev pub TellsRow : List ℕ → List Parent → List ℕ → ℕ → ℕ → ℕ → ℕ → Type 0
TellsRow keys parents members count key row up =
    ((row ≡ 0) × (up ≡ 0) × ((place : ℕ) → place < count → slice_index keys place ≢ key))
    ⊎ ((first : ℕ) × (parent : Parent) × (row ≡ first + 1) × (first < count) × (slice_index keys first ≡ key)
    × ((place : ℕ) → place < first → slice_index keys place ≢ key)
    × (slice_get parents first ≡ Some parent) × IsUp members parent up)
