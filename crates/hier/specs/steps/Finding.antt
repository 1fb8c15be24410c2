-- What a search for members below others appends.
use Rattle.std.specs.Prelude.{◌≡◌, ◌≢◌, ◌↔◌, ◌++◌, ◌<◌, ◌≤◌, ℕ, List, Contains, length, slice_index}
use Rattle.hier.specs.Members.{IsBelow, Reaches}

-- appends all members of which this holds
abbrev pub Adds : (ℕ → Type 0) → List ℕ → List ℕ → Type 0
Adds P old new = (tail : List ℕ) × (new ≡ old ++ tail) × ((other : ℕ) → Contains tail other ↔ P other)

-- the members below one, but for one
abbrev pub AddsBelow : List ℕ → ℕ → ℕ → List ℕ → List ℕ → Type 0
AddsBelow ups member but old new = Adds (λ other. (other ≢ but) × IsBelow ups member other) old new

-- the members below those at places of the old list, but for one
abbrev pub AddsLevel : List ℕ → ℕ → ℕ → ℕ → List ℕ → List ℕ → Type 0
AddsLevel ups start end but old new =
    Adds (λ other. (other ≢ but) × ((place : ℕ) × (start ≤ place) × (place < end)
    × IsBelow ups (slice_index old place) other)) old new

-- the member stands in the list, from a place on
abbrev pub StandsFrom : List ℕ → ℕ → ℕ → Type 0
StandsFrom found start member =
    (place : ℕ) × (start ≤ place) × (place < length found) × (slice_index found place ≡ member)

-- the members below one at so many levels are found; those of the last level stand from a place on
pub record IsSearched (ups : List ℕ) (of levels : ℕ) (found : List ℕ) (start : ℕ) : Type 0 where
  pub within : start ≤ length found
  pub last : (other : ℕ) → StandsFrom found start other ↔ Reaches ups of levels other
  pub all : (other : ℕ) → StandsFrom found 0 other
      ↔ ((level : ℕ) × (0 < level) × (level ≤ levels) × Reaches ups of level other)
