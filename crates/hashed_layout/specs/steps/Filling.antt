-- A table of the first rows.
use Rattle.std.specs.Prelude.{◌≡◌, ◌≢◌, ◌+◌, ◌-◌, ◌<◌, ◌≤◌, ◌==◌, ◌⊎◌, ℕ, List, [], ◌∷◌, Option, Some, None, length}
use Rattle.std.specs.Prelude.{slice_get, slice_index, if◌then◌else◌}
use Rattle.hashed_layout.specs.Probing.{IsMet, home_of, probed}
use Rattle.hashed_layout.specs.Tables.{held, key_of}
use Rattle.hashed_layout.specs.declared.hashed.Cell.{Cell}

-- the probe meets another key
abbrev pub Passes : {K : Type 0} → ℕ → ℕ → (ℕ → Option K) → K → ℕ → Type 0
Passes {K} size home held key probe = (other : K) × (held (probed size home probe) ≡ Some other) × (other ≢ key)

-- the probes come to cell i, which is free or holds the key, behind cells with other keys
pub record Lands {K : Type 0} (size home : ℕ) (held : ℕ → Option K) (key : K) (i : ℕ) : Type 0 where
  pub probe : ℕ
  pub near : probe < size
  pub at : i ≡ probed size home probe
  pub passes : (earlier : ℕ) → earlier < probe → Passes size home held key earlier
  pub stops : (held i ≡ None) ⊎ (held i ≡ Some key)

-- where the probes of a key end: at a cell, or nowhere where each cell has another key
abbrev pub ProbesEndAt : {K : Type 0} → ℕ → ℕ → (ℕ → Option K) → K → Option ℕ → Type 0
ProbesEndAt size home held key None = (probe : ℕ) → probe < size → Passes size home held key probe
ProbesEndAt size home held key (Some i) = Lands size home held key i

-- how many cells are free
abbrev pub free_cells : List Cell → ℕ
free_cells [] = 0
free_cells (cell ∷ cells) = (if cell.next == 0 then 1 else 0) + free_cells cells

-- the place is the least of the first rows with the key
pub record IsLeastBelow (keys : List ℕ) (count key place : ℕ) : Type 0 where
  pub within : place < count
  pub equal : slice_index keys place ≡ key
  pub least : (earlier : ℕ) → earlier < place → slice_index keys earlier ≢ key

-- a table of the first rows
pub record IsTableTo (keys : List ℕ) (count : ℕ) (cells : List Cell) : Type 0 where
  pub least : (i : ℕ) (cell : Cell) → slice_get cells i ≡ Some cell → 0 < cell.next
      → IsLeastBelow keys count (key_of cell) (cell.next - 1)
  pub met : (place : ℕ) → place < count
      → IsMet (length cells) (home_of (length cells) (slice_index keys place)) (held cells) (slice_index keys place)
  pub room : length cells ≤ free_cells cells + count
