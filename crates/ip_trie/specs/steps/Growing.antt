-- How a trie grows by a row.
use Rattle.std.specs.Prelude.{◌≡◌, ◌≢◌, ◌+◌, ◌-◌, ◌<◌, ◌≤◌, ◌⊎◌, ◌++◌, ℕ, Bool, List, length, replicate}
use Rattle.std.specs.Prelude.{slice_index_or, slice_set}
use Rattle.ip_trie.specs.Cells.{blank, next_at, cell_row}
use Rattle.ip_trie.specs.Cells.{IsTrie, leaf_at, node}
use Rattle.ip_trie.specs.declared.cells.Cell.{Cell}
use Rattle.ip_trie.specs.declared.cells.Leaf.{Leaf}

-- the cells below a cell: those that are there, or 16 new ones
abbrev pub GrowsCells : List Cell → ℕ → List Cell → ℕ → Type 0
GrowsCells old at new start =
    ((next_at old at ≢ 0) × (new ≡ old) × (start ≡ next_at old at))
    ⊎ ((next_at old at ≡ 0) × (start ≡ length old)
    × (new ≡ slice_set (old ++ replicate 16 blank) at (record (slice_index_or old at blank) { next = length old })))

-- a cell's row after a better one: where it has none, or a shorter one
abbrev pub IsBettered : List Leaf → ℕ → ℕ → ℕ → Type 0
IsBettered leaves row old new =
    (((old ≡ 0) ⊎ ((leaf_at leaves (old - 1)).len < (leaf_at leaves row).len)) × (new ≡ row + 1))
    ⊎ ((0 < old) × ((leaf_at leaves row).len ≤ (leaf_at leaves (old - 1)).len) × (new ≡ old))

-- the cells from one place on to another have been bettered
pub record AreBettered (leaves : List Leaf) (row start end : ℕ) (old new : List Cell) : Type 0 where
  pub len : length new ≡ length old
  pub nexts : (i : ℕ) → next_at new i ≡ next_at old i
  pub inside : (i : ℕ) → start ≤ i → i < end → IsBettered leaves row (cell_row old i) (cell_row new i)
  pub outside : (i : ℕ) → (i < start) ⊎ (end ≤ i) → cell_row new i ≡ cell_row old i

-- the way of the next row is there up to a level
pub record IsGrown (leaves : List Leaf) (v6 : Bool) (row level start : ℕ) (cells : List Cell) : Type 0 where
  pub trie : IsTrie leaves v6 row cells
  pub here : start ≡ node cells (leaf_at leaves row).bits level
  pub some : start ≢ 0
  pub way : (above : ℕ) → above ≤ level → node cells (leaf_at leaves row).bits above ≢ 0
