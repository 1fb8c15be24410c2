-- What lies below the cells, and cells with a row in place of a node.
use Rattle.std.specs.Prelude.{◌≡◌, ◌≢◌, ◌+◌, ◌-◌, ◌*◌, ◌%◌, ◌<◌, ◌≤◌, ◌⊎◌, ℕ, Bool, List, length, slice_index_or}
use Rattle.ip_trie.specs.Cells.{IsOfFamily, blank, digit, leaf_at, level_of, next_at, node, cell_row, top}
use Rattle.ip_trie.specs.declared.cells.Below.{Below}
use Rattle.ip_trie.specs.declared.cells.Below.TheVariants as below
use Rattle.ip_trie.specs.declared.cells.Cell.{Cell}
use Rattle.ip_trie.specs.declared.cells.Leaf.{Leaf}
use Rattle.ip_trie.specs.declared.cells.TheConstants.{TABLE}
use Rattle.ip_trie.specs.declared.prune.TheConstants.{MANY}

-- the `next` of a cell below which a row lies alone
abbrev pub next_of_row : ℕ → ℕ
next_of_row row = 16 * row + 1

-- what lies below the cells that have this `next`
abbrev pub IsNextOf : ℕ → Below → Type 0
IsNextOf next below.Nothing = next ≡ 0
IsNextOf next (below.Node start) = (next ≢ 0) × (next % 16 ≢ 1) × (start ≡ next)
IsNextOf next (below.Row row) = next ≡ next_of_row row

-- a row's way goes on below a cell of the table
abbrev pub PassesBucket : List Leaf → ℕ → ℕ → Type 0
PassesBucket leaves row i = (4 ≤ level_of (leaf_at leaves row).len) × (i ≡ top 16 (leaf_at leaves row).bits)

-- a row's way goes on below a cell of a level
abbrev pub PassesCell : List Leaf → List Cell → ℕ → ℕ → ℕ → Type 0
PassesCell leaves cells row i level =
    (4 ≤ level) × (level < level_of (leaf_at leaves row).len)
    × (i ≡ node cells (leaf_at leaves row).bits level + digit level (leaf_at leaves row).bits)

-- a row of the family lies below a cell
abbrev pub LiesBelow : List Leaf → Bool → List Cell → ℕ → ℕ → Type 0
LiesBelow leaves v6 cells i row =
    IsOfFamily leaves v6 row × (PassesBucket leaves row i ⊎ ((level : ℕ) × PassesCell leaves cells row i level))

-- what is said of a cell: 0, one more than the only row below, or that they are many
abbrev pub one_below : List ℕ → ℕ → ℕ
one_below below i = slice_index_or below i 0

-- what is said of a cell allows for a row below it
abbrev pub AllowsFor : List ℕ → ℕ → ℕ → Type 0
AllowsFor below i row = (one_below below i ≡ row + 1) ⊎ (one_below below i ≡ MANY)

-- of the first rows, those that lie below each cell
pub record AreBelow (leaves : List Leaf) (v6 : Bool) (cells : List Cell) (count : ℕ) (below : List ℕ) : Type 0 where
  pub len : length below ≡ length cells
  pub all : (i row : ℕ) → row < count → LiesBelow leaves v6 cells i row → AllowsFor below i row
  pub one : (i row : ℕ) → one_below below i ≡ row + 1 → one_below below i ≢ MANY → LiesBelow leaves v6 cells i row

-- one row more lies below a cell
pub record Joins (at row : ℕ) (old new : List ℕ) : Type 0 where
  pub len : length new ≡ length old
  pub here : AllowsFor new at row
  pub kept : (i other : ℕ) → AllowsFor old i other → AllowsFor new i other
  pub told : (i : ℕ) → (one_below new i ≡ one_below old i) ⊎ (one_below new i ≡ MANY)
      ⊎ ((i ≡ at) × (one_below new i ≡ row + 1))

-- a cell whose node may have given way to the one row below
abbrev pub IsCut : ℕ → Cell → Cell → Type 0
IsCut below old new =
    (new.row ≡ old.row)
    × ((new.next ≡ old.next)
    ⊎ ((below ≢ 0) × (below ≢ MANY) × (old.next ≢ 0) × (new.next ≡ next_of_row (below - 1))))

-- the cells have been cut
pub record AreCut (below : List ℕ) (old new : List Cell) : Type 0 where
  pub len : length new ≡ length old
  pub each : (i : ℕ) → i < length old
      → IsCut (one_below below i) (slice_index_or old i blank) (slice_index_or new i blank)

-- a cell's `next`, or the row that lies below it alone
abbrev pub IsPrunedNext : List Leaf → Bool → List Cell → ℕ → ℕ → Type 0
IsPrunedNext leaves v6 whole i next =
    (next ≡ next_at whole i)
    ⊎ ((row : ℕ) × (next ≡ next_of_row row) × (next_at whole i ≢ 0) × LiesBelow leaves v6 whole i row
    × ((other : ℕ) → LiesBelow leaves v6 whole i other → other ≡ row))

-- the cells of a trie, with rows in place of the nodes below which they lie alone
pub record IsPruned (leaves : List Leaf) (v6 : Bool) (whole cells : List Cell) : Type 0 where
  pub len : length cells ≡ length whole
  pub rows : (i : ℕ) → cell_row cells i ≡ cell_row whole i
  pub nexts : (i : ℕ) → IsPrunedNext leaves v6 whole i (next_at cells i)

-- a search is safe in these cells, among so many leaves
pub record IsSafe (count : ℕ) (cells : List Cell) : Type 0 where
  pub size : length cells ≢ 0 → TABLE + 16 ≤ length cells
  pub nodes : (i : ℕ) → next_at cells i ≢ 0 → next_at cells i % 16 ≢ 1 → next_at cells i + 16 ≤ length cells
  pub rows : (i row : ℕ) → next_at cells i ≡ next_of_row row → row < count

-- the answer after the last row: it, where it holds the bits, else the best so far
abbrev pub IsLastOf : Leaf → ℕ → ℕ → ℕ → ℕ → Type 0
IsLastOf leaf row bits best result =
    ((top leaf.len leaf.bits ≡ top leaf.len bits) × (result ≡ row + 1))
    ⊎ ((top leaf.len leaf.bits ≢ top leaf.len bits) × (result ≡ best))
