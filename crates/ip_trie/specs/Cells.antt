-- The cells of a trie of four bits a level, behind a table of the first 16 bits.
use Rattle.std.specs.Prelude.{◌≡◌, ◌≢◌, ◌+◌, ◌-◌, ◌*◌, ◌/◌, ◌%◌, ◌^◌, ◌<◌, ◌≤◌, ◌⊎◌, ◌==◌, ℕ, zero, suc, Bool}
use Rattle.std.specs.Prelude.{true, List, length}
use Rattle.std.specs.Prelude.{slice_index_or, if◌then◌else◌}
use Rattle.dict_value.specs.declared.value.Prefix.{Prefix}
use Rattle.ip_trie.specs.declared.cells.Cell.{Cell}
use Rattle.ip_trie.specs.declared.cells.Leaf.{Leaf}
use Rattle.ip_trie.specs.declared.cells.TheConstants.{TABLE}

-- 128 bits, of which an IPv4 address has the first 32
abbrev pub aligned : Bool → ℕ → ℕ
aligned v6 bits = if v6 then bits else bits * 2 ^ 96

-- a prefix by the first ones of 128 bits
abbrev pub leaf_of : Prefix → Leaf
leaf_of prefix = record { v6 = prefix.v6; bits = aligned prefix.v6 prefix.bits; len = prefix.len }

abbrev pub no_leaf : Leaf
no_leaf = record { v6 = true; bits = 0; len = 0 }

abbrev pub blank : Cell
blank = record { next = 0; row = 0 }

-- where the cells cells_below a cell begin, 0 for none
abbrev pub next_at : List Cell → ℕ → ℕ
next_at cells i = (slice_index_or cells i blank).next

-- one more than the row of a cell, 0 for none
abbrev pub cell_row : List Cell → ℕ → ℕ
cell_row cells i = (slice_index_or cells i blank).row

-- the first ones of 128 bits, so many
abbrev pub top : ℕ → ℕ → ℕ
top count bits = bits / 2 ^ (128 - count)

-- the four bits of a level
abbrev pub digit : ℕ → ℕ → ℕ
digit level bits = bits / 2 ^ (124 - 4 * level) % 16

-- the cells cells_below a cell of the 16 from `start` on
abbrev pub cells_below : List Cell → ℕ → ℕ → ℕ
cells_below cells start digit = if start == 0 then 0 else next_at cells (start + digit)

-- where the 16 cells of a level begin on the way of some bits, 0 where the way ends before
unfoldable pub node : List Cell → ℕ → ℕ → ℕ
node cells bits zero = TABLE
node cells bits (suc level) = cells_below cells (node cells bits level) (digit level bits)

-- the level at whose cells a prefix of this length ends
abbrev pub level_of : ℕ → ℕ
level_of len = (len - 1) / 4

-- a row is of the family
abbrev pub leaf_at : List Leaf → ℕ → Leaf
leaf_at leaves row = slice_index_or leaves row no_leaf

abbrev pub IsOfFamily : List Leaf → Bool → ℕ → Type 0
IsOfFamily leaves v6 row = (row < length leaves) × ((leaf_at leaves row).v6 ≡ v6)

-- the row's prefix is of the family and holds the bits
abbrev pub HasBits : List Leaf → Bool → ℕ → ℕ → Type 0
HasBits leaves v6 bits row =
    IsOfFamily leaves v6 row
    × (top (leaf_at leaves row).len (leaf_at leaves row).bits ≡ top (leaf_at leaves row).len bits)

-- a row is no better than another: shorter, or as long and not before it
abbrev pub IsNoBetter : List Leaf → ℕ → ℕ → Type 0
IsNoBetter leaves row best =
    ((leaf_at leaves row).len < (leaf_at leaves best).len)
    ⊎ (((leaf_at leaves row).len ≡ (leaf_at leaves best).len) × (best ≤ row))

-- 0 where there is no such row, else one more than the best
abbrev pub TellsBest : List Leaf → (ℕ → Type 0) → ℕ → Type 0
TellsBest leaves P cell =
    ((cell ≡ 0) × ((row : ℕ) → ¬ (P row)))
    ⊎ ((best : ℕ) × (cell ≡ best + 1) × P best × ((row : ℕ) → P row → IsNoBetter leaves row best))

-- one of the first rows that has the bits and ends at the level
abbrev pub EndsAtLevel : List Leaf → Bool → ℕ → ℕ → ℕ → ℕ → Type 0
EndsAtLevel leaves v6 count level bits row =
    (row < count) × HasBits leaves v6 bits row × (level_of (leaf_at leaves row).len ≡ level)

-- one that ends above the level
abbrev pub EndsAbove : List Leaf → Bool → ℕ → ℕ → ℕ → Type 0
EndsAbove leaves v6 level bits row = HasBits leaves v6 bits row × (level_of (leaf_at leaves row).len < level)

-- some row of the family is longer and has so many bits in common
abbrev pub Shares : List Leaf → Bool → ℕ → ℕ → Type 0
Shares leaves v6 bits count =
    (row : ℕ) × IsOfFamily leaves v6 row × (count ≤ (leaf_at leaves row).len)
    × (top count (leaf_at leaves row).bits ≡ top count bits)

-- the leaves are prefixes of 128 bits
pub record AreLeaves (leaves : List Leaf) : Type 0 where
  pub len : (row : ℕ) → (leaf_at leaves row).len ≤ 128
  pub small : (row : ℕ) → (leaf_at leaves row).bits < 2 ^ 128
  pub cleared : (row : ℕ) → (leaf_at leaves row).bits % 2 ^ (128 - (leaf_at leaves row).len) ≡ 0

-- The trie of the first rows. Its nodes have 16 cells each; each node is on one way, which a row takes; and each cell
-- on a way tells the best row that ends there.
pub record IsTrie (leaves : List Leaf) (v6 : Bool) (count : ℕ) (cells : List Cell) : Type 0 where
  pub size : TABLE + 16 ≤ length cells
  pub whole : length cells % 16 ≡ 0
  pub nexts : (i : ℕ) → next_at cells i ≢ 0
      → (TABLE ≤ next_at cells i) × (next_at cells i % 16 ≡ 0) × (next_at cells i + 16 ≤ length cells)
  pub rows : (i : ℕ) → cell_row cells i ≤ count
  pub apart : (a b level other : ℕ) → a < 2 ^ 128 → b < 2 ^ 128 → level < 32 → other < 32 → node cells a level ≢ 0
      → node cells a level ≡ node cells b other → (level ≡ other) × (top (4 * level) a ≡ top (4 * level) b)
  pub paths : (row level : ℕ) → row < count → IsOfFamily leaves v6 row → level ≤ level_of (leaf_at leaves row).len
      → node cells (leaf_at leaves row).bits level ≢ 0
  pub used : (bits level : ℕ) → bits < 2 ^ 128 → level < 31 → node cells bits (level + 1) ≢ 0
      → Shares leaves v6 bits (4 * (level + 1))
  pub told : (bits level : ℕ) → bits < 2 ^ 128 → level < 32 → node cells bits level ≢ 0
      → TellsBest leaves (EndsAtLevel leaves v6 count level bits)
      (cell_row cells (node cells bits level + digit level bits))

-- a cell of the table tells what the first four levels do
abbrev pub IsBucket : List Leaf → Bool → List Cell → ℕ → Type 0
IsBucket leaves v6 cells bucket =
    (bits : ℕ) → bits < 2 ^ 128 → top 16 bits ≡ bucket
    → (next_at cells bucket ≡ node cells bits 4) × TellsBest leaves (EndsAbove leaves v6 4 bits) (cell_row cells bucket)

-- The 16 cells cells_below a cell are there.
pub record IsClosed (cells : List Cell) : Type 0 where
  pub nexts : (i : ℕ) → 0 < next_at cells i → next_at cells i + 16 ≤ length cells
