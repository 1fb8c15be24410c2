-- What is kept of a list of texts.
use Rattle.std.specs.Prelude.{◌≡◌, ◌<◌, ◌⊎◌, ℕ, Bool, true, false, List, [], Some, length, slice_get}
use Rattle.dict_value.specs.Addresses.{IsPrefix, prefix_in}
use Rattle.dict_value.specs.declared.value.Prefix.{Prefix}
use Rattle.ip_trie.specs.Below.{IsPruned}
use Rattle.ip_trie.specs.Cells.{AreLeaves, IsOfFamily, IsBucket, IsTrie, leaf_of}
use Rattle.ip_trie.specs.declared.cells.Cell.{Cell}
use Rattle.ip_trie.specs.declared.cells.Leaf.{Leaf}
use Rattle.ip_trie.specs.declared.cells.TheConstants.{TABLE}

-- the leaf of each text's prefix
pub record AreLeavesOf (texts : List (List ℕ)) (leaves : List Leaf) : Type 0 where
  pub len : length leaves ≡ length texts
  pub each : (place : ℕ) (text : List ℕ) → slice_get texts place ≡ Some text
      → (prefix : Prefix) × (prefix_in text ≡ Some prefix) × IsPrefix prefix
      × (slice_get leaves place ≡ Some (leaf_of prefix))

-- the table and the trie of all rows of a family
pub record IsWholeTrie (leaves : List Leaf) (v6 : Bool) (cells : List Cell) : Type 0 where
  pub trie : IsTrie leaves v6 (length leaves) cells
  pub table : (bucket : ℕ) → bucket < TABLE → IsBucket leaves v6 cells bucket

-- the cells of a family: none where it has no row, else those of its trie, with rows in place of nodes
abbrev pub AreTrieCells : List Leaf → Bool → List Cell → Type 0
AreTrieCells leaves v6 cells =
    ((cells ≡ []) × ((row : ℕ) → ¬ (IsOfFamily leaves v6 row)))
    ⊎ ((whole : List Cell) × IsWholeTrie leaves v6 whole × IsPruned leaves v6 whole cells)

-- the cells of both families, and the leaves
pub record AreTriesOf (texts : List (List ℕ)) (short long : List Cell) (leaves : List Leaf) : Type 0 where
  pub read : AreLeavesOf texts leaves
  pub sound : AreLeaves leaves
  pub v4 : AreTrieCells leaves false short
  pub v6 : AreTrieCells leaves true long
