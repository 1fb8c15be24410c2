-- The leaves so far.
use Rattle.std.proofs.Common.{◌≡◌, ◌<◌, ℕ, List, Some, length}
use Rattle.std.specs.List.{slice_get}
use Rattle.dict_value.specs.Addresses.{IsPrefix, prefix_in}
use Rattle.dict_value.specs.declared.value.Prefix.{Prefix}
use Rattle.ip_trie.specs.Cells.{AreLeaves, leaf_of}
use Rattle.ip_trie.proofs.build.leaves_of.Given as goal

abbrev pub invariant-loop-row : goal.invariant-loop-row
invariant-loop-row l = record {
  len : length l.leaves.items ≡ l.row;
  each : (place : ℕ) (text : List ℕ) → place < l.row → slice_get l.texts place ≡ Some text
      → (prefix : Prefix) × (prefix_in text ≡ Some prefix) × IsPrefix prefix
      × (slice_get l.leaves.items place ≡ Some (leaf_of prefix));
  sound : AreLeaves l.leaves.items;
}
