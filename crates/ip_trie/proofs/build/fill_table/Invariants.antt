-- The buckets so far are filled, and the trie is as it was.
use Rattle.std.proofs.Common.{◌≡◌, Bool, ℕ, ◌<◌, List, length}
use Rattle.ip_trie.specs.Cells.{AreLeaves, IsClosed, IsBucket, IsTrie}
use Rattle.ip_trie.specs.declared.cells.Leaf.{Leaf}
use Rattle.ip_trie.proofs.build.fill_table.Given as goal

abbrev pub invariant-loop-bucket : goal.invariant-loop-bucket
invariant-loop-bucket l = record {
  len : length l.cells.items ≡ length l.initial.cells.items;
  closed : IsClosed l.cells.items;
  trie : (leaves : List Leaf) (v6 : Bool) → AreLeaves leaves → IsTrie leaves v6 (length leaves) l.initial.cells.items
      → IsTrie leaves v6 (length leaves) l.cells.items;
  buckets : (leaves : List Leaf) (v6 : Bool) → AreLeaves leaves → IsTrie leaves v6 (length leaves) l.initial.cells.items
      → (bucket : ℕ) → bucket < l.bucket → IsBucket leaves v6 l.cells.items bucket;
}
