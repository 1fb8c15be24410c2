-- The levels so far are told.
use Rattle.std.proofs.Common.{◌≡◌, ◌≢◌, ◌⊎◌, Bool, ℕ, ◌+◌, ◌≤◌, List, length}
use Rattle.ip_trie.specs.Cells.{AreLeaves, EndsAbove, IsTrie, TellsBest, next_at, node}
use Rattle.ip_trie.specs.declared.cells.Leaf.{Leaf}
use Rattle.ip_trie.proofs.build.scanned.Given as goal

abbrev pub invariant-loop-level : goal.invariant-loop-level
invariant-loop-level l = record {
  room : l.next ≢ 0 → l.next + 16 ≤ length l.cells;
  within : l.next ≢ 0 → (l.next ≡ 65536) ⊎ ((i : ℕ) × (l.next ≡ next_at l.cells i));
  told : (leaves : List Leaf) (v6 : Bool) → AreLeaves leaves → IsTrie leaves v6 (length leaves) l.cells
      → (l.next ≡ node l.cells l.bits l.level) × TellsBest leaves (EndsAbove leaves v6 l.level l.bits) l.row;
}
