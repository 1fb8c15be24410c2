-- The row is joined so far.
use Rattle.std.proofs.Common.{◌≡◌, ◌+◌, ◌≤◌, length}
use Rattle.ip_trie.specs.Cells.{leaf_at, node}
use Rattle.ip_trie.proofs.Joined.{AreJoined}
use Rattle.ip_trie.proofs.prune.join_way.Given as goal

abbrev pub invariant-loop-level : goal.invariant-loop-level
invariant-loop-level l = record {
  room : l.start + 16 ≤ length l.cells;
  here : l.start ≡ node l.cells (leaf_at l.leaves l.row).bits l.level;
  joined : AreJoined l.leaves l.v6 l.cells l.row l.level l.below.items;
}
