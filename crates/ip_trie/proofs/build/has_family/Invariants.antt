-- The leaves so far are of the other family.
use Rattle.std.proofs.Common.{◌≢◌, ◌<◌, ℕ}
use Rattle.ip_trie.specs.Cells.{leaf_at}
use Rattle.ip_trie.proofs.build.has_family.Given as goal

abbrev pub invariant-loop-leaf : goal.invariant-loop-leaf
invariant-loop-leaf l = (row : ℕ) → row < l.leaf-index → (leaf_at l.leaves row).v6 ≢ l.v6
