-- The rows so far are joined.
use Rattle.ip_trie.specs.Below.{AreBelow}
use Rattle.ip_trie.proofs.prune.rows_below.Given as goal

abbrev pub invariant-loop-row : goal.invariant-loop-row
invariant-loop-row l = AreBelow l.leaves l.v6 l.cells l.row l.below.items
