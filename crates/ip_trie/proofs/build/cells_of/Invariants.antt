-- A trie of the rows so far.
use Rattle.std.proofs.Common.{◌+◌, ◌*◌, ◌≤◌, length}
use Rattle.ip_trie.specs.Cells.{IsTrie}
use Rattle.ip_trie.proofs.build.cells_of.Given as goal

abbrev pub invariant-loop-row : goal.invariant-loop-row
invariant-loop-row l = record {
  trie : IsTrie l.leaves l.v6 l.row l.cells.items;
  room : length l.cells.items ≤ 65552 + 512 * l.row;
}
