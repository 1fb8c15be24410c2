-- The way is there so far.
use Rattle.std.proofs.Common.{◌+◌, ◌*◌, ◌≤◌, length}
use Rattle.ip_trie.specs.steps.Growing.{IsGrown}
use Rattle.ip_trie.proofs.build.way.Given as goal

abbrev pub invariant-loop-level : goal.invariant-loop-level
invariant-loop-level l = record {
  grown : IsGrown l.leaves l.v6 l.row l.level l.start l.cells.items;
  room : length l.cells.items ≤ 65552 + 512 * l.row + 16 * l.level;
}
