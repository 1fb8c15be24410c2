-- The levels so far are told, each for a step.
use Rattle.std.proofs.Common.{◌≡◌, ◌≢◌, ◌⊎◌, Bool, ℕ, ◌+◌, ◌-◌, ◌*◌, ◌%◌, ◌<◌, ◌≤◌, List, length}
use Rattle.ip_trie.specs.Below.{IsPruned, next_of_row}
use Rattle.ip_trie.specs.Cells.{EndsAbove, Shares, TellsBest}
use Rattle.ip_trie.specs.Kept.{IsWholeTrie}
use Rattle.ip_trie.specs.declared.cells.Cell.{Cell}
use Rattle.ip_trie.proofs.Pruned.{Follows}
use Rattle.ip_trie.proofs.trie.found_in.Given as goal

abbrev pub invariant-loop-level : goal.invariant-loop-level
invariant-loop-level g l = record {
  nodes : l.cell.next ≢ 0 → l.cell.next % 16 ≢ 1 → l.cell.next + 16 ≤ length l.cells;
  rows : (row : ℕ) → l.cell.next ≡ next_of_row row → row < length l.leaves;
  told : (v6 : Bool) (whole : List Cell) → IsWholeTrie l.leaves v6 whole → IsPruned l.leaves v6 whole l.cells
      → Follows l.leaves v6 whole l.bits l.level l.cell.next × TellsBest l.leaves (EndsAbove l.leaves v6 l.level l.bits) l.best;
  steps : g.S.Counter.amount l.steps ≤ g.S.Counter.amount l.fn.steps + (l.level - 3);
  shares : (v6 : Bool) (whole : List Cell) → IsWholeTrie l.leaves v6 whole → IsPruned l.leaves v6 whole l.cells
      → (l.level ≡ 4) ⊎ Shares l.leaves v6 l.bits (4 * (l.level - 1));
}
