-- The cells so far are cut, and the others as they were.
use Rattle.std.proofs.Common.{◌≡◌, ◌<◌, ◌≤◌, ℕ, get_or, length}
use Rattle.ip_trie.specs.Cells.{blank}
use Rattle.ip_trie.specs.Below.{IsCut, one_below}
use Rattle.ip_trie.proofs.prune.cut_all.Given as goal

abbrev pub invariant-loop-at : goal.invariant-loop-at
invariant-loop-at l = record {
  len : length l.cells.items ≡ length l.initial.cells.items;
  done : (i : ℕ) → i < l.at → IsCut (one_below l.below i) (get_or l.initial.cells.items i blank) (get_or l.cells.items i blank);
  rest : (i : ℕ) → l.at ≤ i → get_or l.cells.items i blank ≡ get_or l.initial.cells.items i blank;
}
