-- The cells so far are bettered.
use Rattle.ip_trie.specs.steps.Growing.{AreBettered}
use Rattle.ip_trie.proofs.build.mark.Given as goal

abbrev pub invariant-loop-at : goal.invariant-loop-at
invariant-loop-at l = AreBettered l.leaves l.row l.start l.at l.initial.cells.items l.cells.items
