-- The best row, or none.
use Rattle.ip_trie.proofs.trie.Trie.find.Goals as goal

pub returns-then-best-eq0-clause-found : goal.returns-then-best-eq0-clause-found
returns-then-best-eq0-clause-found g c = λ texts are. c.best_for-best.ensures.none texts are c.if-best-eq0.true
