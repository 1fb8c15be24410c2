use Rattle.std.proofs.Common.{◌≡◌, length}
use Rattle.ddl_tokens.specs.Lists.{has_number}
use Rattle.ddl_tokens_example.specs.Grammar.{number}
use Rattle.ddl_tokens_example.proofs.reading.has_clause.Given as goal

abbrev pub invariant-loop-rest : goal.invariant-loop-rest
invariant-loop-rest l = has_number number l.wanted l.rest ≡ has_number number l.wanted l.clauses

abbrev pub decreases-loop-rest : goal.decreases-loop-rest
decreases-loop-rest l = length l.rest
