use Rattle.std.proofs.Common.{◌≡◌, length}
use Rattle.ddl_tokens.specs.Lists.{has_number}
use Rattle.ddl_clauses.specs.Clauses.{number_of_clause}
use Rattle.ddl_clauses.proofs.reading.has_clause.Given as goal

abbrev pub invariant-loop-rest : goal.invariant-loop-rest
invariant-loop-rest l = has_number number_of_clause l.number l.rest ≡ has_number number_of_clause l.number l.clauses

abbrev pub decreases-loop-rest : goal.decreases-loop-rest
decreases-loop-rest l = length l.rest
