use Rattle.std.proofs.Common.{◌≡◌, length}
use Rattle.ddl_clauses.specs.Parts.{clause_of_kind}
use Rattle.ddl_clauses.proofs.parts.clause_of_kind.Given as goal

abbrev pub invariant-loop-rest : goal.invariant-loop-rest
invariant-loop-rest l = clause_of_kind l.kind l.rest ≡ clause_of_kind l.kind l.clauses

abbrev pub decreases-loop-rest : goal.decreases-loop-rest
decreases-loop-rest l = length l.rest
