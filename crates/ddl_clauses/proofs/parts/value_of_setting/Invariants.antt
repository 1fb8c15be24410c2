use Rattle.std.proofs.Common.{◌≡◌, length}
use Rattle.ddl_clauses.specs.Parts.{value_of_setting}
use Rattle.ddl_clauses.proofs.parts.value_of_setting.Given as goal

abbrev pub invariant-loop-rest : goal.invariant-loop-rest
invariant-loop-rest l = value_of_setting l.name l.rest ≡ value_of_setting l.name l.settings

abbrev pub decreases-loop-rest : goal.decreases-loop-rest
decreases-loop-rest l = length l.rest
