use Rattle.ddl_clauses.proofs.Answers.{function_only}
use Rattle.ddl_clauses.proofs.function_clauses.Goals as goal

pub returns-clause-only : goal.returns-clause-only
returns-clause-only c = function_only c.args.r.now c.function_clauses.new.r c.function_clauses.result c.function_clauses.ensures.value
