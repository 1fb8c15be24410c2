use Rattle.ddl_clauses.proofs.Answers.{clauses_only}
use Rattle.ddl_clauses.proofs.dictionary_clauses.Goals as goal

pub returns-clause-only : goal.returns-clause-only
returns-clause-only c = clauses_only c.args.r.now c.dictionary_clauses.new.r c.dictionary_clauses.result c.dictionary_clauses.ensures.value
