use Rattle.std.proofs.lemmas.Result.{err_from_is_err_and}
use Rattle.ddl_text.proofs.Steps.{ending_fails}
use Rattle.ddl_text.proofs.statements.behind_columns.Goals as goal

pub returns-in_err-ended-clause-value : goal.returns-in_err-ended-clause-value
returns-in_err-ended-clause-value c =
    let p = err_from_is_err_and c.from_residual-in_err-ended.result c.from_residual-in_err-ended.ensures.1 in
    rw (p.1, p.2) (ending_fails c.args.place c.args.name c.args.columns c.args.r.now c.in_ok-keys.keys c.read_key.new.r c.in_ok-parts.parts c.dictionary_clauses.new.r c.ending.new.r c.in_err-ended.field-0.0
    (c.in_ok-keys.ensures.exact (λ e. absurd cc)) (c.in_ok-parts.ensures.exact (λ e. absurd cc)) c.in_err-ended.ensures.value)
