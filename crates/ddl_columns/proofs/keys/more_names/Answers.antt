use Rattle.std.proofs.lemmas.Result.{err_from_is_err_and}
use Rattle.ddl_tokens.specs.Lists.{next_item}
use Rattle.ddl_tokens.proofs.Loops.{stopped, fails}
use Rattle.ddl_tokens.specs.Reading.{bytes_at, is_name}
use Rattle.ddl_columns.proofs.keys.more_names.Goals as goal

pub returns-in_err-next_name-clause-value : goal.returns-in_err-next_name-clause-value
returns-in_err-next_name-clause-value c =
    let p = err_from_is_err_and c.from_residual.result c.from_residual.ensures.1 in
    rw (p.1, p.2) (fails (λ x. x) (λ x. x) (next_item 44 (bytes_at is_name)) _ _ _ _ c.in_err-next_name.field-0.0 _ _ _ c.loop-names.invariant.so_far c.in_err-next_name.ensures.value)

pub returns-clause-value : goal.returns-clause-value
returns-clause-value c = λ _. stopped (λ x. x) (next_item 44 (bytes_at is_name)) _ _ _ _ c.in_ok-next_name.field-0 _ _ c.loop-names.invariant.so_far c.if-branch.false c.in_ok-next_name.ensures.value
