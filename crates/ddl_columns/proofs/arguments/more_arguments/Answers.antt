use Rattle.std.proofs.lemmas.Result.{err_from_is_err_and}
use Rattle.ddl_tokens.specs.Lists.{next_item}
use Rattle.ddl_tokens.proofs.Loops.{stopped, fails}
use Rattle.ddl_columns.specs.Reading.{argument_at}
use Rattle.ddl_columns.proofs.arguments.more_arguments.Goals as goal

pub returns-in_err-next_argument-clause-value : goal.returns-in_err-next_argument-clause-value
returns-in_err-next_argument-clause-value c =
    let p = err_from_is_err_and c.from_residual.result c.from_residual.ensures.1 in
    rw (p.1, p.2) (fails (λ x. x) (λ x. x) (next_item 44 argument_at) _ _ _ _ c.in_err-next_argument.field-0.0 _ _ _ c.loop-arguments.invariant.so_far c.in_err-next_argument.ensures.value)

pub returns-clause-value : goal.returns-clause-value
returns-clause-value c = λ _. stopped (λ x. x) (next_item 44 argument_at) _ _ _ _ c.in_ok-next_argument.field-0 _ _ c.loop-arguments.invariant.so_far c.if-branch.false c.in_ok-next_argument.ensures.value
