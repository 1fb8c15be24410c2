use Rattle.std.proofs.lemmas.Result.{err_from_is_err_and}
use Rattle.ddl_tokens.proofs.Loops.{stopped, fails}
use Rattle.ddl_columns.specs.Reading.{next_mark}
use Rattle.ddl_columns.proofs.marks.more_marks.Goals as goal

pub returns-in_err-next_mark-clause-value : goal.returns-in_err-next_mark-clause-value
returns-in_err-next_mark-clause-value c =
    let p = err_from_is_err_and c.from_residual.result c.from_residual.ensures.1 in
    rw (p.1, p.2) (fails (λ x. x) (λ x. x) (next_mark) _ _ _ _ c.in_err-next_mark.field-0.0 _ _ _ c.loop-marks.invariant.so_far c.in_err-next_mark.ensures.value)

pub returns-clause-value : goal.returns-clause-value
returns-clause-value c = λ _. stopped (λ x. x) (next_mark) _ _ _ _ c.in_ok-next_mark.field-0 _ _ c.loop-marks.invariant.so_far c.if-branch.false c.in_ok-next_mark.ensures.value
