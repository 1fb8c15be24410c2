use Rattle.std.proofs.lemmas.Result.{err_from_is_err_and}
use Rattle.ddl_tokens.proofs.Loops.{stopped, fails}
use Rattle.ddl_clauses.specs.SettingLists.{next_setting}
use Rattle.ddl_clauses.proofs.lists.more_settings.Goals as goal

pub returns-in_err-next_setting-clause-value : goal.returns-in_err-next_setting-clause-value
returns-in_err-next_setting-clause-value c =
    let p = err_from_is_err_and c.from_residual.result c.from_residual.ensures.1 in
    rw (p.1, p.2) (fails (λ x. x) (λ x. x) (next_setting c.args.section) _ _ _ _ c.in_err-next_setting.field-0.0 _ _ _ c.loop-settings.invariant.so_far c.in_err-next_setting.ensures.value)

pub returns-clause-value : goal.returns-clause-value
returns-clause-value c = λ _. stopped (λ x. x) (next_setting c.args.section) _ _ _ _ c.in_ok-next_setting.field-0 _ _ c.loop-settings.invariant.so_far c.if-branch.false c.in_ok-next_setting.ensures.value
