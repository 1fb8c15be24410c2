use Rattle.std.proofs.Common.{◌∙◌, ap, arith}
use Rattle.dict_session.proofs.Exchanging.{raised_at}
use Rattle.load_core.specs.CallerSteps.{raised}
use Rattle.dict_session.proofs.session.raise.Goals as goal

pub returns-then-place-len : goal.returns-then-place-len
returns-then-place-len c =
    raised_at _ c.args.place c.args.event c.index_mut.result.now _ (omega (arith, c.if-place-len.true, c.len.ensures))
    (c.step.ensures.core ∙ ap (λ z. raised z c.args.event) c.index_mut.ensures.value)
