use Rattle.std.proofs.Common.{◌∙◌}
use Rattle.dict_session.proofs.Answering.{configured_answered}
use Rattle.dict_session.proofs.answer.configure.Goals as goal

pub returns : goal.returns
returns g c =
    configured_answered g.D.Desk.facts _ _ c.args.now c.config.result _ c.plain.result c.config.ensures.act c.config.ensures.grows
    c.plain.ensures.event (c.plain.ensures.reply ∙ c.config_reply.ensures)
