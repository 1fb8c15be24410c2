use Rattle.dict_session.proofs.Exchanging.{exchanged}
use Rattle.dict_session.proofs.session.exchange.Goals as goal

pub returns : goal.returns
returns g c =
    exchanged g.D.Desk.facts _ _ _ _ _ _ _ c.moment-now.ensures.act c.moment-now.ensures.grows c.before-2.ensures.act c.before-2.ensures.grows
    c.answer_asking.ensures
