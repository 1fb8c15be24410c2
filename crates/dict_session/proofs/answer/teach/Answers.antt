use Rattle.std.proofs.Common.{refl}
use Rattle.dict_session.proofs.Answering.{taught_answered}
use Rattle.dict_session.proofs.answer.teach.Goals as goal

pub returns : goal.returns
returns g c =
    taught_answered g.D.Desk.facts _ _ c.args.d c.teach-row.result _ c.args.now _ c.teach-row.ensures.act c.teach-row.ensures.grows
    c.teach-row.ensures.learnt (c.teach-row.result, refl, refl)
