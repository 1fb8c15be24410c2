use Rattle.std.proofs.Common.{refl, ◌∙◌, Ok, Err}
use Rattle.dict_session.proofs.Answering.{entered_answered, refused_answered}
use Rattle.dict_session.proofs.answer.look_up.Goals as goal

pub returns-in-Ok : goal.returns-in-Ok
returns-in-Ok g c =
    entered_answered g.D.Desk.facts _ _ c.args.d c.in-Ok.seen _ _ c.args.now _ c.in-Ok.ensures.act c.in-Ok.ensures.grows c.in-Ok.ensures.seen
    (Ok c.in-Ok.seen, refl) (λ other. (Ok c.in-Ok.seen, refl, c.answer_loaded.ensures other)) _ c.number.ensures.number

pub returns-in-Err : goal.returns-in-Err
returns-in-Err g c =
    refused_answered g.D.Desk.facts _ _ c.args.d c.in-Err.fault _ _ c.args.now _ c.in-Err.ensures.act c.in-Err.ensures.grows c.plain.ensures.event
    (Err c.in-Err.fault, refl, c.plain.ensures.reply ∙ c.entering_refused.ensures)
