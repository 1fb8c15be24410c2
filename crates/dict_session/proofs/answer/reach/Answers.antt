use Rattle.std.proofs.Common.{refl, ◌∙◌, Ok, Err}
use Rattle.dict_session.proofs.Answering.{entered_answered, reach_above, reach_below, refused_answered}
use Rattle.dict_session.proofs.answer.reach.Goals.{then-seen-number, else-seen-number}
use Rattle.dict_session.proofs.answer.reach.Goals as goal

pub returns-after-seen-number : goal.returns-after-seen-number
returns-after-seen-number g c =
    entered_answered g.D.Desk.facts _ _ c.args.d c.in-Ok.seen _ _ c.args.now _ c.in-Ok.ensures.act c.in-Ok.ensures.grows c.in-Ok.ensures.seen
    (Ok c.in-Ok.seen, refl)
    (λ other. (
      Ok c.in-Ok.seen,
      refl,
      elim c.if-seen-number.branch [
        | then-seen-number w ↦ reach_below c.args.number c.number-seen.result c.in-Ok.seen _ c.number-seen.ensures.number w.if-seen-number.true w.result-is
        | else-seen-number w ↦ reach_above c.args.number c.number-seen.result c.in-Ok.seen _ c.number-seen.ensures.number w.if-seen-number.false w.result-is
      ],
    )) _ c.number-seen.ensures.number

pub returns-in-Err : goal.returns-in-Err
returns-in-Err g c =
    refused_answered g.D.Desk.facts _ _ c.args.d c.in-Err.fault _ _ c.args.now _ c.in-Err.ensures.act c.in-Err.ensures.grows c.plain.ensures.event
    (Err c.in-Err.fault, refl, c.plain.ensures.reply ∙ c.entering_refused.ensures)
