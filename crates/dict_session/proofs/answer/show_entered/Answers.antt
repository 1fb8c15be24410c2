use Rattle.std.proofs.Common.{refl, sym, subst, ◌∙◌, Ok, Err}
use Rattle.std.specs.Prelude.{slice_get}
use Rattle.ddl_writing.specs.Canonical.{definition_text}
use Rattle.dict_session.proofs.Answering.{entered_answered, refused_answered, shown_current, shown_first}
use Rattle.dict_session.specs.Answers.{shown_item}
use Rattle.dict_session.specs.Serving.{OrNoMemory}
use Rattle.wire_text.specs.declared.reply.Reply.TheVariants.{Shown}
use Rattle.dict_session.proofs.answer.show_entered.Goals.{in-Some, in-None}
use Rattle.dict_session.proofs.answer.show_entered.Goals as goal

pub returns-after-version : goal.returns-after-version
returns-after-version g c =
    let items = g.D.Desk.facts.items (g.D.Desk.state c.args.desk.now) in
    entered_answered g.D.Desk.facts _ _ c.args.d c.in-Ok.seen _ _ c.args.now _ c.in-Ok.ensures.act c.in-Ok.ensures.grows c.in-Ok.ensures.seen
    (Ok c.in-Ok.seen, refl)
    (λ other. (
      Ok c.in-Ok.seen,
      refl,
      elim c.match-version.branch [
        | in-Some w ↦ shown_current items c.args.d c.in-Ok.seen w.in-Some.version.now c.match-version.reply (sym w.in-Some.ensures.version)
            (subst (λ z. OrNoMemory (Shown (definition_text z)) c.match-version.reply) w.definition.ensures.is
            (subst (λ r. OrNoMemory (Shown (definition_text w.definition.result.now)) r) (sym w.reply-is) w.shown_definition-reply.ensures)) other
        | in-None w ↦ shown_first items c.args.d c.in-Ok.seen c.match-version.reply (sym w.in-None.ensures.version)
            (subst (λ z. OrNoMemory (shown_item (slice_get z c.args.d)) c.match-version.reply)
            (w.as_slice.ensures ∙ w.items.ensures.items ∙ c.in-Ok.ensures.grows.items)
            (subst (λ r. OrNoMemory (shown_item (slice_get w.as_slice.result.now c.args.d)) r) (sym w.reply-is) w.shown-reply.ensures)) other
      ],
    )) _ c.number.ensures.number

pub returns-in-Err : goal.returns-in-Err
returns-in-Err g c =
    refused_answered g.D.Desk.facts _ _ c.args.d c.in-Err.fault _ _ c.args.now _ c.in-Err.ensures.act c.in-Err.ensures.grows c.plain.ensures.event
    (Err c.in-Err.fault, refl, c.plain.ensures.reply ∙ c.entering_refused.ensures)
