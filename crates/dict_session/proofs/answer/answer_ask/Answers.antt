use Rattle.std.proofs.Common.{refl, ap, ◌∙◌, inl, inr}
use Rattle.std.specs.Prelude.{slice_get}
use Rattle.dict_session.proofs.Answering.{plain_answered}
use Rattle.dict_session.specs.Answers.{shown_item}
use Rattle.dict_session.specs.declared.ask.Ask.TheVariants as ask
use Rattle.wire_text.specs.RequestTexts.{Heard}
use Rattle.dict_session.proofs.answer.answer_ask.Goals as goal

pub returns-in-Refuse : goal.returns-in-Refuse
returns-in-Refuse g c =
    rw c.in-Refuse.is
    (plain_answered g.D.Desk.facts _ (Heard.asks c.args.heard.now) (ask.Refuse c.in-Refuse.fault) c.args.now c.plain.result c.plain.ensures.event (inl (refl, c.plain.ensures.reply)))

pub returns-in-SayBye : goal.returns-in-SayBye
returns-in-SayBye g c =
    rw c.in-SayBye.is
    (plain_answered g.D.Desk.facts _ (Heard.asks c.args.heard.now) ask.SayBye c.args.now c.plain-in-SayBye.result c.plain-in-SayBye.ensures.event (inl (refl, c.plain-in-SayBye.ensures.reply)))

pub returns-in-Show : goal.returns-in-Show
returns-in-Show g c =
    rw c.in-Show.is
    (plain_answered g.D.Desk.facts _ (Heard.asks c.args.heard.now) (ask.Show c.in-Show.place) c.args.now c.plain-in-Show.result c.plain-in-Show.ensures.event
    (elim c.shown.ensures [
      | inl same ↦ inl (refl, c.plain-in-Show.ensures.reply ∙ same ∙ ap (λ z. shown_item (slice_get z c.in-Show.place)) (c.as_slice.ensures ∙ c.items.ensures.items))
      | inr none ↦ inr (c.plain-in-Show.ensures.reply ∙ none)
    ]))

pub returns-in-Look : goal.returns-in-Look
returns-in-Look g c =
    plain_answered g.D.Desk.facts _ (Heard.asks c.args.heard.now) c.args.ask c.args.now c.plain-in-Look.result c.plain-in-Look.ensures.event (inr c.plain-in-Look.ensures.reply)
