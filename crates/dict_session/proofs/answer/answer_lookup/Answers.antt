use Rattle.std.proofs.Common.{refl, subst, ◌∙◌, inl, inr}
use Rattle.dict_session.proofs.Answering.{lookup_fits, plain_answered}
use Rattle.dict_session.specs.Asks.{IsLookupAsk}
use Rattle.dict_session.specs.declared.ask.Ask.TheVariants as ask
use Rattle.wire_text.specs.RequestTexts.{Heard}
use Rattle.wire_text.specs.declared.request.Request.TheVariants as request
use Rattle.dict_session.proofs.answer.answer_lookup.Goals as goal

pub look_up-requires-clause-loaded : goal.look_up-requires-clause-loaded
look_up-requires-clause-loaded g c =
    lookup_fits _ c.args.q.now.verb c.args.q.now.name (ask.Look c.in-Look.d)
    (subst (λ z. IsLookupAsk z c.args.q.now.verb c.args.q.now.name (ask.Look c.in-Look.d)) (c.as_slice.ensures ∙ c.items.ensures.items)
    (subst (λ a. IsLookupAsk c.as_slice.result.now c.args.q.now.verb c.args.q.now.name a) c.in-Look.is c.lookup_ask.ensures))

pub returns-in-Refuse : goal.returns-in-Refuse
returns-in-Refuse g c = (
  ask.Refuse c.in-Refuse.fault,
  subst (λ z. IsLookupAsk z c.args.q.now.verb c.args.q.now.name (ask.Refuse c.in-Refuse.fault)) (c.as_slice.ensures ∙ c.items.ensures.items)
      (subst (λ a. IsLookupAsk c.as_slice.result.now c.args.q.now.verb c.args.q.now.name a) c.in-Refuse.is c.lookup_ask.ensures),
  plain_answered g.D.Desk.facts _ (Heard.asks (request.Asked c.args.q.now)) (ask.Refuse c.in-Refuse.fault) c.args.now c.plain.result
      c.plain.ensures.event (inl (refl, c.plain.ensures.reply)),
)

pub returns-in_default : goal.returns-in_default
returns-in_default g c = (
  c.lookup_ask.result,
  subst (λ z. IsLookupAsk z c.args.q.now.verb c.args.q.now.name c.lookup_ask.result) (c.as_slice.ensures ∙ c.items.ensures.items) c.lookup_ask.ensures,
  plain_answered g.D.Desk.facts _ (Heard.asks (request.Asked c.args.q.now)) c.lookup_ask.result c.args.now c.plain-in_default.result
      c.plain-in_default.ensures.event (inr c.plain-in_default.ensures.reply),
)

pub apply-requires-clause-function : goal.apply-requires-clause-function
apply-requires-clause-function g c =
    lookup_fits _ c.args.q.now.verb c.args.q.now.name (ask.Apply c.in-Apply.f)
    (subst (λ z. IsLookupAsk z c.args.q.now.verb c.args.q.now.name (ask.Apply c.in-Apply.f)) (c.as_slice.ensures ∙ c.items.ensures.items)
    (subst (λ a. IsLookupAsk c.as_slice.result.now c.args.q.now.verb c.args.q.now.name a) c.in-Apply.is c.lookup_ask.ensures))

pub fetch-requires-clause-keyed : goal.fetch-requires-clause-keyed
fetch-requires-clause-keyed g c =
    lookup_fits _ c.args.q.now.verb c.args.q.now.name (ask.Fetch c.in-Fetch.d)
    (subst (λ z. IsLookupAsk z c.args.q.now.verb c.args.q.now.name (ask.Fetch c.in-Fetch.d)) (c.as_slice.ensures ∙ c.items.ensures.items)
    (subst (λ a. IsLookupAsk c.as_slice.result.now c.args.q.now.verb c.args.q.now.name a) c.in-Fetch.is c.lookup_ask.ensures))
