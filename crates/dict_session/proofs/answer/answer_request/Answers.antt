use Rattle.std.proofs.Common.{subst, ◌∙◌}
use Rattle.dict_session.proofs.Answering.{request_fits}
use Rattle.dict_session.specs.Asks.{IsRequestAsk}
use Rattle.dict_session.proofs.answer.answer_request.Goals as goal

pub answer_ask-requires-clause-fits : goal.answer_ask-requires-clause-fits
answer_ask-requires-clause-fits g c =
    request_fits _ c.args.heard.now c.ask_of-ask.result
    (subst (λ z. IsRequestAsk z c.args.heard.now c.ask_of-ask.result) (c.as_slice.ensures ∙ c.items.ensures.items) c.ask_of-ask.ensures)

pub returns-in_default : goal.returns-in_default
returns-in_default g c = (
  c.ask_of-ask.result,
  subst (λ z. IsRequestAsk z c.args.heard.now c.ask_of-ask.result) (c.as_slice.ensures ∙ c.items.ensures.items) c.ask_of-ask.ensures,
  c.answer_ask.ensures,
)
