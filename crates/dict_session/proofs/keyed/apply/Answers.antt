use Rattle.std.proofs.Common.{◌∙◌}
use Rattle.dict_session.proofs.Keying.{call_answered, call_failed, call_refused, few_called, given_values}
use Rattle.dict_session.proofs.keyed.apply.Goals as goal

pub returns-in-Err : goal.returns-in-Err
returns-in-Err g c =
    call_refused g.D.Desk.facts _ _ c.args.f c.args.q.now c.args.now _ (c.as_slice.ensures ∙ c.items.ensures.items) c.rows_at.ensures c.requires.function
    c.in-Err.fault c.plain.result c.in-Err.is c.plain.ensures.event c.plain.ensures.reply

pub call-requires-clause-few : goal.call-requires-clause-few
call-requires-clause-few g c =
    few_called g.D.Desk.facts _ _ c.args.f c.args.q.now c.args.now _ (c.as_slice.ensures ∙ c.items.ensures.items) c.rows_at.ensures c.requires.function
    c.in-Ok.rows _ c.requires.call.0 c.in-Ok.is c.as_slice-2.ensures

pub answer_values-requires-clause-given : goal.answer_values-requires-clause-given
answer_values-requires-clause-given g c =
    given_values g.D.Desk.facts _ _ c.args.f c.args.q.now c.args.now _ (c.as_slice.ensures ∙ c.items.ensures.items) c.rows_at.ensures c.requires.function
    _ c.in-Ok.rows _ c.in-Ok.is c.as_slice-2.ensures c.in-Ok-call.ensures.grows c.in-Ok-call.values _
    (c.as_slice-in-Ok-call.ensures ∙ c.items-in-Ok-call.ensures.items) c.in-Ok-call.ensures.values

pub returns-in-Ok-call : goal.returns-in-Ok-call
returns-in-Ok-call g c =
    call_answered g.D.Desk.facts _ _ c.args.f c.args.q.now c.args.now _ (c.as_slice.ensures ∙ c.items.ensures.items) c.rows_at.ensures c.requires.function
    _ c.in-Ok.rows _ c.in-Ok.is c.as_slice-2.ensures c.in-Ok-call.ensures.grows c.in-Ok-call.values _ c.plain-in-Ok-call.result _ c.in-Ok-call.ensures.act
    c.in-Ok-call.ensures.values (c.as_slice-in-Ok-call.ensures ∙ c.items-in-Ok-call.ensures.items) c.answer_values.ensures
    c.plain-in-Ok-call.ensures.event c.plain-in-Ok-call.ensures.reply

pub returns : goal.returns
returns g c =
    call_failed g.D.Desk.facts _ _ c.args.f c.args.q.now c.args.now _ (c.as_slice.ensures ∙ c.items.ensures.items) c.rows_at.ensures c.requires.function
    _ c.in-Ok.rows _ c.in-Ok.is c.as_slice-2.ensures c.in-Err-call.ensures.grows c.in-Err-call.fault c.plain-in-Err-call.result c.in-Err-call.ensures.act
    c.plain-in-Err-call.ensures.event c.plain-in-Err-call.ensures.reply
