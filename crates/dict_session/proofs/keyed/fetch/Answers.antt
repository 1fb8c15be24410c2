use Rattle.std.proofs.Common.{◌∙◌}
use Rattle.dict_session.proofs.Keying.{few_sent, fetch_answered, fetch_failed, fetch_refused, fetched_rows}
use Rattle.dict_session.proofs.keyed.fetch.Goals as goal

pub returns-in-Err : goal.returns-in-Err
returns-in-Err g c =
    fetch_refused g.D.Desk.facts _ _ c.args.d c.args.q.now c.args.now _ (c.as_slice.ensures ∙ c.items.ensures.items) c.keys_at.ensures c.requires.keyed
    c.in-Err.fault c.plain.result c.in-Err.is c.plain.ensures.event c.plain.ensures.reply

pub keyed-requires-clause-few : goal.keyed-requires-clause-few
keyed-requires-clause-few g c =
    few_sent g.D.Desk.facts _ _ c.args.d c.args.q.now c.args.now _ (c.as_slice.ensures ∙ c.items.ensures.items) c.keys_at.ensures c.requires.keyed
    c.in-Ok.keys _ c.requires.lookup.0 c.in-Ok.is c.as_slice-2.ensures

pub answer_rows-requires-clause-rows : goal.answer_rows-requires-clause-rows
answer_rows-requires-clause-rows g c =
    fetched_rows g.D.Desk.facts _ _ c.args.d c.args.q.now c.args.now _ (c.as_slice.ensures ∙ c.items.ensures.items) c.keys_at.ensures c.requires.keyed
    _ c.in-Ok.keys _ c.in-Ok.is c.as_slice-2.ensures c.in-Ok-keyed.ensures.grows c.in-Ok-keyed.rows _
    (c.as_slice-in-Ok-keyed.ensures ∙ c.items-in-Ok-keyed.ensures.items) c.in-Ok-keyed.ensures.rows

pub returns-in-Ok-keyed : goal.returns-in-Ok-keyed
returns-in-Ok-keyed g c =
    fetch_answered g.D.Desk.facts _ _ c.args.d c.args.q.now c.args.now _ (c.as_slice.ensures ∙ c.items.ensures.items) c.keys_at.ensures c.requires.keyed
    _ c.in-Ok.keys _ c.in-Ok.is c.as_slice-2.ensures c.in-Ok-keyed.ensures.grows c.in-Ok-keyed.rows _ c.plain-in-Ok-keyed.result _ c.in-Ok-keyed.ensures.act
    c.in-Ok-keyed.ensures.rows (c.as_slice-in-Ok-keyed.ensures ∙ c.items-in-Ok-keyed.ensures.items) c.answer_rows.ensures
    c.plain-in-Ok-keyed.ensures.event c.plain-in-Ok-keyed.ensures.reply

pub returns : goal.returns
returns g c =
    fetch_failed g.D.Desk.facts _ _ c.args.d c.args.q.now c.args.now _ (c.as_slice.ensures ∙ c.items.ensures.items) c.keys_at.ensures c.requires.keyed
    _ c.in-Ok.keys _ c.in-Ok.is c.as_slice-2.ensures c.in-Err-keyed.ensures.grows c.in-Err-keyed.fault c.plain-in-Err-keyed.result c.in-Err-keyed.ensures.act
    c.plain-in-Err-keyed.ensures.event c.plain-in-Err-keyed.ensures.reply
