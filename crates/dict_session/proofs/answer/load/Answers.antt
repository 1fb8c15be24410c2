use Rattle.std.proofs.Common.{refl}
use Rattle.dict_session.proofs.Answering.{failed_answered, published_answered}
use Rattle.dict_session.proofs.Telling.{tells_failed, tells_refused_load}
use Rattle.loader.specs.declared.answers.LoadEnd.TheVariants as end
use Rattle.dict_session.proofs.answer.load.Goals as goal

pub returns-in-Published : goal.returns-in-Published
returns-in-Published g c =
    published_answered g.D.Desk.facts _ _ c.args.d c.args.now c.in-Published.number _ _ c.in-Published.ensures.act c.in-Published.ensures.grows
    c.in-Published.ensures.learnt (end.Published c.in-Published.number, refl, refl)

pub returns-in-Failed : goal.returns-in-Failed
returns-in-Failed g c =
    failed_answered g.D.Desk.facts _ _ c.args.d c.args.now _ _ c.plain.result c.in-Failed.ensures.act c.in-Failed.ensures.grows
    c.in-Failed.ensures.learnt c.plain.ensures.event (tells_failed c.args.d c.args.now c.plain.result.place c.in-Failed.cause)
    (end.Failed c.in-Failed.cause, refl, c.plain.ensures.reply)

pub returns-in-NoMemory : goal.returns-in-NoMemory
returns-in-NoMemory g c =
    failed_answered g.D.Desk.facts _ _ c.args.d c.args.now _ _ c.plain-in-NoMemory.result c.in-NoMemory.ensures.act c.in-NoMemory.ensures.grows
    c.in-NoMemory.ensures.learnt c.plain-in-NoMemory.ensures.event (tells_refused_load c.args.d c.args.now c.plain-in-NoMemory.result.place)
    (end.NoMemory, refl, c.plain-in-NoMemory.ensures.reply)
