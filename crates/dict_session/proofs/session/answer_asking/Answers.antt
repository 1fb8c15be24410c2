use Rattle.dict_session.proofs.Exchanging.{bad_at, large_at, none_at}
use Rattle.dict_session.proofs.session.answer_asking.Goals as goal

pub returns-in-Bad : goal.returns-in-Bad
returns-in-Bad g c = rw c.in-Bad.is (bad_at g.D.Desk.facts _ _ _ c.plain.ensures.event c.plain.ensures.reply)

pub returns-in-TooLarge : goal.returns-in-TooLarge
returns-in-TooLarge g c = rw c.in-TooLarge.is (large_at g.D.Desk.facts _ _ _ c.plain-in-TooLarge.ensures.event c.plain-in-TooLarge.ensures.reply)

pub returns-in-NoMemory : goal.returns-in-NoMemory
returns-in-NoMemory g c = rw c.in-NoMemory.is (none_at g.D.Desk.facts _ _ _ c.plain-in-NoMemory.ensures.event c.plain-in-NoMemory.ensures.reply)
