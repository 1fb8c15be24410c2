-- What the list has, its risen list has.
use Rattle.hier.proofs.members.members_of.Goals as goal

pub returns-in-Ok-clause-keys : goal.returns-in-Ok-clause-keys
returns-in-Ok-clause-keys c = λ place key has. (c.risen.ensures.rising.each key).1 (c.in-Ok.ensures.keys place key has)

pub returns-in-Ok-clause-parents : goal.returns-in-Ok-clause-parents
returns-in-Ok-clause-parents c = λ place parent has. (c.risen.ensures.rising.each parent).1 (c.in-Ok.ensures.parents place parent has)
