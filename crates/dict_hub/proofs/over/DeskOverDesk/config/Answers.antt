use Rattle.std.proofs.Common.{refl}
use Rattle.dict_hub.specs.Over.Rereads.{done, unlike}
use Rattle.dict_hub.proofs.over.DeskOverDesk.config.Goals as goal

pub returns-in-Some-clause-act : goal.returns-in-Some-clause-act
returns-in-Some-clause-act g c = unlike c.in-Ok.items c.in-Some.number c.in-Ok.ensures.reads c.in-Some.ensures.first refl refl

pub returns-in-None-clause-act : goal.returns-in-None-clause-act
returns-in-None-clause-act g c = done c.in-Ok.items c.follow-counts.result _ c.in-Ok.ensures.reads c.in-None.ensures.none refl c.follow-counts.ensures.follows
