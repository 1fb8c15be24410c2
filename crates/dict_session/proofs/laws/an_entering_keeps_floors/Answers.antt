use Rattle.dict_session.proofs.Acting.{moved_entered}
use Rattle.dict_session.proofs.laws.an_entering_keeps_floors.Goals as goal

pub returns : goal.returns
returns g c = λ s t d answer did grows newest. moved_entered g.D.Desk.facts s t d answer did grows newest
