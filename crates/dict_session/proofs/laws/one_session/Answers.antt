use Rattle.dict_session.proofs.OneSession.{desk_once}
use Rattle.dict_session.proofs.laws.one_session.Goals as goal

pub returns : goal.returns
returns g c = desk_once g.D.Desk.facts
