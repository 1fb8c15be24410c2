use Rattle.dict_session.proofs.OneSession.{heard_once}
use Rattle.dict_session.proofs.laws.one_list_heard.Goals as goal

pub returns : goal.returns
returns g c = heard_once g.D.Desk.facts
