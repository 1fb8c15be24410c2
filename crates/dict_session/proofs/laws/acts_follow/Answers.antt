use Rattle.dict_session.proofs.Acting.{moved_append}
use Rattle.dict_session.proofs.laws.acts_follow.Goals as goal

pub returns : goal.returns
returns g c = λ s t u acts later a b. moved_append g.D.Desk.facts s t u acts later a b
