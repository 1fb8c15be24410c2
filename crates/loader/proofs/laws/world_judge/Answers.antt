use Rattle.loader.proofs.WorldJudge.{accepted, refused}
use Rattle.loader.proofs.laws.world_judge.Goals as goal

pub returns-clause-accepted : goal.returns-clause-accepted
returns-clause-accepted c = accepted

pub returns-clause-refused : goal.returns-clause-refused
returns-clause-refused c = refused
