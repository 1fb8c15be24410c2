use Rattle.load_core.proofs.OneVerdict.{one-verdict, some-verdict}
use Rattle.load_core.proofs.laws.one_verdict.Goals as goal

pub returns-clause-some : goal.returns-clause-some
returns-clause-some c = some-verdict

pub returns-clause-one : goal.returns-clause-one
returns-clause-one c = one-verdict
