use Rattle.child_io.proofs.OneOutcome.{one-outcome, some-outcome}
use Rattle.child_io.proofs.laws.one_outcome.Goals as goal

pub returns-clause-some : goal.returns-clause-some
returns-clause-some c = some-outcome

pub returns-clause-pieces : goal.returns-clause-pieces
returns-clause-pieces c = λ s input limit pieces others end other p q. (one-outcome s input limit pieces others end other p q).0

pub returns-clause-end : goal.returns-clause-end
returns-clause-end c = λ s input limit pieces others end other p q. (one-outcome s input limit pieces others end other p q).1
