use Rattle.child_io.proofs.Runs.{gathers-next}
use Rattle.child_io.proofs.pieces.GatheredPieces.take.Goals as goal

pub returns-in-Ok-clause-took : goal.returns-in-Ok-clause-took
returns-in-Ok-clause-took c = λ pieces g. gathers-next _ _ _ _ _ _ pieces c.saturating_add-self.ensures (λ _. c.in-Ok.ensures.ok) g
