use Rattle.std.proofs.Common.{ap, ◌∙◌}
use Rattle.child_io.specs.declared.pieces.Gathered.{Gathered}
use Rattle.child_io.proofs.Runs.{whole-cause, whole-run}
use Rattle.child_io.proofs.run.run_whole.Goals as goal

pub returns-clause-run : goal.returns-clause-run
returns-clause-run g c = (
  c.run_pieces-end.result,
  c.run_pieces-end.ensures.broke,
  rw c.outcome.ensures (whole-run _ _ _ _ _ _ (λ e. ap (λ (g : Gathered). g.lost) (c.run_pieces-end.ensures.not_started e) ∙ c.new-gathered.ensures.kept) c.run_pieces-end.ensures.run),
)

pub returns-clause-cause : goal.returns-clause-cause
returns-clause-cause g c = rw c.outcome.ensures (whole-cause c.run_pieces-end.new.out c.run_pieces-end.result _ _
    (λ e. ap (λ (g : Gathered). g.lost) (c.run_pieces-end.ensures.not_started e) ∙ c.new-gathered.ensures.kept) c.run_pieces-end.ensures.cause)
