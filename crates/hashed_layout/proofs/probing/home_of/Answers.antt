use Rattle.std.proofs.Common.{◌/◌, ◌^◌, ◌∙◌, ap}
use Rattle.hashed_layout.specs.Probing.{home_of, part_of}
use Rattle.hashed_layout.proofs.probing.home_of.Goals as goal

pub returns-clause-value : goal.returns-clause-value
unfolding home_of
returns-clause-value c = c.home_at.ensures.value ∙ ap (λ m. part_of c.args.size (m / 2 ^ 32)) c.mixed.ensures
