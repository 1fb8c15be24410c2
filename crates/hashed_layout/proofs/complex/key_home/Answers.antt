use Rattle.std.proofs.Common.{◌/◌, ◌^◌, ◌∙◌, ap}
use Rattle.hashed_layout.specs.KeyTables.{key_home}
use Rattle.hashed_layout.specs.Probing.{part_of}
use Rattle.hashed_layout.proofs.complex.key_home.Goals as goal

pub returns-clause-value : goal.returns-clause-value
unfolding key_home
returns-clause-value c = λ key is. c.home_at.ensures.value ∙ ap (λ m. part_of c.args.size (m / 2 ^ 32)) is
