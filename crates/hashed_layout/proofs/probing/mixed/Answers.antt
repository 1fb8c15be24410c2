use Rattle.std.proofs.Common.{refl}
use Rattle.hashed_layout.specs.Probing.{mixed}
use Rattle.hashed_layout.proofs.probing.mixed.Goals as goal

pub returns : goal.returns
unfolding mixed
returns c = refl
