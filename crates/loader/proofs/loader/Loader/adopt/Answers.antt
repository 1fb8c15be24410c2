use Rattle.loader.proofs.SoundLoads.{lifetime_ordered}
use Rattle.loader.proofs.loader.Loader.adopt.Goals as goal

pub set-requires : goal.set-requires
set-requires c = lifetime_ordered c.args.d c.requires.other.sound
