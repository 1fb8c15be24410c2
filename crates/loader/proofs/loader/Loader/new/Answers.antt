use Rattle.loader.proofs.SoundLoads.{lifetime_ordered}
use Rattle.loader.proofs.loader.Loader.new.Goals as goal

pub new-schedule-requires : goal.new-schedule-requires
new-schedule-requires c = lifetime_ordered c.args.definition c.requires.sound
