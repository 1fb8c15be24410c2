use Rattle.std.proofs.Common.{arith}
use Rattle.dict_version.proofs.SoundParts.{keys_few}
use Rattle.dict_version.proofs.index.ranges.Goals as goal

pub ranges_of-requires : goal.ranges_of-requires
ranges_of-requires g c = omega (arith, keys_few c.args.d.now c.requires.sound)
