use Rattle.packed_rows.proofs.Packing.{whole-size}
use Rattle.packed_rows.proofs.laws.packs_take_stored.Goals as goal

pub returns : goal.returns
returns c = whole-size
