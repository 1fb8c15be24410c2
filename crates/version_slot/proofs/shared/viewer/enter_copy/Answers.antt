use Rattle.version_slot.proofs.Copies.{enters}
use Rattle.version_slot.proofs.shared.viewer.enter_copy.Goals as goal

pub enter_as-requires : goal.enter_as-requires
enter_as-requires g c x views h at = enters x.slot _ _ views h at
