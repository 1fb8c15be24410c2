use Rattle.version_slot.proofs.Views.{prefix-take}
use Rattle.version_slot.proofs.plain.PlainSlotViewer.learn.Goals as goal

pub returns-clause-learnt : goal.returns-clause-learnt
returns-clause-learnt g c = prefix-take _ _
