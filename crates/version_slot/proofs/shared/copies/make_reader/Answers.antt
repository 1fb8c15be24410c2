use Rattle.version_slot.proofs.Copies.{admits, tells, hears}
use Rattle.version_slot.proofs.shared.copies.make_reader.Goals as goal

pub reader-requires : goal.reader-requires
reader-requires g c x views h = admits x.slot views h

pub tell-note-requires : goal.tell-note-requires
tell-note-requires g c x views h at = tells x.slot _ _ views h at

pub learn-requires-clause-rule : goal.learn-requires-clause-rule
learn-requires-clause-rule g c x views h at apart there = hears x.slot _ _ _ views h apart there
