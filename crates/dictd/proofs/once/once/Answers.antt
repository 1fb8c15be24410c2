use Rattle.dictd.proofs.Serving.{told_run}
use Rattle.dictd.specs.OneRun.{shelf_told}
use Rattle.dictd.proofs.once.once.Goals as goal

pub returns-clause-reads : goal.returns-clause-reads
returns-clause-reads g c =
    (told_run (shelf_told g.F.Shelf.filed g.F.Shelf.file g.F.Shelf.later) g.S.Spawner.ran _ _ _ _ _ _ c.run-ended.ensures.run).reads

pub returns-clause-writes : goal.returns-clause-writes
returns-clause-writes g c =
    (told_run (shelf_told g.F.Shelf.filed g.F.Shelf.file g.F.Shelf.later) g.S.Spawner.ran _ _ _ _ _ _ c.run-ended.ensures.run).writes
