use Rattle.std.proofs.Common.{Err, List, ap, subst, ℕ}
use Rattle.dict_hub.specs.Over.{children_of}
use Rattle.dictd.proofs.Serving.{served_run, unread_run}
use Rattle.dictd.specs.OneRun.{ReadsServed, outer, shelf_told}
use Rattle.dictd.proofs.once.run.Goals as goal

pub returns-in-Ok-clause-run : goal.returns-in-Ok-clause-run
returns-in-Ok-clause-run g c =
    let shelf = shelf_told g.F.Shelf.filed g.F.Shelf.file g.F.Shelf.later in
    let moments = g.K.Clock.moments c.args.outside.clock in
    let children = children_of g.S.Spawner.scripts g.S.Spawner.starts c.args.outside.spawner in
    served_run shelf g.S.Spawner.ran _ _ c.as_str.result.now _ c.in-Ok.items _ _ _ _ _ c.serve_items-end.result.end c.status_of.result
    c.in-Some.ensures c.as_str.ensures.value c.in-Ok.ensures.read
    (ap (λ r. outer r moments children) c.in-Ok.ensures.later) c.serve_items-end.ensures c.status_of.ensures

pub returns-in-Err-clause-run : goal.returns-in-Err-clause-run
returns-in-Err-clause-run g c =
    let shelf = shelf_told g.F.Shelf.filed g.F.Shelf.file g.F.Shelf.later in
    let moments = g.K.Clock.moments c.args.outside.clock in
    let children = children_of g.S.Spawner.scripts g.S.Spawner.starts c.args.outside.spawner in
    unread_run shelf g.S.Spawner.ran _ _ _ _ _ _ c.in-Err.status c.in-Some.ensures
    (subst (λ (t : List ℕ). ReadsServed shelf (g.F.Shelf.readings c.args.outside.shelf) t (Err c.in-Err.status)) c.as_str.ensures.value c.in-Err.ensures.read)
    (ap (λ r. outer r moments children) c.in-Err.ensures.later)
