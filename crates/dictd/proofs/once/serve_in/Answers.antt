use Rattle.std.proofs.Common.{◌∙◌, ap, refl}
use Rattle.dictd.proofs.Serving.{same_outer, serves_in}
use Rattle.dictd.specs.OneRun.{shelf_told}
use Rattle.dictd.proofs.once.serve_in.Goals as goal

pub returns : goal.returns
returns g c =
    let shelf = shelf_told g.F.Shelf.filed g.F.Shelf.file g.F.Shelf.later in
    serves_in shelf g.S.Spawner.ran c.args.items _ c.as_str.result.now c.args.folder.now g.P.Folder.folder c.args.seed c.moment-now.result _ _ _
    c.in-Ok.dictionaries.items _ _ _ _ _ _ c.serve_session-end.result c.local_desk-desk.ensures c.as_str.ensures.value c.in-Ok.ensures
    c.moment-now.ensures.act refl c.first.ensures.loads c.serve_session-end.ensures c.origins.ensures c.requires.folder
    (same_outer shelf g.S.Spawner.ran _ _ _ _ _ _ (ap (λ f. f.readings) (c.into_shelf.ensures ∙ c.into_parts-spawner.ensures.file))
    c.into_parts-spawner.ensures.moments c.into_parts-spawner.ensures.children)
