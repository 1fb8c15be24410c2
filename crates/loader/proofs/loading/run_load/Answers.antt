use Rattle.std.proofs.Common.{◌≡◌, ◌∙◌, ap, inl}
use Rattle.load_core.specs.declared.dictionary.DictCore.{DictCore}
use Rattle.loader.proofs.LoadRuns.{runs-ended, runs-published, told-count, was-run}
use Rattle.loader.specs.Events.{core_after, end_events}
use Rattle.loader.specs.steps.Kept.{fault_end}
use Rattle.loader.specs.steps.Makings.{kept_in}
use Rattle.loader.specs.steps.Publishings.{load_end_of}
use Rattle.loader.proofs.loading.run_load.Goals as goal

pub returns-in-Ok-clause-run : goal.returns-in-Ok-clause-run
returns-in-Ok-clause-run g c = λ before start.
    let same = c.load_version.new.spawner ≡ c.args.spawner.now in
    let core = c.publish.ensures.core ∙ ap (λ (k : DictCore). core_after k (end_events (load_end_of c.publish.result))) c.in-Ok.ensures.core in
    inl (runs-published _ same g.S.Spawner.ran c.args.d.now c.args.folder.now c.args.since _ (kept_in c.args.former.now) c.args.now c.requires.since c.requires.laid before c.args.core.now c.publish.new.core start c.requires.reading
    c.in-Ok.made c.publish.result _ core (was-run _ same _ _ _ _ c.in-Ok.made c.in-Ok.ensures.loaded) c.publish.ensures.list c.publish.ensures.fault (told-count _ _ _ _ c.publish.result c.publish.ensures.told))

pub returns-in-Err-clause-run : goal.returns-in-Err-clause-run
returns-in-Err-clause-run g c = λ before start.
    let same = c.load_version.new.spawner ≡ c.args.spawner.now in
    let core = c.end_for.ensures ∙ ap (λ (k : DictCore). core_after k (end_events (fault_end c.in-Err.fault))) c.in-Err.ensures.core in
    runs-ended _ same g.S.Spawner.ran c.args.d.now c.args.folder.now c.args.since _ (kept_in c.args.former.now) c.args.now c.requires.since c.requires.laid before c.args.core.now c.end_for.new.core start c.requires.reading
    g.row.P-Told.Denot c.in-Err.fault core c.in-Err.ensures.loaded
