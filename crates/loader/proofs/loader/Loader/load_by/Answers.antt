use Rattle.std.proofs.Common.{◌≤◌, ◌∷◌, ◌++◌, [], Err, refl, subst}
use Rattle.load_core.specs.declared.dictionary.DictCore.{DictCore}
use Rattle.loader.proofs.OneLoad.{begun-at, cause-end, ended-at, load-failed, load-published, load-spent, no-cause, spent-at, start-at, two-posted}
use Rattle.loader.specs.declared.answers.LoadEnd.TheVariants as load
use Rattle.loader.specs.declared.board.Posting.TheVariants as post
use Rattle.loader.specs.steps.Kept.{posted_cause}
use Rattle.loader.specs.steps.Makings.{kept_in}
use Rattle.loader.specs.steps.Publishings.{load_end_of}
use Rattle.loader.proofs.loader.Loader.load_by.Goals as goal

pub returns-in_default : goal.returns-in_default
returns-in_default g c =
    let old = c.args.self.now in
    let used = spent-at old.core c.counts-core.result c.step.new.self c.step.result c.counts-core.ensures.core c.counts-core.ensures.idle c.step.ensures.core c.step.ensures.effect (λ number e. c.in_default.not-Begun number e) in
    record {
      load = load-spent _ _ _ _ _ c.args.now old c.put_off.new.self _ c.step.new.self c.post_failure.result c.post_failure.ensures.end used refl c.requires.at c.put_off.ensures c.post_failure.ensures.posts;
      cause = no-cause _ c.post_failure.result c.post_failure.ensures.end;
      takes = c.post_failure.ensures.takes;
      tokens = λ t h. (h, refl);
      slot = refl;
    }

pub returns-in-Err-clause-cause : goal.returns-in-Err-clause-cause
returns-in-Err-clause-cause g c = cause-end _ _ c.in-Err.fault c.post_fault.result c.post_fault.ensures.end c.in-Err.ensures.cause

pub returns-in-Ok-clause-load : goal.returns-in-Ok-clause-load
returns-in-Ok-clause-load g c =
    let old = c.args.self.now in
    let b = begun-at old.core c.counts-core.result c.step.new.self c.step.result c.in-Begun.field-0 c.counts-core.ensures.core c.counts-core.ensures.idle c.step.ensures.core c.step.ensures.effect c.in-Begun.is in
    let start = start-at old.core c.counts-core.result c.step.new.self c.counts-core.ensures.core c.step.ensures.core in
    let fewer = subst (λ (k : DictCore). k.published ≤ k.loads) c.counts-core.ensures.core c.counts-core.ensures.fewer in
    let told = c.in-Ok.ensures.told in
    load-published _ _ _ _ _ c.args.now old c.follow.new.self _ _ c.step.new.self c.run.new.core b fewer start c.requires.at
    c.in-Ok.fresh.told c.in-Ok.fresh.number (kept_in c.in-Ok.fresh.kept) c.post_version.result c.post_version.ensures.end (c.in-Ok.ensures.run old.core start) c.in-Ok.ensures.kept (told.of, told.whole) c.follow.ensures
    (λ first before h. two-posted g.B.BoardAt.posts first c.post_version.new.board before post.Begun (post.Published c.in-Ok.fresh.told c.in-Ok.fresh.number c.args.now) (c.post_version.ensures.posts first (before ++ post.Begun ∷ []) (c.post.ensures.posts first before h)))

pub returns-in-Err-clause-load : goal.returns-in-Err-clause-load
returns-in-Err-clause-load g c =
    let old = c.args.self.now in
    let b = begun-at old.core c.counts-core.result c.step.new.self c.step.result c.in-Begun.field-0 c.counts-core.ensures.core c.counts-core.ensures.idle c.step.ensures.core c.step.ensures.effect c.in-Begun.is in
    let start = start-at old.core c.counts-core.result c.step.new.self c.counts-core.ensures.core c.step.ensures.core in
    let fewer = subst (λ (k : DictCore). k.published ≤ k.loads) c.counts-core.ensures.core c.counts-core.ensures.fewer in
    load-failed _ _ _ _ _ c.args.now old c.leave.new.self _ _ c.step.new.self c.run.new.core b fewer start c.requires.at
    g.row.P-Told.Denot c.in-Err.fault c.post_fault.result c.post_fault.ensures.end (c.in-Err.ensures.run old.core start) c.leave.ensures
    (λ first before h. two-posted g.B.BoardAt.posts first c.post_fault.new.board before post.Begun (post.Failed (posted_cause c.in-Err.fault) c.args.now) (c.post_fault.ensures.posts first (before ++ post.Begun ∷ []) (c.post.ensures.posts first before h)))

pub follow-requires-clause-idle : goal.follow-requires-clause-idle
follow-requires-clause-idle g c =
    (ended-at _ _ _ _ _ _ _ c.args.self.now.core c.counts-core.result c.step.new.self c.run.new.core c.step.result c.in-Begun.field-0 c.counts-core.ensures.core c.counts-core.ensures.idle c.counts-core.ensures.fewer c.step.ensures.core c.step.ensures.effect c.in-Begun.is (load.Published c.in-Ok.fresh.number) c.in-Ok.ensures.run).idle

pub follow-requires-clause-fewer : goal.follow-requires-clause-fewer
follow-requires-clause-fewer g c =
    (ended-at _ _ _ _ _ _ _ c.args.self.now.core c.counts-core.result c.step.new.self c.run.new.core c.step.result c.in-Begun.field-0 c.counts-core.ensures.core c.counts-core.ensures.idle c.counts-core.ensures.fewer c.step.ensures.core c.step.ensures.effect c.in-Begun.is (load.Published c.in-Ok.fresh.number) c.in-Ok.ensures.run).fewer

pub leave-requires-clause-idle : goal.leave-requires-clause-idle
leave-requires-clause-idle g c =
    (ended-at _ _ _ _ _ _ _ c.args.self.now.core c.counts-core.result c.step.new.self c.run.new.core c.step.result c.in-Begun.field-0 c.counts-core.ensures.core c.counts-core.ensures.idle c.counts-core.ensures.fewer c.step.ensures.core c.step.ensures.effect c.in-Begun.is (load_end_of {T = g.row.P-Told.Denot} (Err c.in-Err.fault)) c.in-Err.ensures.run).idle

pub leave-requires-clause-fewer : goal.leave-requires-clause-fewer
leave-requires-clause-fewer g c =
    (ended-at _ _ _ _ _ _ _ c.args.self.now.core c.counts-core.result c.step.new.self c.run.new.core c.step.result c.in-Begun.field-0 c.counts-core.ensures.core c.counts-core.ensures.idle c.counts-core.ensures.fewer c.step.ensures.core c.step.ensures.effect c.in-Begun.is (load_end_of {T = g.row.P-Told.Denot} (Err c.in-Err.fault)) c.in-Err.ensures.run).fewer
