-- The probe meets another key.
use Rattle.std.proofs.Common.{◌≡◌, ◌∙◌, length, subst}
use Rattle.std.proofs.lemmas.Option.{slice_get-get_or}
use borrow.Author.Count.{below_more}
use Rattle.hashed_layout.specs.Probing.{probed}
use Rattle.hashed_layout.proofs.TableLemmas.{passes-here}
use Rattle.hashed_layout.proofs.hashed.seek.Goals as goal

pub loop-probe-preserved : goal.loop-probe-preserved
loop-probe-preserved c =
    let cells = c.args.cells.now in
    let is = subst (λ home. c.probed-at.result ≡ probed (length cells) home c.loop-probe.probe) c.home_of-home.ensures.value c.probed-at.ensures.value in
    below_more _ _ c.loop-probe.invariant
    (passes-here cells _ c.probed-at.result c.args.key c.loop-probe.probe _ (slice_get-get_or cells c.probed-at.result _ c.probed-at.ensures.within) c.if-cell-eq0.false (λ e. c.if-key_of-key.false (c.key_of.ensures ∙ e)) is)
