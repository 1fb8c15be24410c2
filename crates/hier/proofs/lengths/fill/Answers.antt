-- A member more is counted.
use Rattle.std.proofs.Common.{◌≡◌, ◌<◌, ◌+◌, ◌-◌, ◌∙◌, get_or, set, ap, arith, subst, sym}
use Rattle.hier.specs.Members.{above}
use Rattle.hier.specs.steps.Counting.{IsFilled}
use Rattle.hier.proofs.Above.{above-more, above-none}
use Rattle.hier.proofs.Walks.{fill-more, fill-none}
use Rattle.hier.proofs.lengths.fill.Goals as goal
use Rattle.hier.proofs.lengths.fill.Goals.{then-place-walk, else-place-walk}

pub loop-place-init : goal.loop-place-init
loop-place-init c = record {
  at = λ l. sym (above-none c.args.ups.now c.args.start);
  filled = fill-none c.args.ups.now c.args.lengths.now c.args.start c.args.walk;
}

pub loop-place-preserved : goal.loop-place-preserved
loop-place-preserved c =
    let ups = c.args.ups.now in
    let l = c.loop-place in
    let within : l.place < c.args.walk.count = c.loop-place-test.true in
    let is : l.at ≡ above ups l.place c.args.start = l.invariant.at within in
    record {
      at = λ less. elim c.if-place-walk.branch [
        | then-place-walk w ↦ w.at-is ∙ (ap (λ m. get_or ups m 0 - 1) is ∙ sym (above-more ups l.place c.args.start))
        | else-place-walk w ↦ absurd (let most = w.if-place-walk.false in omega (arith, most, less))
      ];
      filled = subst (λ k. IsFilled ups c.args.lengths.now (set l.lengths l.at (c.args.walk.behind + (c.args.walk.count - k))) c.args.start c.args.walk (l.place + 1)) (sym c.min.ensures)
          (fill-more ups c.args.lengths.now l.lengths c.args.start l.at l.place c.args.walk l.invariant.filled within is
          (λ i less. let w = c.requires.within i less in let e = c.requires.len in let f = l.invariant.filled.len in omega (arith, w, e, f)) c.requires.apart);
    }
