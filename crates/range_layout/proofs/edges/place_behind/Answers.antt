-- The lower or the upper half.
use Rattle.std.proofs.Common.{◌-◌, arith}
use Rattle.range_layout.proofs.Halving.{above-more, below-more, halved-more}
use Rattle.range_layout.proofs.edges.place_behind.Goals as goal

pub loop-low-preserved-then-at-point : goal.loop-low-preserved-then-at-point
loop-low-preserved-then-at-point g c =
    let i = c.loop-low.invariant in
    let after = i.after in
    let within = i.within in
    record {
      after = omega (arith, after);
      order = omega arith;
      within = i.within;
      below = λ r. below-more c.args.edges.now c.args.start c.args.end c.args.point _ c.at.result r (omega (arith, after)) (omega (arith, within)) c.at.ensures.item c.if-at-point.true;
      above = i.above;
      halved = halved-more _ (c.loop-low.high - c.loop-low.low) _ _ _ _ (omega arith) (omega arith) c.at.ensures.bound i.halved;
    }

pub loop-low-preserved : goal.loop-low-preserved
loop-low-preserved g c =
    let i = c.loop-low.invariant in
    let after = i.after in
    let within = i.within in
    record {
      after = omega (arith, after);
      order = omega arith;
      within = omega (arith, within);
      below = i.below;
      above = λ r. above-more c.args.edges.now c.args.start c.args.end c.args.point _ c.at.result r (omega (arith, after)) (omega (arith, within)) c.at.ensures.item c.if-at-point.false;
      halved = halved-more _ (c.loop-low.high - c.loop-low.low) _ _ _ _ (omega arith) (omega arith) c.at.ensures.bound i.halved;
    }
