-- Where the loop ends, the stretch is painted.
use Rattle.std.proofs.Common.{arith}
use Rattle.range_layout.proofs.Painting.{painted-all, painted-more}
use Rattle.range_layout.proofs.paint.paint.Goals as goal

pub returns-else-borders-at-clause-painted : goal.returns-else-borders-at-clause-painted
returns-else-borders-at-clause-painted c =
    let q = c.requires in
    let stop = c.if-borders-at.false in
    let e = c.end_of-end.ensures in
    painted-all c.args.borders.now c.args.stretch c.args.row c.place_in-start.result q.rises c.args.winners.now.items c.loop-at.at c.loop-at.winners.items c.place_in-start.ensures.within
    (let i = c.place_in-start.ensures.is in let s = c.start_of.ensures in omega (arith, i, s)) (λ l. omega (arith, stop, e)) c.loop-at.invariant.painted

pub returns-after-loop-at-clause-painted : goal.returns-after-loop-at-clause-painted
returns-after-loop-at-clause-painted c =
    let q = c.requires in
    let past = c.loop-at-test.false in
    painted-all c.args.borders.now c.args.stretch c.args.row c.place_in-start.result q.rises c.args.winners.now.items c.loop-at.at c.loop-at.winners.items c.place_in-start.ensures.within
    (let i = c.place_in-start.ensures.is in let s = c.start_of.ensures in omega (arith, i, s)) (λ l. absurd (omega (arith, past, l))) c.loop-at.invariant.painted

pub loop-at-preserved : goal.loop-at-preserved
loop-at-preserved c =
    let q = c.requires in
    let i = c.loop-at.invariant in
    let s = c.skip-at-in-loop-at.ensures in
    let within = s.within in
    let len = s.len in
    let old_len = i.len in
    let one_len = c.paint_one.ensures.len in
    let first_len = c.skip-at.ensures.len in
    let given_len = q.len in
    let inside = c.if-borders-at.true in
    let e = c.end_of-end.ensures in
    let after = s.after in
    record {
      within = omega (arith, within, len, old_len, one_len, first_len, given_len);
      painted = painted-more c.args.borders.now c.args.stretch c.args.row c.place_in-start.result q.rises c.args.winners.now.items c.loop-at.at c.skip-at-in-loop-at.result
          c.loop-at.winners.items c.paint_one.new.winners.items (omega (arith, after)) (omega (arith, inside, e)) i.painted c.paint_one.ensures.painted (s.painted c.paint_one.new.winners.items c.paint_one.ensures.skips);
      len = omega (arith, len, old_len, one_len);
      leads = s.leads;
      skips = s.skips c.paint_one.new.winners.items c.paint_one.ensures.skips;
    }
