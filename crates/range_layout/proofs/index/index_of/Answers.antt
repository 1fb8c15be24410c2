-- One key more.
use Rattle.std.proofs.Common.{inl, inr, arith}
use Rattle.std.proofs.lemmas.Bool.{cases_lt}
use Rattle.range_layout.proofs.Filling.{spans-more}
use Rattle.range_layout.proofs.index.index_of.Goals as goal

pub loop-number-preserved : goal.loop-number-preserved
loop-number-preserved c =
    let i = c.loop-number.invariant in
    let f = c.in_ok-at.ensures in
    let order = f.borders.order in
    let few = f.edges.few in
    let old_few = i.few in
    record {
      within = f.borders.within;
      before = λ j l. elim (cases_lt j c.loop-number.at) [
        | inl less ↦ let u = i.before j less in omega (arith, u)
        | inr most ↦ let u = f.borders.same j most l in omega (arith, u)
      ];
      behind = f.behind;
      few = omega (arith, few, old_few);
      spans = spans-more c.args.points.now c.args.borders.now c.args.taken.now c.loop-number.number c.loop-number.spans c.push.new.self c.loop-number.edges c.loop-number.winners
          c.fill_span.new.edges c.fill_span.new.winners c.loop-number.at c.in_ok-at.at (record { start = c.len-start.result; end = c.len.result }) i.spans f.kept.0 f.kept.1 f.same f.borders f.edges
          c.len-start.ensures c.len.ensures c.in_ok-push.ensures.ok;
    }
