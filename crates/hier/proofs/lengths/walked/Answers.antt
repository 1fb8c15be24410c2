-- The walk goes on, or ends.
use Rattle.std.proofs.Common.{◌<◌, ◌+◌, ◌-◌, ◌∙◌, get_or, inl, inr, ap, arith, subst, sym, below_more}
use Rattle.hier.proofs.Above.{above-more, above-none}
use Rattle.hier.proofs.Walks.{unmarked-start, walk-known, walk-met, walk-more, walk-none, walk-round, zeros-set}
use Rattle.hier.proofs.lengths.walked.Goals as goal
use Rattle.hier.proofs.lengths.walked.Goals.{then-rows-at-eq0-via-then-rows-at-eq0, then-rows-at-eq0-via-else-rows-at-eq0+then-lengths-at-ne0}

pub loop-at-init : goal.loop-at-init
loop-at-init c = record {
  walked = walk-none c.args.ups.now c.args.rows.now c.args.lengths.now c.args.places.now c.args.start;
  linked = λ i l. absurd (omega (arith, l));
  at = sym (above-none c.args.ups.now c.args.start);
  within = c.requires.within;
  row = c.requires.row;
  fresh = c.requires.fresh;
  unmarked = unmarked-start _ _ _ _ _ c.args.start c.requires.counted c.requires.fresh;
}

pub returns-then-ups-at-eq0-clause-walked : goal.returns-then-ups-at-eq0-clause-walked
returns-then-ups-at-eq0-clause-walked c =
    let i = c.loop-at.invariant in
    walk-more _ _ _ _ c.loop-at.places c.args.start c.loop-at.at c.loop-at.count i.walked i.linked i.at i.within (i.walked.len ∙ c.requires.counted.places_len) i.row i.fresh i.unmarked

pub returns-then-rows-at-eq0-clause-walked : goal.returns-then-rows-at-eq0-clause-walked
returns-then-rows-at-eq0-clause-walked c =
    let i = c.loop-at.invariant in
    walk-more _ _ _ _ c.loop-at.places c.args.start c.loop-at.at c.loop-at.count i.walked i.linked i.at i.within (i.walked.len ∙ c.requires.counted.places_len) i.row i.fresh i.unmarked

pub returns-then-rows-at-eq0-clause-ends : goal.returns-then-rows-at-eq0-clause-ends
returns-then-rows-at-eq0-clause-ends c =
    walk-known c.args.ups.now c.args.rows.now c.args.lengths.now c.args.start c.loop-at.at c.loop-at.count c.loop-at.invariant.at (omega arith)
    (elim c.then-rows-at-eq0.branch [
      | then-rows-at-eq0-via-then-rows-at-eq0 w ↦ inl w.if-rows-at-eq0.true
      | then-rows-at-eq0-via-else-rows-at-eq0+then-lengths-at-ne0 w ↦ inr (omega arith)
    ])

pub returns-then-places-at-ne0-clause-walked : goal.returns-then-places-at-ne0-clause-walked
returns-then-places-at-ne0-clause-walked c =
    let i = c.loop-at.invariant in
    walk-more _ _ _ _ c.loop-at.places c.args.start c.loop-at.at c.loop-at.count i.walked i.linked i.at i.within (i.walked.len ∙ c.requires.counted.places_len) i.row i.fresh i.unmarked

pub returns-then-places-at-ne0-clause-ends : goal.returns-then-places-at-ne0-clause-ends
returns-then-places-at-ne0-clause-ends c =
    let i = c.loop-at.invariant in
    let on = walk-more _ _ _ _ c.loop-at.places c.args.start c.loop-at.at c.loop-at.count i.walked i.linked i.at i.within (i.walked.len ∙ c.requires.counted.places_len) i.row i.fresh i.unmarked in
    walk-round c.args.ups.now c.args.rows.now c.args.lengths.now c.args.start c.loop-at.at c.loop-at.count _ i.at (omega arith)
    (walk-met _ _ _ _ _ c.args.start _ (c.loop-at.count + 1) c.requires.counted on c.if-lengths-at-ne0.false c.if-places-at-ne0.true)

pub loop-at-smaller : goal.loop-at-smaller
loop-at-smaller c =
    let i = c.loop-at.invariant in
    let z = zeros-set c.loop-at.places c.loop-at.at c.loop-at.count (let a = i.walked.len in let b = c.requires.counted.places_len in let w = i.within in omega (arith, a, b, w)) i.unmarked in
    omega (arith, z)

pub loop-at-preserved : goal.loop-at-preserved
loop-at-preserved c =
    let i = c.loop-at.invariant in
    let ups = c.args.ups.now in
    let up : 0 < get_or ups c.loop-at.at 0 = omega arith in
    let most = c.requires.up c.loop-at.at in
    record {
      walked = walk-more _ _ _ _ c.loop-at.places c.args.start c.loop-at.at c.loop-at.count i.walked i.linked i.at i.within (i.walked.len ∙ c.requires.counted.places_len) i.row i.fresh i.unmarked;
      linked = below_more _ _ i.linked (subst (λ m. 0 < get_or ups m 0) i.at up);
      at = ap (λ m. get_or ups m 0 - 1) i.at ∙ sym (above-more ups c.loop-at.count c.args.start);
      within = omega (arith, up, most);
      row = omega arith;
      fresh = c.if-lengths-at-ne0.false;
      unmarked = c.if-places-at-ne0.false;
    }
