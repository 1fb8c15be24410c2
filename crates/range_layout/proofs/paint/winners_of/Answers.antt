-- One rank more.
use Rattle.std.proofs.Common.{◌≡◌, inl, refl, ◌∙◌, subst, arith, get_or, length}
use Rattle.range_layout.specs.Stretches.{stretch_at}
use Rattle.range_layout.specs.steps.Painting.{IsPainted, TellsFirst, row_at}
use Rattle.range_layout.proofs.Painting.{tells-more}
use Rattle.range_layout.proofs.paint.winners_of.Goals as goal

pub paint-requires-clause-start : goal.paint-requires-clause-start
paint-requires-clause-start c =
    let is = c.row_of-row.ensures in
    let q = c.requires.rows c.loop-rank.rank-index c.loop-rank-test.true in
    c.requires.borders.each c.row_of-row.result _ (omega (arith, is, q)) (inl refl)

pub loop-rank-preserved : goal.loop-rank-preserved
loop-rank-preserved c =
    let i = c.loop-rank.invariant in
    let stretches = c.args.stretches.now in
    let ranks = c.args.ranks.now in
    let borders = c.args.borders.now in
    let at = c.loop-rank.rank-index in
    let p = c.paint.ensures.painted in
    let len = p.len in
    let old_len = i.len in
    let row : c.row_of-row.result ≡ row_at ranks at = c.row_of-row.ensures in
    let p : IsPainted borders (stretch_at stretches (row_at ranks at)) (row_at ranks at) c.loop-rank.winners.items c.paint.new.winners.items =
    subst (λ r. IsPainted borders (stretch_at stretches r) r c.loop-rank.winners.items c.paint.new.winners.items) row c.paint.ensures.painted in
    record {
      len = len ∙ old_len;
      next = c.paint.ensures.len ∙ i.next;
      leads = c.paint.ensures.leads;
      skips = c.paint.ensures.skips;
      told = λ k l. tells-more stretches ranks at (get_or borders k 0) (get_or c.loop-rank.winners.items k 0) (get_or c.paint.new.winners.items k 0) (c.requires.rows at c.loop-rank-test.true) (i.told k l)
          (p.kept k) (p.here k l) (p.others k l);
    }

pub returns-clause-told : goal.returns-clause-told
returns-clause-told c = λ k l.
    let e : c.loop-rank.rank-index ≡ length c.args.ranks.now = let t = c.loop-rank-test.false in let u = c.loop-rank.auto.rank-index-end in omega (arith, t, u) in
    subst (λ n. TellsFirst c.args.stretches.now c.args.ranks.now n (get_or c.args.borders.now k 0) (get_or c.loop-rank.winners.items k 0)) e (c.loop-rank.invariant.told k l)
