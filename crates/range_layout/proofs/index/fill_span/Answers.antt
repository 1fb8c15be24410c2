-- One border more, and the end of a key's borders.
use Rattle.std.proofs.Common.{◌≡◌, ℕ, ◌%◌, ◌^◌, inl, inr, refl, sym, ◌∙◌, subst, arith, get_or, length}
use Rattle.std.proofs.lemmas.Bool.{cases_lt}
use Rattle.range_layout.specs.steps.Filling.{AddsEdge, border_number}
use Rattle.range_layout.proofs.Filling.{added-keeps, edges-added, key-borders, points-less}
use Rattle.range_layout.proofs.Nths.{nth-is}
use Rattle.range_layout.proofs.index.fill_span.Goals as goal

pub loop-at-preserved : goal.loop-at-preserved
loop-at-preserved c =
    let i = c.loop-at.invariant in
    let q = c.requires in
    let points = c.args.points.now in
    let borders = c.args.borders.now in
    let taken = c.args.taken.now in
    let at = c.loop-at.at in
    let within = c.loop-at-test.true in
    let own = c.if-borders-at.true in
    let point = get_or points (get_or borders at 0 % 2 ^ 32) 0 in
    let winner = get_or taken at 0 in
    let adds : AddsEdge c.len-start.result point winner c.loop-at.edges c.loop-at.winners c.add_edge.new.edges c.add_edge.new.winners = c.in_ok-add_edge.ensures in
    let k = added-keeps c.len-start.result point winner c.loop-at.edges c.loop-at.winners c.add_edge.new.edges c.add_edge.new.winners c.args.edges.now c.args.winners.now adds i.kept_edges i.kept_winners i.same in
    let after = i.after in
    record {
      after = omega (arith, after);
      within = omega (arith, within);
      own = λ j a b. elim (cases_lt j at) [
        | inl less ↦ i.own j a less
        | inr most ↦ let e : at ≡ j = omega (arith, most, b) in subst (λ (n : ℕ). border_number borders n ≡ c.args.number) e own
      ];
      same = k.2;
      kept_edges = k.0;
      kept_winners = k.1;
      edges = edges-added points borders taken c.args.from at i.after
          (λ j a b. points-less points borders j at q.borders b within (i.own j a b ∙ sym own))
          c.loop-at.edges c.loop-at.winners c.len-start.result (length c.loop-at.edges) i.edges point winner c.add_edge.new.edges c.add_edge.new.winners
          i.same refl (sym (nth-is points (get_or borders at 0 % 2 ^ 32) (q.borders.within at within))) refl adds;
    }

pub returns-else-borders-at-clause-borders : goal.returns-else-borders-at-clause-borders
returns-else-borders-at-clause-borders c =
    let i = c.loop-at.invariant in
    let q = c.requires in
    (key-borders c.args.borders.now c.args.number c.args.from c.loop-at.at q.borders.rises q.before q.behind i.after i.within i.own (λ l. c.if-borders-at.false)).0

pub returns-else-borders-at-clause-behind : goal.returns-else-borders-at-clause-behind
returns-else-borders-at-clause-behind c =
    let i = c.loop-at.invariant in
    let q = c.requires in
    (key-borders c.args.borders.now c.args.number c.args.from c.loop-at.at q.borders.rises q.before q.behind i.after i.within i.own (λ l. c.if-borders-at.false)).1
