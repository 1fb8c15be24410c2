-- One rank more.
use Rattle.std.specs.Prelude.{Contains}
use Rattle.std.proofs.Common.{◌≡◌, ◌++◌, ◌∷◌, ℕ, zero, suc, [], inl, inr, sym, ◌∙◌, arith, rules, below_more}
use Rattle.range_layout.specs.Stretches.{stretch_at, rank_of}
use Rattle.range_layout.specs.Points.{ends_of_row}
use Rattle.range_layout.proofs.Rising.{grown-cases, grown-left, grown-right}
use Rattle.range_layout.proofs.ranks.ranks_of.Goals as goal

pub loop-row-preserved : goal.loop-row-preserved
loop-row-preserved c =
    let i = c.loop-row.invariant in
    let old = c.loop-row.ranks.items in
    let rank = c.rank_of-rank.result in
    let new = c.push.new.self.items in
    let is : new ≡ old ++ rank ∷ [] = search rules in
    let of : ℕ → ℕ = λ row. rank_of c.args.strategy (ends_of_row c.args.ends.now row) (stretch_at c.args.stretches.now row) row in
    record {
      each = below_more (λ row. Contains new (of row)) c.loop-row.row
          (λ row l. grown-left old (rank ∷ []) new (of row) is (i.each row l))
          (grown-right old (rank ∷ []) new (of c.loop-row.row) is (0, omega arith, c.rank_of-rank.ensures));
      origin = λ border h. elim (grown-cases old (rank ∷ []) new border is h) [
        | inl before ↦ let o = i.origin border before in let l = o.1 in (o.0, omega (arith, l), o.2)
        | inr (zero, l, here) ↦ (c.loop-row.row, omega arith, sym here ∙ c.rank_of-rank.ensures)
        | inr (suc k, l, here) ↦ absurd (omega (arith, l))
      ];
    }

pub returns : goal.returns
returns c =
    let r = c.risen.ensures in
    let i = c.loop-row.invariant in
    record {
      rises = r.rises;
      each = λ row l. (r.each _).1 (i.each row (omega (arith, l)));
      origin = λ rank h. let o = i.origin rank ((r.each rank).0 h) in let l = o.1 in (o.0, omega (arith, l), o.2);
    }
