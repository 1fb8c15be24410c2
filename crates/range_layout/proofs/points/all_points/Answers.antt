-- One range more.
use Rattle.std.specs.Option.{option_to_list}
use Rattle.std.specs.Prelude.{Contains, MatchOption}
use Rattle.std.proofs.Common.{◌≡◌, ◌<◌, ◌^◌, ◌++◌, ◌∷◌, ℕ, Option, Some, None, length, ap, arith, length-append, below_more}
use Rattle.range_layout.specs.Points.{low_point, past_point, ends_of_row}
use Rattle.range_layout.proofs.Both.{both-second, length-both}
use Rattle.range_layout.proofs.Rising.{grown-left, grown-right}
use Rattle.range_layout.proofs.points.all_points.Goals as goal

past-is : (o : Option ℕ) (n : ℕ) → MatchOption o (n ≡ 2 ^ 128) (λ p. p ≡ n) → n < 2 ^ 128 → o ≡ Some n
past-is None n e l = absurd (omega (arith, e, l))
past-is (Some p) n e l = ap Some e

pub loop-range-preserved : goal.loop-range-preserved
loop-range-preserved c =
    let i = c.loop-range.invariant in
    let old = c.loop-range.all.items in
    let both = c.low_point.result ∷ option_to_list c.past_point.result in
    let new = c.push_both.new.all.items in
    let is : new ≡ old ++ both = c.in_ok-push_both.ensures in
    let ends = c.args.ends.now in
    let at = c.loop-range.range-index in
    record {
      low = below_more (λ row. Contains new (low_point (ends_of_row ends row).low)) at
          (λ row l. grown-left old both new (low_point (ends_of_row ends row).low) is (i.low row l))
          (grown-right old both new (low_point (ends_of_row ends at).low) is (0, omega arith, c.low_point.ensures.is));
      past = below_more (λ row. past_point (ends_of_row ends row).high < 2 ^ 128 → Contains new (past_point (ends_of_row ends row).high)) at
          (λ row l small. grown-left old both new (past_point (ends_of_row ends row).high) is (i.past row l small))
          (λ small. grown-right old both new (past_point (ends_of_row ends at).high) is
          (both-second c.low_point.result c.past_point.result (past_point (ends_of_row ends at).high) (past-is c.past_point.result (past_point (ends_of_row ends at).high) c.past_point.ensures.is small)));
      len =
          let l = i.len in
          let m = length-both c.low_point.result c.past_point.result in
          omega (arith, l, m, length-append old both, ap length is);
    }
