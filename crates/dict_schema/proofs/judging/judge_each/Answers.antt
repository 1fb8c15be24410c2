use Rattle.std.proofs.Common.{arith}
use borrow.Author.Count.{below_more}
use Rattle.dict_schema.specs.Judging.{IsClear}
use Rattle.dict_schema.proofs.Judged.{each-clear, each-first}
use Rattle.dict_schema.proofs.judging.judge_each.Goals as goal

pub returns-in-Err : goal.returns-in-Err
returns-in-Err g c =
    each-first (g.R.Rules.rule_at c.args.rules.now) _ c.loop-place.place _ (omega arith) c.loop-place.invariant c.in-Err.ensures

pub loop-place-preserved : goal.loop-place-preserved
loop-place-preserved g c =
    below_more (λ k. IsClear (g.R.Rules.rule_at c.args.rules.now k)) c.loop-place.place c.loop-place.invariant c.in_default.ensures

pub returns : goal.returns
returns g c = each-clear (g.R.Rules.rule_at c.args.rules.now) _ (λ k l. c.loop-place.invariant k (omega arith))
