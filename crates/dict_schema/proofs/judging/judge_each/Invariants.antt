use Rattle.std.proofs.Common.{◌<◌, ℕ}
use Rattle.dict_schema.specs.Judging.{IsClear}
use Rattle.dict_schema.proofs.judging.judge_each.Given as goal

abbrev pub invariant-loop-place : goal.invariant-loop-place
invariant-loop-place g l = (k : ℕ) → k < l.place → IsClear (g.R.Rules.rule_at l.rules k)
