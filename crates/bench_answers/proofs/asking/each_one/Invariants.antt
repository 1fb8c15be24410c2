use Rattle.std.specs.Prelude.{All}
use Rattle.dict_functions.specs.Asking.{IsLookup}
use Rattle.bench_answers.proofs.asking.each_one.Given as goal

abbrev pub invariant-loop-place : goal.invariant-loop-place
invariant-loop-place l = All IsLookup l.asked
