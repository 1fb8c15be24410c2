use Rattle.std.proofs.Common.{◌≡◌, ◌++◌, codes}
use Rattle.dict_functions.proofs.Listed.{joined}
use Rattle.dict_functions.proofs.hierarchies.push_listed.Given as goal

abbrev pub invariant-loop-place : goal.invariant-loop-place
invariant-loop-place l = l.out ≡ l.fn.out ++ (codes "[" ++ joined l.numbers l.place)
