use Rattle.std.specs.Prelude.{All}
use Rattle.dict_value.specs.Values.{FitsColumn}
use Rattle.dict_functions.proofs.tests.calls.given_values.Given as goal

abbrev pub invariant-loop-cell : goal.invariant-loop-cell
invariant-loop-cell l = All (FitsColumn l.ty) l.values
