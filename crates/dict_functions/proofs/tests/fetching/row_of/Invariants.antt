use Rattle.std.proofs.Common.{take}
use Rattle.std.specs.List.{AllZip}
use Rattle.dict_value.specs.Values.{FitsColumn}
use Rattle.dict_functions.proofs.tests.fetching.row_of.Given as goal

abbrev pub invariant-loop-place : goal.invariant-loop-place
invariant-loop-place l = AllZip (λ column v. FitsColumn column.ty v) (take l.place l.shape) l.row
