use Rattle.std.proofs.Common.{take}
use Rattle.std.specs.List.{AllZip}
use Rattle.dict_value.specs.Values.{FitsColumn}
use Rattle.dict_functions.specs.Keys.{ReadsAs}
use Rattle.dict_functions.proofs.keys.read_values.Given as goal

abbrev pub invariant-loop-place : goal.invariant-loop-place
invariant-loop-place l = record {
  read : ReadsAs (take l.place l.types) (take l.place l.fields) l.values;
  fit : AllZip FitsColumn (take l.place l.types) l.values;
}
