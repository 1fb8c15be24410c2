use Rattle.std.proofs.Common.{◌≡◌, [], All}
use Rattle.std.specs.List.{AllZip}
use Rattle.dict_value.specs.Values.{FitsColumn}
use Rattle.dict_functions.proofs.tests.making.rows_of.Given as goal

abbrev pub invariant-loop-cells : goal.invariant-loop-cells
invariant-loop-cells l = record {
  types : l.rows.types ≡ l.types;
  none : l.rows.open_row ≡ [];
  fit : All (AllZip FitsColumn l.types) l.rows.rows;
}
