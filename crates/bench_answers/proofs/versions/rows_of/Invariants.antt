use Rattle.std.proofs.Common.{◌≡◌, [], All}
use Rattle.std.specs.List.{AllZip}
use Rattle.dict_value.specs.Values.{FitsColumn}
use Rattle.bench_answers.proofs.versions.rows_of.Given as goal

abbrev pub invariant-loop-row : goal.invariant-loop-row
invariant-loop-row l = record {
  types : l.made.types ≡ l.types;
  none : l.made.open_row ≡ [];
  fit : All (AllZip FitsColumn l.types) l.made.rows;
}
