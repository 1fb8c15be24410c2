use Rattle.std.proofs.Common.{◌≡◌, length, take}
use Rattle.std.specs.List.{AllZip}
use Rattle.dict_value.specs.Values.{FitsColumn}
use Rattle.bench_answers.proofs.versions.push_row.Given as goal

abbrev pub invariant-loop-place : goal.invariant-loop-place
invariant-loop-place l = record {
  types : l.rows.types ≡ l.types;
  place : length l.rows.open_row ≡ l.place;
  same : l.rows.rows ≡ l.initial.rows.rows;
  fit : AllZip FitsColumn (take l.place l.types) l.rows.open_row;
}
