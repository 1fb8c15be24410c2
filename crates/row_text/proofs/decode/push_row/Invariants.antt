use Rattle.std.proofs.Common.{◌≡◌, take}
use Rattle.row_text.proofs.decode.push_row.Given as goal

abbrev pub invariant-loop-value : goal.invariant-loop-value
invariant-loop-value l = record {
  types : l.rows.types ≡ l.initial.rows.types;
  rows : l.rows.rows ≡ l.initial.rows.rows;
  values : l.rows.open_row ≡ take l.value-index l.value-items;
}
