use Rattle.std.proofs.Common.{◌≡◌, []}
use Rattle.packed_rows.proofs.tests.rows_of.Given as goal

abbrev pub invariant-loop-cells : goal.invariant-loop-cells
invariant-loop-cells l = (l.rows.types ≡ l.types) × (l.rows.open_row ≡ [])
