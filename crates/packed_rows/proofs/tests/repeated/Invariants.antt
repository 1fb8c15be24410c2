use Rattle.std.proofs.Common.{◌≡◌, []}
use Rattle.packed_rows.proofs.tests.repeated.Given as goal

abbrev pub invariant-loop : goal.invariant-loop
invariant-loop l = (l.rows.types ≡ l.types) × (l.rows.open_row ≡ [])
