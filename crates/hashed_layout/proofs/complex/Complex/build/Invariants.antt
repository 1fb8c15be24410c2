-- A table of the rows so far.
use Rattle.std.proofs.Common.{◌≡◌, ◌*◌, length}
use Rattle.hashed_layout.specs.steps.KeyFilling.{IsKeyTableTo}
use Rattle.hashed_layout.proofs.complex.Complex.build.Given as goal

abbrev pub invariant-loop-row : goal.invariant-loop-row
invariant-loop-row l = record {
  len : length l.cells.items ≡ 2 * length l.keys;
  table : IsKeyTableTo l.keys l.row l.bytes l.entries l.cells.items;
}
