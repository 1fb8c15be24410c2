-- A table of the rows so far.
use Rattle.std.proofs.Common.{◌≡◌, ◌*◌, length}
use Rattle.hashed_layout.specs.steps.Filling.{IsTableTo}
use Rattle.hashed_layout.proofs.hashed.Hashed.build.Given as goal

abbrev pub invariant-loop-row : goal.invariant-loop-row
invariant-loop-row l = record {
  len : length l.cells.items ≡ 2 * length l.keys;
  table : IsTableTo l.keys l.row l.cells.items;
}
