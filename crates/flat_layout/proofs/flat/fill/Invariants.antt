-- Each cell tells of the rows so far.
use Rattle.std.proofs.Common.{◌≡◌, ◌<◌, ℕ, length, get_or}
use Rattle.flat_layout.specs.steps.Filling.{CellTells}
use Rattle.flat_layout.proofs.flat.fill.Given as goal

abbrev pub invariant-loop-row : goal.invariant-loop-row
invariant-loop-row l = record {
  len : length l.cells ≡ length l.fn.cells;
  told : (key : ℕ) → key < length l.cells → CellTells l.keys l.row key (get_or l.cells key 0);
}
