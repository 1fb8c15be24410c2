use Rattle.std.proofs.Common.{◌≡◌, ◌≤◌, ◌+◌, ◌++◌, List, length}
use Rattle.dict_value.specs.declared.value.Value.{Value}
use Rattle.hashed_layout.specs.KeyTables.{IsKeyTableOf}
use Rattle.packed_rows.specs.Columns.{RowList}
use Rattle.overlay.specs.steps.Standing.{IsBetween, StandTo}
use Rattle.overlay.proofs.laying.push_former.Given as goal

abbrev pub invariant-loop-place : goal.invariant-loop-place
invariant-loop-place l = record {
  between : IsBetween l.types l.out;
  few : length l.out.rows ≤ length l.initial.out.rows + l.place;
  stand : (before : List (List Value)) (first : RowList) → length before ≡ length first
      → IsKeyTableOf before l.others.bytes l.others.entries l.others.cells.items
      → StandTo (before ++ l.keys) (first ++ l.rows) (length first) l.initial.out.rows
      → StandTo (before ++ l.keys) (first ++ l.rows) (length first + l.place) l.out.rows;
}
