use Rattle.std.proofs.Common.{◌≤◌, ◌++◌, List, length}
use Rattle.dict_value.specs.declared.value.Value.{Value}
use Rattle.packed_rows.specs.Columns.{RowList}
use Rattle.overlay.specs.steps.Standing.{IsBetween, StandTo}
use Rattle.overlay.proofs.laying.push_new.Given as goal

abbrev pub invariant-loop-place : goal.invariant-loop-place
invariant-loop-place l = record {
  between : IsBetween l.types l.out;
  few : length l.out.rows ≤ l.place;
  stand : (later : List (List Value)) (more : RowList) → StandTo (l.keys ++ later) (l.rows ++ more) l.place l.out.rows;
}
