use Rattle.std.proofs.Common.{◌≤◌, length}
use Rattle.ddl_tokens.specs.Lists.{SoFar}
use Rattle.ddl_columns.specs.Reading.{next_mark}
use Rattle.ddl_columns.proofs.marks.more_marks.Given as goal

abbrev pub invariant-loop-marks : goal.invariant-loop-marks
invariant-loop-marks l = record { so_far : SoFar (next_mark) l.initial.marks l.initial.r l.marks l.r; shorter : length l.r ≤ length l.initial.r }

abbrev pub decreases-loop-marks : goal.decreases-loop-marks
decreases-loop-marks l = length l.r
