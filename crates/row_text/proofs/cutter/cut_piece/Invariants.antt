use Rattle.std.proofs.Common.{◌≡◌, ◌++◌, List, ℕ, length}
use Rattle.std.specs.List.{AllByRecursion, flat_map}
use Rattle.row_text.specs.Cutting.{IsWhole, ended}
use Rattle.row_text.specs.Held.{IsBehindRow}
use Rattle.row_text.specs.declared.cutter.CutRule.{CutRule}
use Rattle.row_text.proofs.cutter.cut_piece.Given as goal

abbrev pub invariant-loop-count : goal.invariant-loop-count
invariant-loop-count l = (rule : CutRule) → IsBehindRow rule l.fn.cutter l.fn.row → IsBehindRow rule l.cutter l.row
    × ((ended_rows : List (List ℕ)) × (l.rows ≡ l.fn.rows ++ ended_rows) × AllByRecursion (IsWhole rule) ended_rows
    × (l.fn.row ++ l.piece ≡ flat_map ended ended_rows ++ (l.row ++ l.left)))

abbrev pub decreases-loop-count : goal.decreases-loop-count
decreases-loop-count l = length l.left
