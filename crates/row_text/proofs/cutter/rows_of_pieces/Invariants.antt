use Rattle.std.proofs.Common.{◌≡◌, ◌++◌, List, ℕ, take}
use Rattle.std.specs.List.{AllByRecursion, flat_map}
use Rattle.row_text.specs.Cutting.{IsWhole, ended}
use Rattle.row_text.specs.Held.{IsBehindRow}
use Rattle.row_text.proofs.cutter.rows_of_pieces.Given as goal

abbrev pub invariant-loop-piece : goal.invariant-loop-piece
invariant-loop-piece l = record {
  held : IsBehindRow l.fn.rule l.cutter l.rest;
  whole : AllByRecursion (IsWhole l.fn.rule) l.rows;
  joined : flat_map (λ (p : List ℕ). p) (take l.piece-index l.pieces) ≡ flat_map ended l.rows ++ l.rest;
}
