use Rattle.std.proofs.Common.{◌≡◌, ◌++◌, ℕ, List, take}
use Rattle.row_text.specs.Cutting.{IsOpen, keeps_open}
use Rattle.row_text.proofs.cutter.row_end.Given as goal

abbrev pub invariant-loop-place : goal.invariant-loop-place
invariant-loop-place l = (row : List ℕ) → IsOpen l.rule row → l.before ≡ keeps_open l.rule row
    → IsOpen l.rule (row ++ take l.place l.piece) × (l.inside ≡ keeps_open l.rule (row ++ take l.place l.piece))
