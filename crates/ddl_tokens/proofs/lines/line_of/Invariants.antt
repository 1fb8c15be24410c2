use Rattle.std.proofs.Common.{◌≡◌, ◌+◌}
use Rattle.std.specs.Prelude.{◌==◌, take}
use Rattle.std.specs.List.{count_by}
use Rattle.ddl_tokens.proofs.lines.line_of.Given as goal

abbrev pub invariant-loop-b : goal.invariant-loop-b
invariant-loop-b l = l.line ≡ 1 + count_by (λ b. b == 10) (take l.b-index (take l.place l.text))
