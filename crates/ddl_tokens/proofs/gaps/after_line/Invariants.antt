use Rattle.std.proofs.Common.{◌≡◌, ◌≤◌, length}
use Rattle.ddl_tokens.specs.steps.Lexer.{after_gap, line}
use Rattle.ddl_tokens.proofs.gaps.after_line.Given as goal

abbrev pub invariant-loop-rest : goal.invariant-loop-rest
invariant-loop-rest l = record { value : after_gap line 0 l.text ≡ after_gap line 0 l.rest; within : length l.rest ≤ length l.text }

abbrev pub decreases-loop-rest : goal.decreases-loop-rest
decreases-loop-rest l = length l.rest
