use Rattle.std.proofs.Common.{◌≡◌, ◌≤◌, ℕ, length}
use Rattle.ddl_tokens.specs.steps.Lexer.{after_gap, block}
use Rattle.ddl_tokens.proofs.gaps.after_block.Given as goal

abbrev pub invariant-loop-rest : goal.invariant-loop-rest
invariant-loop-rest l = record { value : (from : ℕ) → after_gap block from l.text ≡ after_gap block from l.rest; within : length l.rest ≤ length l.text }

abbrev pub decreases-loop-rest : goal.decreases-loop-rest
decreases-loop-rest l = length l.rest
