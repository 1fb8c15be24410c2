use Rattle.std.proofs.Common.{◌≡◌, length}
use Rattle.ddl_tokens.specs.steps.Lexer.{closes, plain}
use Rattle.ddl_tokens.proofs.quoted.has_end.Given as goal

abbrev pub invariant-loop-rest : goal.invariant-loop-rest
invariant-loop-rest l = closes l.quote plain l.text ≡ closes l.quote plain l.rest

abbrev pub decreases-loop-rest : goal.decreases-loop-rest
decreases-loop-rest l = length l.rest
