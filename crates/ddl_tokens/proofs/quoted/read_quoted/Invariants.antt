use Rattle.std.proofs.Common.{◌≡◌, ◌++◌, length}
use Rattle.ddl_tokens.specs.steps.Lexer.{bytes_in, plain}
use Rattle.ddl_tokens.proofs.quoted.read_quoted.Given as goal

abbrev pub invariant-loop-b : goal.invariant-loop-b
invariant-loop-b l = l.out ++ bytes_in l.quote plain l.rest ≡ bytes_in l.quote plain l.text

abbrev pub decreases-loop-b : goal.decreases-loop-b
decreases-loop-b l = length l.rest
