use Rattle.std.proofs.Common.{◌≡◌, length}
use Rattle.ddl_tokens.specs.Letters.{same_letters}
use Rattle.ddl_tokens.specs.steps.Lexer.{bytes_in, plain}
use Rattle.ddl_tokens.proofs.quoted.is_quoted.Given as goal

abbrev pub invariant-loop-b : goal.invariant-loop-b
invariant-loop-b l = same_letters l.case (bytes_in l.quote plain l.rest) l.left ≡ same_letters l.case (bytes_in l.quote plain l.text) l.word

abbrev pub decreases-loop-b : goal.decreases-loop-b
decreases-loop-b l = length l.rest
