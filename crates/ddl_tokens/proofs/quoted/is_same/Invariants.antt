use Rattle.std.proofs.Common.{◌≡◌, length}
use Rattle.ddl_tokens.specs.Letters.{same_letters}
use Rattle.ddl_tokens.proofs.quoted.is_same.Given as goal

abbrev pub invariant-loop-rest : goal.invariant-loop-rest
invariant-loop-rest l = same_letters l.case (l.rest) l.left ≡ same_letters l.case (l.text) l.word

abbrev pub decreases-loop-rest : goal.decreases-loop-rest
decreases-loop-rest l = length l.rest
