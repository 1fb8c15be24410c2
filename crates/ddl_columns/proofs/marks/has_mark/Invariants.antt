use Rattle.std.proofs.Common.{◌≡◌, length}
use Rattle.ddl_tokens.specs.Lists.{has_number}
use Rattle.ddl_columns.specs.Marks.{mark_number}
use Rattle.ddl_columns.proofs.marks.has_mark.Given as goal

abbrev pub invariant-loop-rest : goal.invariant-loop-rest
invariant-loop-rest l = has_number mark_number l.number l.rest ≡ has_number mark_number l.number l.marks

abbrev pub decreases-loop-rest : goal.decreases-loop-rest
decreases-loop-rest l = length l.rest
