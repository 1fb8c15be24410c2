use Rattle.std.proofs.Common.{◌≡◌, length}
use Rattle.ddl_text.specs.Items.{is_named}
use Rattle.ddl_text.proofs.judging.is_named.Given as goal

abbrev pub invariant-loop-rest : goal.invariant-loop-rest
invariant-loop-rest l = is_named l.kind l.name l.rest ≡ is_named l.kind l.name l.items

abbrev pub decreases-loop-rest : goal.decreases-loop-rest
decreases-loop-rest l = length l.rest
