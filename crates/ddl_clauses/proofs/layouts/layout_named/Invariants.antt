use Rattle.std.proofs.Common.{◌≡◌, length}
use Rattle.ddl_tokens.specs.Reading.{bytes_ahead}
use Rattle.ddl_clauses.specs.Layouts.{layout_named}
use Rattle.ddl_clauses.proofs.layouts.layout_named.Given as goal

abbrev pub invariant-loop-rest : goal.invariant-loop-rest
invariant-loop-rest l = layout_named l.rest (bytes_ahead l.r) ≡ layout_named l.layouts (bytes_ahead l.r)

abbrev pub decreases-loop-rest : goal.decreases-loop-rest
decreases-loop-rest l = length l.rest
