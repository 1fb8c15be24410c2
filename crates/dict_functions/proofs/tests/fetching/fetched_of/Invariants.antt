use Rattle.std.specs.Prelude.{All}
use Rattle.cache_layout.specs.Fetching.{FitsReply}
use Rattle.dict_functions.proofs.tests.fetching.fetched_of.Given as goal

abbrev pub invariant-loop-moment : goal.invariant-loop-moment
invariant-loop-moment l = All (λ fetched. FitsReply l.d fetched.row) l.rows
