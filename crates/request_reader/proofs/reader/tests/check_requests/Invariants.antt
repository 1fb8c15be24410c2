use Rattle.std.proofs.Common.{◌≡◌, false}
use Rattle.request_reader.proofs.reader.tests.check_requests.Given as goal

abbrev pub invariant-loop-want : goal.invariant-loop-want
invariant-loop-want g l = (g.L.Link.ends l.link).reads.ended ≡ false
