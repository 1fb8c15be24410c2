use Rattle.std.proofs.Common.{◌≡◌, false}
use Rattle.std.specs.Io.KnownBytes.{prepend_known}
use Rattle.request_reader.proofs.Takings.{SoFar}
use Rattle.request_reader.proofs.further.read_more.Given as goal

abbrev pub invariant-loop-at : goal.invariant-loop-at
invariant-loop-at g l = record {
  lines : SoFar (prepend_known l.initial.lines.ahead (g.L.Link.ends l.initial.link).reads.known) l.at l.further l.lines.ahead
      (g.L.Link.ends l.link).reads.known;
  not_ended : (g.L.Link.ends l.link).reads.ended ≡ false;
  faults : (g.L.Link.ends l.link).reads.faults ≡ (g.L.Link.ends l.initial.link).reads.faults;
  writes : (g.L.Link.ends l.link).writes ≡ (g.L.Link.ends l.initial.link).writes;
}
