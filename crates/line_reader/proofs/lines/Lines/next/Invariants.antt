use Rattle.std.proofs.Common.{◌≡◌, ◌-◌, length, false}
use Rattle.std.specs.Io.KnownBytes.{prepend_known}
use Rattle.line_reader.proofs.lines.Lines.next.Given as goal

abbrev pub invariant-loop-self : goal.invariant-loop-self
invariant-loop-self g l = record {
  known : prepend_known l.initial.self.ahead (g.S.Source.left l.initial.source) ≡ prepend_known l.self.ahead (g.S.Source.left l.source);
  not_ended : g.S.Source.ended l.source ≡ false;
  still : g.S.Source.read_faults l.source ≡ g.S.Source.read_faults l.initial.source;
  kept : g.S.Source.kept_by_read l.source ≡ g.S.Source.kept_by_read l.initial.source;
}

abbrev pub decreases-loop-self : goal.decreases-loop-self
decreases-loop-self g l = 65537 - length l.self.ahead
