use Rattle.std.proofs.Common.{◌≡◌, false}
use Rattle.dict_session.specs.Session.{place}
use Rattle.dict_session.specs.Turns.{Going}
use Rattle.dict_session.proofs.session.serve_all.Given as goal

abbrev pub invariant-loop-number : goal.invariant-loop-number
invariant-loop-number g l = record {
  going : Going g.D.Desk.facts (g.D.Desk.state l.initial.desk) (place l.initial.room.lines.ahead (g.L.Link.ends l.initial.link))
      (g.D.Desk.state l.desk) (place l.room.lines.ahead (g.L.Link.ends l.link)) l.number l.initial.room.floors.items l.room.floors.items;
  reads : (g.L.Link.ends l.link).reads.faults ≡ (g.L.Link.ends l.initial.link).reads.faults;
  writes : (g.L.Link.ends l.link).writes.faults ≡ (g.L.Link.ends l.initial.link).writes.faults;
  more : (g.L.Link.ends l.link).reads.ended ≡ false;
}
