use Rattle.std.proofs.Common.{◌≡◌, ◌∙◌, sym, subst, arith, [], IfOk}
use Rattle.dict_io.specs.Outside.{Rose}
use Rattle.request_reader.specs.Taking.{IsHeardAs, TakesFor}
use Rattle.request_reader.proofs.Hearing.{taken_last, taken_single}
use Rattle.wire_text.specs.Requests.{LinesAfter}
use Rattle.request_reader.proofs.reader.next_request.Goals as goal

pub returns-then-count-eq0 : goal.returns-then-count-eq0
returns-then-count-eq0 g c =
    let e = c.in-Whole.ensures in
    let held = c.next_of.new.self in record {
      request = taken_single _ _ held.line held.ahead _ e.next.0
          (subst (λ n. LinesAfter held.line n) c.if-count-eq0.true (subst (λ z. LinesAfter z c.lines_after-count.result) c.line.ensures.line c.lines_after-count.ensures))
          e.next.1 (subst (λ z. IsHeardAs z [] 0 [] c.read_single.result) c.line-then-count-eq0.ensures.line c.read_single.ensures);
      ended = e.ended;
      cause = record { later = e.cause.later; rose = λ h. absurd (cc); still = λ h. e.cause.still (λ k. cc) };
      writes = e.writes;
    }

pub returns-else-count-eq0 : goal.returns-else-count-eq0
returns-else-count-eq0 g c =
    let e = c.in-Whole.ensures in
    let held = c.next_of.new.self in
    let same = e.cause.still (λ k. cc) in
    let t = c.take_block.ensures held.line (subst (λ z. IfOk c.copy_of-first.result (λ k. k ≡ z)) c.line-in-Whole.ensures.line c.copy_of-first.ensures)
    e.next.0 (subst (λ z. LinesAfter z c.lines_after-count.result) c.line.ensures.line c.lines_after-count.ensures) in record {
      request = subst (λ z. TakesFor z c.take_block.result c.take_block.new.lines.ahead (g.L.Link.ends c.take_block.new.link).reads.known) (sym e.next.1) t.request;
      ended = t.ended;
      cause = record {
        later = omega (arith, same, t.cause.later);
        rose = λ h. subst (λ n. Rose n (g.L.Link.ends c.take_block.new.link).reads.faults) same (t.cause.rose h);
        still = λ h. t.cause.still h ∙ same;
      };
      writes = t.writes ∙ e.writes;
    }

pub returns-in-Last : goal.returns-in-Last
returns-in-Last g c =
    let e = c.in-Last.ensures in
    let held = c.next_of.new.self in record {
      request = taken_last _ _ held.line held.ahead _ _ e.next.0 e.next.1
          (subst (λ z. LinesAfter z c.lines_after-count-in-Last.result) c.line-in-Last.ensures.line c.lines_after-count-in-Last.ensures)
          e.next.2 e.next.3 e.next.4
          (subst (λ z. IsHeardAs z [] c.lines_after-count-in-Last.result [] c.read_last.result) c.line-in-Last-2.ensures.line c.read_last.ensures);
      ended = e.ended;
      cause = record { later = e.cause.later; rose = λ h. absurd (cc); still = λ h. e.cause.still (λ k. cc) };
      writes = e.writes;
    }
