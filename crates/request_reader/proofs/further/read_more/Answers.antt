use Rattle.std.proofs.Common.{◌∙◌, [], arith}
use Rattle.request_reader.proofs.Takings.{more_all, more_end, more_last, so_far_more}
use Rattle.request_reader.proofs.further.read_more.Goals as goal

pub loop-at-preserved : goal.loop-at-preserved
loop-at-preserved g c =
    let inv = c.loop-at.invariant in
    let e = c.in-Whole.ensures in record {
      lines = so_far_more _ _ _ _ _ _ _ c.next_of.new.self inv.lines _ e.next c.line.ensures.line c.add.ensures;
      not_ended = e.ended;
      faults = e.cause.still (λ h. cc) ∙ inv.faults;
      writes = e.writes ∙ inv.writes;
    }

pub returns-in-Last : goal.returns-in-Last
returns-in-Last g c =
    let inv = c.loop-at.invariant in
    let e = c.in-Last.ensures in record {
      lines = more_last _ _ _ _ _ _ _ c.next_of.new.self inv.lines _ _ (omega arith) e.next c.line-in-Last.ensures.line c.add-in-Last.ensures;
      ended = e.ended;
      cause = record { later = omega (arith, inv.faults, e.cause.later); rose = λ h. absurd (cc); still = λ h. e.cause.still (λ k. cc) ∙ inv.faults };
      writes = e.writes ∙ inv.writes;
    }

pub returns-in-End : goal.returns-in-End
returns-in-End g c =
    let inv = c.loop-at.invariant in
    let e = c.in-End.ensures in record {
      lines = more_end _ _ _ _ _ _ [] c.next_of.new.self inv.lines _ (omega arith) e.next;
      ended = e.ended;
      cause = record { later = omega (arith, inv.faults, e.cause.later); rose = λ h. absurd (cc); still = λ h. e.cause.still (λ k. cc) ∙ inv.faults };
      writes = e.writes ∙ inv.writes;
    }

pub returns : goal.returns
returns g c =
    let inv = c.loop-at.invariant in record {
      lines = more_all _ _ (g.L.Link.ends c.args.link.now).reads.known _ _ _ [] c.args.lines.now inv.lines _ (omega arith);
      ended = inv.not_ended;
      cause = record { later = omega (arith, inv.faults); rose = λ h. absurd (cc); still = λ h. inv.faults };
      writes = inv.writes;
    }
