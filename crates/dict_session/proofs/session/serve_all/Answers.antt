use Rattle.std.proofs.Common.{refl, ◌∙◌, arith}
use Rattle.dict_session.proofs.Running.{going_ends, going_more, going_none, going_spent}
use Rattle.dict_session.proofs.session.serve_all.Goals as goal

pub loop-number-init : goal.loop-number-init
loop-number-init g c = record { going = going_none g.D.Desk.facts _ _ _; reads = refl; writes = refl; more = c.requires }

pub returns-in-Over-clause-ending : goal.returns-in-Over-clause-ending
returns-in-Over-clause-ending g c =
    let turn = c.in-Over.ensures.turn in
    going_ends g.D.Desk.facts _ _ _ _ _ _ c.in-Over.end _ _ _ _ c.loop-number.invariant.going turn.0 turn.1

pub loop-number-preserved : goal.loop-number-preserved
loop-number-preserved g c =
    let inv = c.loop-number.invariant in
    let faults = c.in-More.ensures.faults in record {
      going = going_more g.D.Desk.facts _ _ _ _ _ _ _ _ _ _ inv.going c.in-More.ensures.turn;
      reads = faults.0 ∙ inv.reads;
      writes = faults.1 ∙ inv.writes;
      more = faults.2;
    }

pub returns-clause-ending : goal.returns-clause-ending
returns-clause-ending g c = going_spent g.D.Desk.facts _ _ _ _ _ _ _ _ c.loop-number.invariant.going (omega arith)
