use Rattle.std.proofs.Common.{ap, subst, sym, List, ℕ}
use Rattle.dict_session.specs.Session.{place}
use Rattle.dict_session.specs.Turns.{IsTurn}
use Rattle.dict_session.proofs.Turning.{asked_in, ended_turn, failed_turn, long_turn, request_faults, request_turn}
use Rattle.dict_session.proofs.session.serve_one.Goals as goal

pub serve_request-requires : goal.serve_request-requires
serve_request-requires g c = asked_in c.in-Request.last _ c.in-Request.asking c.in-Request.ensures.request.2

pub returns-in-Request-clause-turn : goal.returns-in-Request-clause-turn
returns-in-Request-clause-turn g c =
    subst (λ (ahead : List ℕ). IsTurn g.D.Desk.facts (g.D.Desk.state c.args.desk.now) (place c.args.room.now.lines.ahead (g.L.Link.ends c.args.link.now))
    c.serve_request.result (g.D.Desk.state c.serve_request.new.desk) ahead (g.L.Link.ends c.serve_request.new.link) c.args.room.now.floors.items
    c.serve_request.new.room.floors.items) (ap (λ lines. lines.ahead) (sym c.serve_request.ensures.lines))
    (request_turn g.D.Desk.facts _ _ c.in-Request.asking c.in-Request.last c.args.room.now.lines.ahead _ (g.L.Link.ends c.args.link.now) _ _ _ _
    c.serve_request.result c.in-Request.ensures c.serve_request.ensures.turn)

pub returns-in-Request-clause-faults : goal.returns-in-Request-clause-faults
returns-in-Request-clause-faults g c =
    request_faults g.D.Desk.facts _ _ c.in-Request.asking c.in-Request.last c.args.room.now.lines.ahead _ (g.L.Link.ends c.args.link.now) _ _ _ _
    c.serve_request.result c.in-Request.ensures c.serve_request.ensures.turn

pub returns-in-End-clause-turn : goal.returns-in-End-clause-turn
returns-in-End-clause-turn g c =
    ended_turn g.D.Desk.facts _ c.args.room.now.lines.ahead _ (g.L.Link.ends c.args.link.now) _ _ c.in-End.ensures

pub returns-in-TooLong-clause-turn : goal.returns-in-TooLong-clause-turn
returns-in-TooLong-clause-turn g c =
    long_turn g.D.Desk.facts _ c.args.room.now.lines.ahead _ (g.L.Link.ends c.args.link.now) _ _ _ c.close.result c.in-TooLong.ensures c.close.ensures

pub returns-in-Failed-clause-turn : goal.returns-in-Failed-clause-turn
returns-in-Failed-clause-turn g c =
    failed_turn g.D.Desk.facts _ c.args.room.now.lines.ahead _ (g.L.Link.ends c.args.link.now) _ _ c.in-Failed.ensures
