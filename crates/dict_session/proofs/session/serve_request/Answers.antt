use Rattle.std.proofs.Common.{◌∙◌, ap, sym}
use Rattle.dict_session.proofs.Exchanging.{keeps_raised, served_said}
use Rattle.dict_session.specs.Session.{asks_to_quit}
use Rattle.dict_session.specs.Turns.{turn_after, turn_by}
use Rattle.dict_session.proofs.session.serve_request.Goals as goal

pub returns-in-Ok-clause-turn : goal.returns-in-Ok-clause-turn
returns-in-Ok-clause-turn g c =
    let x = c.exchange-answer.ensures in record {
      now = x.now;
      calls = x.calls;
      said = c.send.ensures.0;
      sent = c.send.result;
      moved = x.moved;
      served = served_said _ _ x.now x.calls _ c.send.ensures.0 c.send.ensures.1 x.served;
      kept = keeps_raised _ _ x.now _ _ x.calls c.raise.ensures x.tells;
      puts = c.send.ensures.2;
      turns = c.turn_after.ensures ∙ ap (λ q. turn_after q c.args.last) c.asks_to_quit.ensures
          ∙ ap (λ s. turn_by s (asks_to_quit c.args.asking.now) c.args.last) (sym c.in-Ok.is);
    }

pub returns-clause-turn : goal.returns-clause-turn
returns-clause-turn g c =
    let x = c.exchange-answer.ensures in record {
      now = x.now;
      calls = x.calls;
      said = c.send.ensures.0;
      sent = c.send.result;
      moved = x.moved;
      served = served_said _ _ x.now x.calls _ c.send.ensures.0 c.send.ensures.1 x.served;
      kept = keeps_raised _ _ x.now _ _ x.calls c.raise.ensures x.tells;
      puts = c.send.ensures.2;
      turns = ap (λ s. turn_by s (asks_to_quit c.args.asking.now) c.args.last) (sym c.in-Err.is);
    }
