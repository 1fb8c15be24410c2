use Rattle.std.proofs.Common.{◌∙◌, [], ap, inl, inr, refl, subst, length, List, ℕ}
use Rattle.std.proofs.lemmas.List.{length-replicate}
use Rattle.dict_session.proofs.Exchanging.{zero_floors}
use Rattle.dict_session.proofs.Running.{ending_none}
use Rattle.dict_session.proofs.Turning.{none_faults}
use Rattle.dict_session.specs.Session.{SessionEnds, floor_of, place}
use Rattle.load_core.specs.declared.caller.CallerCore.{CallerCore}
use Rattle.dict_session.proofs.session.serve_session.Goals as goal

pub returns-in-Ok : goal.returns-in-Ok
returns-in-Ok g c =
    let ended = c.serve_all.ensures in record {
      first = c.in-Ok.room.floors.items;
      kept = c.serve_all.new.room.floors.items;
      from_zero = λ e. ap (λ (cores : List CallerCore). floor_of cores e) c.in-Ok.ensures.floors ∙ zero_floors c.len.result e;
      ending = subst (λ (ahead : List ℕ). SessionEnds g.D.Desk.facts (g.D.Desk.state c.args.desk.now) (place ahead (g.L.Link.ends c.args.link.now))
          c.serve_all.result (g.D.Desk.state c.serve_all.new.desk) (g.L.Link.ends c.serve_all.new.link) c.in-Ok.room.floors.items
          c.serve_all.new.room.floors.items) c.in-Ok.ensures.ahead ended.ending;
      many = inr (ended.ending.kept.many ∙ ap length c.in-Ok.ensures.floors ∙ length-replicate c.len.result _ ∙ c.len.ensures
          ∙ ap length c.items.ensures.items);
      faults = ended.faults;
    }

pub returns-in-Err : goal.returns-in-Err
returns-in-Err g c = record {
  first = [];
  kept = [];
  from_zero = λ e. refl;
  ending = ending_none g.D.Desk.facts _ _ [];
  many = inl refl;
  faults = none_faults _;
}
