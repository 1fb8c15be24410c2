use Rattle.std.proofs.Common.{take, subst, sym, ap, List, [], ◌∷◌, ◌++◌, ◌∙◌}
use Rattle.std.proofs.lemmas.List.{take_more}
use Rattle.load_core.specs.declared.world.WorldEvent.{WorldEvent}
use Rattle.load_core.specs.WorldSteps.{Run, empty_world}
use Rattle.load_core.proofs.LawLemmas.{short}
use Rattle.load_core.proofs.Runs.{run_more}
use Rattle.load_core.proofs.world.World.run_by.Goals as goal

pub loop-event-preserved : goal.loop-event-preserved
loop-event-preserved g c =
    let i = c.loop-event.event-index in
    let start = empty_world c.args.dictionaries c.args.definitions c.args.callers in
    let one_more = take_more c.args.events.now i c.event-item.result c.loop-event-test.true ∙ ap (λ (e : WorldEvent). take i c.args.events.now ++ e ∷ []) (sym c.event-item.is) in
    subst (λ (events : List WorldEvent). Run g.J.Judge.judges start events c.in_ok-world-2.world) (sym one_more)
    (run_more g.J.Judge.judges start (take i c.args.events.now) c.loop-event.world c.event-item.result c.in_ok-world-2.world c.loop-event.invariant c.in_ok-world-2.ensures)

pub after-requires : goal.after-requires
after-requires g c =
    short g.J.Judge.judges c.args.dictionaries c.args.definitions c.args.callers (take c.loop-event.event-index c.args.events.now) c.loop-event.world c.loop-event.invariant
