use Rattle.std.proofs.Common.{refl, ap, ◌∙◌}
use Rattle.std.proofs.lemmas.Result.{on_ok_weaker}
use Rattle.load_core.specs.declared.dictionary.DictEvent.TheVariants.{Finish}
use Rattle.load_core.specs.DictSteps.{stepped}
use Rattle.load_core.specs.WorldSteps.{dict_after, loaded}
use Rattle.load_core.specs.declared.world.WorldEvent.{WorldEvent}
use Rattle.load_core.proofs.Rows.{idle_finish, running_finishes}
use Rattle.load_core.proofs.world.WorldDict.happen.Goals as goal

pub returns-in_ok-ending-in-Reading : goal.returns-in_ok-ending-in-Reading
returns-in_ok-ending-in-Reading g c =
    let x = c.args.self.now in
    let ending = c.in_ok-ending-in-Reading.ending in
    rw c.in-Finish.is (on_ok_weaker c.take-in-Reading.result
    (λ h. ((stepped x.core (Finish ending)).effect, (ending, running_finishes x.core.phase g.J.Judge.judges (loaded x) c.in-Finish.ended ending c.in-Reading.is c.in_ok-ending-in-Reading.ensures, record { answers = refl; leaves = h ∙ ap (λ (e : WorldEvent). dict_after x e (Finish ending)) c.in-Finish.is })))
    c.take-in-Reading.ensures)

pub returns-in-Idle : goal.returns-in-Idle
returns-in-Idle g c =
    rw c.in-Finish.is (idle_finish g.J.Judge.judges c.args.self.now c.in-Finish.field-0 c.in-Finish.ended c.in-Idle.is)
