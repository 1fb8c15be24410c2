-- A core after a whole load: none runs any more, and its versions are counted.
use Rattle.std.proofs.Common.{◌≡◌, ◌≤◌, ◌+◌, ◌∙◌, ◌∷◌, ◌++◌, [], ℕ, List, arith, ap, sym}
use Rattle.load_core.specs.DictSteps.{DictStepped, risen, row, stepped}
use Rattle.load_core.specs.declared.dictionary.DictCore.{DictCore}
use Rattle.load_core.specs.declared.dictionary.DictEvent.{DictEvent}
use Rattle.load_core.specs.declared.dictionary.DictEvent.TheVariants.{Finish, Publish, Post, Start}
use Rattle.load_core.specs.declared.dictionary.Ending.{Ending}
use Rattle.load_core.specs.declared.dictionary.Ending.TheVariants.{Rows, Failed}
use Rattle.load_core.specs.declared.dictionary.Phase.TheVariants.{Idle, Reading}
use Rattle.dict_value.specs.declared.fault.Cause.{Cause}
use Rattle.dict_value.specs.declared.fault.Cause.TheVariants as cause
use Rattle.loader.proofs.CoreRuns.{HasBegun, past-pieces}
use Rattle.loader.specs.Events.{core_after, end_events, load_events, piece_events}
use Rattle.loader.specs.declared.answers.LoadEnd.{LoadEnd}
use Rattle.loader.specs.declared.answers.LoadEnd.TheVariants as load

-- how many versions a load adds
abbrev pub added : LoadEnd → ℕ
added (load.Published number) = 1
added (load.Failed why) = 0
added load.NoMemory = 0

pub record HasEnded (old new : DictCore) (end : LoadEnd) : Type 0 where
  pub idle : new.phase ≡ Idle
  pub fewer : new.published ≤ new.loads
  pub counted : new.published ≡ old.published + added end

-- the first of the last events
finished : (core : DictCore) (ending : Ending) (events : List DictEvent) → core.phase ≡ Reading → core_after core (Finish ending ∷ events) ≡ core_after (row Reading (Finish ending) core).core events
finished core ending events reading = ap (λ (s : DictStepped). core_after s.core events) (ap (λ p. row p (Finish ending) core) reading)

module _ (old begun : DictCore) (b : HasBegun old begun) (fewer : old.published ≤ old.loads) where
  failed : (why : Cause) (new : DictCore) (end : LoadEnd) → added end ≡ 0 → new ≡ core_after begun (Finish (Failed why) ∷ Post ∷ []) → HasEnded old new end
  failed why new end none is =
      let e = is ∙ finished begun (Failed why) (Post ∷ []) b.reading in
      let p : new.published ≡ begun.published = ap (λ (c : DictCore). c.published) e in
      let l : new.loads ≡ begun.loads = ap (λ (c : DictCore). c.loads) e in
      record {
        idle = ap (λ (c : DictCore). c.phase) e;
        fewer = omega (arith, p, l, b.published, b.loads, fewer);
        counted = omega (arith, p, b.published, none);
      }

  published : (number : ℕ) (new : DictCore) → new ≡ core_after begun (end_events (load.Published number)) → HasEnded old new (load.Published number)
  published number new is =
      let e = is ∙ finished begun Rows (Publish ∷ Post ∷ []) b.reading in
      let p : new.published ≡ risen begun.published = ap (λ (c : DictCore). c.published) e in
      let l : new.loads ≡ begun.loads = ap (λ (c : DictCore). c.loads) e in
      record {
        idle = ap (λ (c : DictCore). c.phase) e;
        fewer = omega (arith, p, l, b.published, b.loads, b.few, fewer);
        counted = omega (arith, p, b.published, b.few, fewer);
      }

  ended : (end : LoadEnd) (new : DictCore) → new ≡ core_after begun (end_events end) → HasEnded old new end
  ended (load.Published number) new is = published number new is
  ended (load.Failed why) new is = failed why new (load.Failed why) (omega arith) is
  ended load.NoMemory new is = failed cause.NoMemory new load.NoMemory (omega arith) is

  pub load-ended : (pieces : List (List ℕ)) (end : LoadEnd) (new : DictCore) → begun ≡ (stepped old Start).core → new ≡ core_after old (load_events pieces end) → HasEnded old new end
  load-ended pieces end new start is =
      ended end new (is ∙ ap (λ (c : DictCore). core_after c (piece_events pieces ++ end_events end)) (sym start) ∙ past-pieces begun pieces (end_events end) b.reading)
