-- A load that has begun, put together: its child, what is made of its output, and what is published.
use Rattle.std.proofs.Common.{◌≡◌, ◌∙◌, ◌⊎◌, ◌∷◌, ◌++◌, ◌<◌, [], ℕ, List, Result, Ok, Err, length, refl, sym, ap, subst, inl, inr, arith}
use Rattle.std.specs.Prelude.{pos, IfErr, IfOk}
use Rattle.std.specs.List.{concat}
use Rattle.std.proofs.lemmas.List.Elements.{All-nil}
use Rattle.child_io.specs.Gathers.{outcome_of}
use Rattle.child_io.specs.declared.child.Outcome.{Outcome}
use Rattle.child_io.specs.declared.child.Outcome.TheVariants.{Ended}
use Rattle.child_io.specs.declared.pieces.PieceEnd.{PieceEnd}
use Rattle.child_io.specs.declared.words.Since.{Since}
use Rattle.dict_schema.specs.declared.definition.Definition.{Definition}
use Rattle.dict_value.specs.declared.fault.Cause.{Cause}
use Rattle.dict_value.specs.declared.fault.Exit.TheVariants.{Code}
use Rattle.dict_version.specs.Contents.{Contents}
use Rattle.load_core.specs.DictSteps.{stepped}
use Rattle.load_core.specs.declared.dictionary.DictCore.{DictCore}
use Rattle.load_core.specs.declared.dictionary.DictEvent.TheVariants.{Start}
use Rattle.load_core.specs.declared.dictionary.Phase.TheVariants.{Reading}
use Rattle.packed_rows.specs.Columns.{RowList}
use Rattle.loader.proofs.Accepting.{accepts-kept}
use Rattle.loader.proofs.CoreRuns.{past-pieces}
use Rattle.loader.specs.Accepts.{Accepts}
use Rattle.loader.specs.Events.{core_after, end_events, load_events, piece_events}
use Rattle.loader.specs.Loaders.{EndsLoad, Running, RunsLoad, StartsNone}
use Rattle.loader.specs.Origins.{HasOrigin, IsSince, Loads, Ran, asked_since, newest}
use Rattle.loader.specs.declared.answers.LoadEnd.{LoadEnd}
use Rattle.loader.specs.declared.answers.LoadEnd.TheVariants as load
use Rattle.loader.specs.declared.fault.LoadFault.{LoadFault}
use Rattle.loader.specs.declared.fault.LoadFault.TheVariants.{Refused, NoMemory}
use Rattle.loader.specs.declared.loading.Fresh.{Fresh}
use Rattle.loader.specs.declared.making.Made.{Made}
use Rattle.loader.specs.steps.Kept.{fault_end}
use Rattle.loader.specs.steps.Makings.{GivesVersion, IsLoadedBy, RunsVersion, kept_in}
use Rattle.loader.specs.steps.Publishings.{IsKept, IsLaidOver, IsNewToken, PublishesAs, load_end_of, stamped}

-- what is judged over the rows that are kept is judged over the list
loads-over : (d : Definition) (list : List Contents) (former : RowList) (outcome : Outcome) (given : Result RowList Cause) → IsLaidOver (newest list) d former → Accepts d former outcome given → Loads d list outcome given
loads-over d list former outcome given (whole, is, kept) h = (whole, is, accepts-kept d former whole kept outcome given h)

-- the entry of a version that a child gave has its fact
pub origin-of : (ran : Ran) (folder : List ℕ) (d : Definition) (since : Since) (list : List Contents) (former : RowList) (output : List ℕ) (ending : PieceEnd) (version : Contents) (kept : RowList) (now : ℕ) → IsSince (newest list) d since → IsLaidOver (newest list) d former
    → GivesVersion ran d (asked_since d folder since) former output ending version kept → HasOrigin ran folder list (stamped version now)
origin-of ran folder d since list former output ending version kept now since_is (whole, is, kept_is) g =
    subst (λ (v : Contents). HasOrigin ran folder list (stamped v now)) (sym g.version_is) (record {
      since = since;
      former = whole;
      since_is = since_is;
      former_is = is;
      origin = record {
        output = output;
        was_run = g.was_run;
        accepted = accepts-kept d former whole kept_is (Ended output (Code (pos 0))) (Ok g.rows) g.gives;
      };
    })

-- a version was made of what a child gave
pub was-run : {C : Type 0} (runs : Running) (same : Type 0) (ran : Ran) (d : Definition) (words : List (List ℕ)) (former : RowList) (made : Made C) → IsLoadedBy runs same ran d words former (Ok made) → RunsVersion runs ran d words former (Ok made)
was-run runs same ran d words former made (inl run) = run
was-run runs same ran d words former made (inr (none, e)) = absurd (cc (e))

-- the core after the last events is that after all events
pub core-whole : (before begun new : DictCore) (pieces : List (List ℕ)) (end : LoadEnd) → begun ≡ (stepped before Start).core → begun.phase ≡ Reading → new ≡ core_after begun (end_events end) → new ≡ core_after before (load_events pieces end)
core-whole before begun new pieces end start reading is =
    is ∙ sym (past-pieces begun pieces (end_events end) reading) ∙ ap (λ (c : DictCore). core_after c (piece_events pieces ++ end_events end)) start

module _ (runs : Running) (same : Type 0) (ran : Ran) (d : Definition) (folder : List ℕ) (since : Since) (list : List Contents) (former : RowList) (now : ℕ) (since_is : IsSince (newest list) d since) (laid : IsLaidOver (newest list) d former) (before begun new : DictCore) (start : begun ≡ (stepped before Start).core) (reading : begun.phase ≡ Reading) where
  whole : {C : Type 0} (result : Result (Made C) LoadFault) (end : LoadEnd) (after : List Contents) → new ≡ core_after begun (end_events end) → (run : RunsVersion runs ran d (asked_since d folder since) former result) → EndsLoad d now list (outcome_of run.ending (concat run.pieces)) end after → RunsLoad runs d now folder list after before new end
  whole result end after core run ends = record {
    words = asked_since d folder since;
    ending = run.ending;
    pieces = run.pieces;
    started = (since, since_is, refl);
    child = run.run;
    comes = record {
      some = run.some;
      within = run.within;
      ends = ends;
      core = core-whole before begun new run.pieces end start reading core;
    };
  }

  ends-published : (output : List ℕ) (ending : PieceEnd) (version : Contents) (kept : RowList) (number : ℕ) (after : List Contents) → GivesVersion ran d (asked_since d folder since) former output ending version kept → after ≡ list ++ stamped version now ∷ [] → number ≡ length after → EndsLoad d now list (outcome_of ending output) (load.Published number) after
  ends-published output ending version kept number after g is count = (
    g.rows,
    subst (λ (e : PieceEnd). Loads d list (outcome_of e output) (Ok g.rows)) (sym g.ended) (loads-over d list former (Ended output (Code (pos 0))) (Ok g.rows) laid g.gives),
    is ∙ ap (λ (v : Contents). list ++ stamped v now ∷ []) g.version_is,
    count,
  )

  pub runs-published : {C T : Type 0} (made : Made C) (result : Result (Fresh T) LoadFault) (after : List Contents) → new ≡ core_after begun (end_events (load_end_of result)) → RunsVersion runs ran d (asked_since d folder since) former (Ok made) → PublishesAs list (stamped made.version now) result after → IfErr result (λ why. why ≡ NoMemory) → IfOk result (λ fresh. fresh.number ≡ length after) → RunsLoad runs d now folder list after before new (load_end_of result)
  runs-published made (Ok fresh) after core run is none count = whole (Ok made) (load.Published fresh.number) after core run (ends-published (concat run.pieces) run.ending made.version (kept_in made.kept) fresh.number after run.given is count)
  runs-published made (Err NoMemory) after core run is none count = whole (Ok made) load.NoMemory after core run is
  runs-published made (Err (Refused why)) after core run is none count = absurd (cc (none))

  pub runs-refused : {C : Type 0} (why : Cause) → new ≡ core_after begun (end_events (load.Failed why)) → IsLoadedBy {C = C} runs same ran d (asked_since d folder since) former (Err (Refused why)) → RunsLoad runs d now folder list list before new (load.Failed why)
  runs-refused why core (inl run) = whole (Err (Refused why)) (load.Failed why) list core run (loads-over d list former (outcome_of run.ending (concat run.pieces)) (Err why) laid run.given, refl)
  runs-refused why core (inr (none, e)) = absurd (cc (e))

  pub runs-out : {C : Type 0} → new ≡ core_after begun (end_events load.NoMemory) → IsLoadedBy {C = C} runs same ran d (asked_since d folder since) former (Err NoMemory) → RunsLoad runs d now folder list list before new load.NoMemory ⊎ StartsNone same d now list list before new load.NoMemory
  runs-out core (inl run) = inl (whole (Err NoMemory) load.NoMemory list core run refl)
  runs-out core (inr (none, e)) = inr (record {
    none = none;
    ended = refl;
    comes = record {
      some = All-nil (λ piece. 0 < length piece);
      within = omega arith;
      ends = refl;
      core = core-whole before begun new [] load.NoMemory start reading core;
    };
  })

  pub runs-ended : {C : Type 0} (T : Type 0) (f : LoadFault) → new ≡ core_after begun (end_events (fault_end f)) → IsLoadedBy {C = C} runs same ran d (asked_since d folder since) former (Err f) → RunsLoad runs d now folder list list before new (load_end_of {T = T} (Err f)) ⊎ StartsNone same d now list list before new (load_end_of {T = T} (Err f))
  runs-ended T (Refused why) core h = inl (runs-refused why core h)
  runs-ended T NoMemory core h = runs-out core h

-- a token tells how long the list is
pub told-count : {T : Type 0} (is_of : T → Type 0) (told_list : T → List Contents) (number_of : T → ℕ) (list : List Contents) (result : Result (Fresh T) LoadFault) → IfOk result (λ fresh. IsNewToken is_of told_list number_of list fresh.told fresh.number) → IfOk result (λ fresh. fresh.number ≡ length list)
told-count is_of told_list number_of list (Ok fresh) h = h.count
told-count is_of told_list number_of list (Err why) h = tt

-- what is kept of a published version
pub kept-of : (ran : Ran) (d : Definition) (words : List (List ℕ)) (former : RowList) (output : List ℕ) (ending : PieceEnd) (version : Contents) (kept : RowList) (now : ℕ) (list after : List Contents) → GivesVersion ran d words former output ending version kept → after ≡ list ++ stamped version now ∷ [] → IsKept d now after kept
kept-of ran d words former output ending version kept now list after g is = record {
  before = list;
  rows = g.rows;
  list_is = is ∙ ap (λ (v : Contents). list ++ stamped v now ∷ []) g.version_is;
  kept_is = g.kept_is;
  follows = g.follows;
}
