-- What holds of a dictionary after every list of events.
use Rattle.std.proofs.Common.{◌≡◌, ℕ, ◌+◌, ◌≤◌, List, [], ◌∷◌, ◌++◌, length, map, None, pos, refl, sym, ◌∙◌, ap, append_assoc, All}
use Rattle.std.specs.List.{range_with_len}
use Rattle.std.specs.List.Sorted.{IsStrictlyIncreasing}
use Rattle.std.proofs.lemmas.List.Elements.{All-push}
use Rattle.dict_value.specs.declared.fault.Exit.TheVariants.{Code}
use Rattle.load_core.specs.DictSteps.{most_loads}
use Rattle.load_core.specs.declared.dictionary.DictEffect.TheVariants as effect
use Rattle.load_core.specs.declared.dictionary.Phase.{Phase}
use Rattle.load_core.specs.declared.dictionary.Phase.TheVariants.{Idle, Reading, Ready, ToPost}
use Rattle.load_core.specs.declared.world.Ended.TheVariants.{Whole}
use Rattle.load_core.specs.declared.world.WorldEvent.{WorldEvent}
use Rattle.load_core.specs.declared.world.WorldEvent.TheVariants.{Finish, Publish}
use Rattle.load_core.specs.declared.world.WorldEntry.{WorldEntry}
use Rattle.load_core.specs.declared.world.WorldDict.{WorldDict}
use Rattle.load_core.specs.declared.world.World.{World}
use Rattle.load_core.specs.WorldSteps.{Verdicts, IsAnswered, WorldStep, Run, candidate}
use Rattle.load_core.specs.Laws.{running, entries_of, with_piece, bytes_joined, IsNoFinish, IsNoPublish, BeginsWith, IsOfOneLoad, newest_definition}
use Rattle.load_core.specs.steps.WorldTurns.{IsShort}
use Rattle.load_core.proofs.Runs.{joined_more, run_more}

module _ (judges : Verdicts) (first : World) where
  -- the load that is being read, with its definition and what it has taken
  pub record IsReading (past : List WorldEvent) (now : World) (d load definition : ℕ) (bytes : List ℕ) : Type 0 where
    pub opening : WorldEvent
    pub earlier : List WorldEvent
    pub reading : List WorldEvent
    pub idle : World
    pub begun : World
    pub order : past ≡ earlier ++ opening ∷ reading
    pub run : Run judges first earlier idle
    pub start : IsAnswered judges idle d opening (effect.Begun load) begun
    pub begins : BeginsWith d start.before opening definition
    pub pieces : Run judges begun reading now
    pub one_finish : All (IsNoFinish d) reading
    pub taken : bytes ≡ bytes_joined d [] reading

  -- the load whose rows can be published behind these entries
  pub record IsReady (past : List WorldEvent) (now : World) (d load definition : ℕ) (bytes : List ℕ) (entries : List WorldEntry) : Type 0 where
    pub opening : WorldEvent
    pub earlier : List WorldEvent
    pub reading : List WorldEvent
    pub ready : List WorldEvent
    pub idle : World
    pub begun : World
    pub read : World
    pub finished : World
    pub order : past ≡ earlier ++ opening ∷ reading ++ Finish d (Whole (Code (pos 0))) ∷ ready
    pub run : Run judges first earlier idle
    pub start : IsAnswered judges idle d opening (effect.Begun load) begun
    pub begins : BeginsWith d start.before opening definition
    pub pieces : Run judges begun reading read
    pub one_finish : All (IsNoFinish d) reading
    pub taken : bytes ≡ bytes_joined d [] reading
    pub finish : IsAnswered judges read d (Finish d (Whole (Code (pos 0)))) effect.Ready finished
    pub list : entries_of read d ≡ entries
    pub accepted : judges (candidate definition entries bytes) None
    pub waiting : Run judges finished ready now
    pub one_publish : All (IsNoPublish d) ready

  -- the load of a dictionary, by its phase
  abbrev pub LoadIs : List WorldEvent → World → ℕ → ℕ → ℕ → List ℕ → List WorldEntry → Phase → Type 0
  LoadIs past now d load definition bytes entries Idle = Unit {0}
  LoadIs past now d load definition bytes entries Reading = IsReading past now d load definition bytes
  LoadIs past now d load definition bytes entries Ready = IsReady past now d load definition bytes entries
  LoadIs past now d load definition bytes entries ToPost = Unit {0}

  -- each of these entries is of one load of the run
  abbrev pub OneLoadOf : List WorldEvent → World → ℕ → List WorldEntry → Type 0
  OneLoadOf past now d entries =
      (before after : List WorldEntry) (entry : WorldEntry) → entries ≡ before ++ entry ∷ after → IsOfOneLoad judges first past now d before entry

  pub record IsSound (past : List WorldEvent) (now : World) (d : ℕ) (x : WorldDict) : Type 0 where
    pub current : x.definition ≡ newest_definition d x.entries
    pub published : x.core.published ≡ length x.entries
    pub oks : x.core.oks ≡ length x.entries
    pub loads : x.core.loads ≡ x.core.oks + x.core.fails + running x.core.phase
    pub bound : x.core.loads ≤ most_loads
    pub posted : x.posted ≤ length x.entries
    pub numbers : map (λ e. e.number) x.entries ≡ range_with_len 1 (length x.entries)
    pub rising : IsStrictlyIncreasing (map (λ e. e.load) x.entries)
    pub below : All (λ e. e.load + running x.core.phase ≤ x.core.loads) x.entries
    pub one_load : OneLoadOf past now d x.entries
    pub short : IsShort x
    pub load : LoadIs past now d x.core.loads x.loading x.bytes x.entries x.core.phase

  -- one more event while a load is read
  pub reading_more : (past : List WorldEvent) (now : World) (d load definition : ℕ) (bytes more : List ℕ) (event : WorldEvent) (next : World) → IsReading past now d load definition bytes → WorldStep judges now event next → IsNoFinish d event → with_piece d bytes event ≡ more → IsReading (past ++ event ∷ []) next d load definition more
  reading_more past now d load definition bytes more event next r s other e = record {
    opening = r.opening;
    earlier = r.earlier;
    reading = r.reading ++ event ∷ [];
    idle = r.idle;
    begun = r.begun;
    order = ap (λ xs. xs ++ event ∷ []) r.order ∙ append_assoc r.earlier (r.opening ∷ r.reading) (event ∷ []);
    run = r.run;
    start = r.start;
    begins = r.begins;
    pieces = run_more judges r.begun r.reading now event next r.pieces s;
    one_finish = All-push (IsNoFinish d) r.reading event r.one_finish other;
    taken = sym e ∙ ap (λ xs. with_piece d xs event) r.taken ∙ sym (joined_more d [] r.reading event);
  }

  -- one more event while its rows wait
  pub ready_more : (past : List WorldEvent) (now : World) (d load definition : ℕ) (bytes : List ℕ) (entries : List WorldEntry) (event : WorldEvent) (next : World) → IsReady past now d load definition bytes entries → WorldStep judges now event next → IsNoPublish d event → IsReady (past ++ event ∷ []) next d load definition bytes entries
  ready_more past now d load definition bytes entries event next r s other = record {
    opening = r.opening;
    earlier = r.earlier;
    reading = r.reading;
    ready = r.ready ++ event ∷ [];
    idle = r.idle;
    begun = r.begun;
    read = r.read;
    finished = r.finished;
    order = ap (λ xs. xs ++ event ∷ []) r.order ∙ append_assoc (r.earlier ++ r.opening ∷ r.reading) (Finish d (Whole (Code (pos 0))) ∷ r.ready) (event ∷ []);
    run = r.run;
    start = r.start;
    begins = r.begins;
    pieces = r.pieces;
    one_finish = r.one_finish;
    taken = r.taken;
    finish = r.finish;
    list = r.list;
    accepted = r.accepted;
    waiting = run_more judges r.finished r.ready now event next r.waiting s;
    one_publish = All-push (IsNoPublish d) r.ready event r.one_publish other;
  }

  -- one more event after an entry
  one_load_more : (past : List WorldEvent) (now : World) (d : ℕ) (event : WorldEvent) (next : World) → WorldStep judges now event next → (before : List WorldEntry) (entry : WorldEntry) → IsOfOneLoad judges first past now d before entry → IsOfOneLoad judges first (past ++ event ∷ []) next d before entry
  one_load_more past now d event next s before entry r = record {
    opening = r.opening;
    earlier = r.earlier;
    reading = r.reading;
    ready = r.ready;
    later = r.later ++ event ∷ [];
    idle = r.idle;
    begun = r.begun;
    read = r.read;
    finished = r.finished;
    unpublished = r.unpublished;
    published = r.published;
    order = ap (λ xs. xs ++ event ∷ []) r.order ∙ append_assoc (r.earlier ++ r.opening ∷ r.reading ++ Finish d (Whole (Code (pos 0))) ∷ r.ready) (Publish d ∷ r.later) (event ∷ []);
    run = r.run;
    start = r.start;
    definition = r.definition;
    pieces = r.pieces;
    one_finish = r.one_finish;
    bytes = r.bytes;
    finish = r.finish;
    list = r.list;
    accepted = r.accepted;
    waiting = r.waiting;
    one_publish = r.one_publish;
    publish = r.publish;
    after = run_more judges r.published r.later now event next r.after s;
  }

  pub loads_more : (past : List WorldEvent) (now : World) (d : ℕ) (event : WorldEvent) (next : World) → WorldStep judges now event next → (entries : List WorldEntry) → OneLoadOf past now d entries → OneLoadOf (past ++ event ∷ []) next d entries
  loads_more past now d event next s entries h before after entry e =
      one_load_more past now d event next s before entry (h before after entry e)

  -- the load after an event that leaves the dictionary
  load_same : (past : List WorldEvent) (now : World) (d load definition : ℕ) (bytes : List ℕ) (entries : List WorldEntry) (event : WorldEvent) (next : World) → WorldStep judges now event next → (p : Phase) → (p ≡ Reading → IsNoFinish d event × (with_piece d bytes event ≡ bytes)) → (p ≡ Ready → IsNoPublish d event) → LoadIs past now d load definition bytes entries p → LoadIs (past ++ event ∷ []) next d load definition bytes entries p
  load_same past now d load definition bytes entries event next s Idle reads waits h = tt
  load_same past now d load definition bytes entries event next s Reading reads waits h =
      let k = reads refl in reading_more past now d load definition bytes bytes event next h s k.0 k.1
  load_same past now d load definition bytes entries event next s Ready reads waits h =
      ready_more past now d load definition bytes entries event next h s (waits refl)
  load_same past now d load definition bytes entries event next s ToPost reads waits h = tt

  pub sound_same : (past : List WorldEvent) (now : World) (d : ℕ) (x : WorldDict) (event : WorldEvent) (next : World) → IsSound past now d x → WorldStep judges now event next → (x.core.phase ≡ Reading → IsNoFinish d event × (with_piece d x.bytes event ≡ x.bytes)) → (x.core.phase ≡ Ready → IsNoPublish d event) → IsSound (past ++ event ∷ []) next d x
  sound_same past now d x event next h s reads waits = record {
    current = h.current;
    published = h.published;
    oks = h.oks;
    loads = h.loads;
    bound = h.bound;
    posted = h.posted;
    numbers = h.numbers;
    rising = h.rising;
    below = h.below;
    one_load = loads_more past now d event next s x.entries h.one_load;
    short = h.short;
    load = load_same past now d x.core.loads x.loading x.bytes x.entries event next s x.core.phase reads waits h.load;
  }
