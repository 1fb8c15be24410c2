-- Which row of the table an event takes.
use Rattle.std.proofs.Common.{◌≡◌, ◌≢◌, ℕ, ◌+◌, ◌<◌, ◌≤◌, ◌⊎◌, nat_lt, true, false, refl, sym, ◌∙◌, ap, inl, inr, arith, if◌then◌else◌}
use Rattle.std.proofs.lemmas.Bool.Decides.{nat_tests}
use Rattle.dict_value.specs.declared.fault.Cause.{Cause}
use Rattle.load_core.specs.declared.dictionary.DictCore.{DictCore}
use Rattle.load_core.specs.declared.dictionary.DictEvent.{DictEvent}
use Rattle.load_core.specs.declared.dictionary.DictEvent.TheVariants.{Start, Piece, Finish, Publish, Post}
use Rattle.load_core.specs.declared.dictionary.Ending.{Ending}
use Rattle.load_core.specs.declared.dictionary.Ending.TheVariants.{Rows, Failed}
use Rattle.load_core.specs.declared.dictionary.DictEffect.{DictEffect}
use Rattle.load_core.specs.declared.dictionary.DictEffect.TheVariants as effect
use Rattle.load_core.specs.declared.dictionary.LastCause.TheVariants as last
use Rattle.load_core.specs.declared.dictionary.Phase.{Phase}
use Rattle.load_core.specs.declared.dictionary.Phase.TheVariants.{Idle, Reading, Ready, ToPost}
use Rattle.load_core.specs.declared.world.WorldDict.{WorldDict}
use Rattle.load_core.specs.DictSteps.{most_loads, DictStepped, risen, refused, row, stepped}
use Rattle.load_core.specs.declared.world.Ended.{Ended}
use Rattle.load_core.specs.declared.world.WorldEvent.TheVariants as event
use Rattle.load_core.specs.declared.world.WorldEvent.{WorldEvent}
use Rattle.load_core.specs.WorldSteps.{Verdicts, Candidate, Finishes, FinishesIn, DictStep, loaded, kept_after, dict_after}
use Rattle.load_core.specs.Laws.{running}

-- what each row leaves and answers
abbrev pub begun : DictCore → DictStepped
begun c = record { core = record c { loads = c.loads + 1; phase = Reading }; effect = effect.Begun (c.loads + 1) }

abbrev pub taken : DictCore → DictStepped
taken c = record { core = c; effect = effect.Taken }

abbrev pub read : DictCore → DictStepped
read c = record { core = record c { phase = Ready }; effect = effect.Ready }

abbrev pub failed : DictCore → Cause → DictStepped
failed c cause =
    record { core = record c { fails = risen c.fails; phase = ToPost; cause = last.Of cause }; effect = effect.Failing }

abbrev pub published : DictCore → DictStepped
published c =
    record { core = record c { published = risen c.published; oks = risen c.oks; phase = ToPost; cause = last.None }; effect = effect.Published (risen c.published) }

abbrev pub posted : DictCore → DictStepped
posted c = record { core = record c { phase = Idle }; effect = effect.Posted }

-- a test on numbers with what it tells
abbrev Tested : ℕ → ℕ → Type 0
Tested m n = ((nat_lt m n ≡ true) × (m < n)) ⊎ ((nat_lt m n ≡ false) × (n ≤ m))

tested : (m n : ℕ) → Tested m n
tested m n = grind (arith, nat_tests)

-- a Start is taken where no load runs and the loads aren't used up
abbrev pub StartRow : DictCore → Type 0
StartRow c =
    ((c.phase ≡ Idle) × (c.loads < most_loads) × (stepped c Start ≡ begun c)) ⊎ (stepped c Start ≡ refused c)

pub start_row : (c : DictCore) → StartRow c
start_row c = go c.phase refl
  where
    test : c.phase ≡ Idle → Tested c.loads most_loads → StartRow c
    test e (inl t) = inl (e, t.1, ap (λ p. row p Start c) e ∙ ap (λ b. if b then begun c else refused c) t.0)
    test e (inr t) = inr (ap (λ p. row p Start c) e ∙ ap (λ b. if b then begun c else refused c) t.0)

    go : (p : Phase) → c.phase ≡ p → StartRow c
    go Idle e = test e (tested c.loads most_loads)
    go Reading e = inr (ap (λ p. row p Start c) e)
    go Ready e = inr (ap (λ p. row p Start c) e)
    go ToPost e = inr (ap (λ p. row p Start c) e)

-- a piece is taken while a load is read, and it isn't empty
abbrev pub PieceRow : DictCore → ℕ → Type 0
PieceRow c n =
    ((c.phase ≡ Reading) × (0 < n) × (stepped c (Piece n) ≡ taken c)) ⊎ ((stepped c (Piece n) ≡ refused c) × (c.phase ≡ Reading → n ≡ 0))

pub piece_row : (c : DictCore) (n : ℕ) → PieceRow c n
piece_row c n = go c.phase refl
  where
    test : c.phase ≡ Reading → Tested 0 n → PieceRow c n
    test e (inl t) = inl (e, t.1, ap (λ p. row p (Piece n) c) e ∙ ap (λ b. if b then taken c else refused c) t.0)
    test e (inr t) = inr (ap (λ p. row p (Piece n) c) e ∙ ap (λ b. if b then taken c else refused c) t.0, λ q. omega arith)

    go : (p : Phase) → c.phase ≡ p → PieceRow c n
    go Idle e = inr (ap (λ p. row p (Piece n) c) e, λ q. let k : Idle ≡ Reading = sym e ∙ q in cc)
    go Reading e = test e (tested 0 n)
    go Ready e = inr (ap (λ p. row p (Piece n) c) e, λ q. let k : Ready ≡ Reading = sym e ∙ q in cc)
    go ToPost e = inr (ap (λ p. row p (Piece n) c) e, λ q. let k : ToPost ≡ Reading = sym e ∙ q in cc)

-- rows are taken while a load is read
abbrev pub RowsRow : DictCore → Type 0
RowsRow c =
    ((c.phase ≡ Reading) × (stepped c (Finish Rows) ≡ read c)) ⊎ ((stepped c (Finish Rows) ≡ refused c) × (c.phase ≢ Reading))

pub rows_row : (c : DictCore) → RowsRow c
rows_row c = go c.phase refl
  where
    go : (p : Phase) → c.phase ≡ p → RowsRow c
    go Idle e = inr (ap (λ p. row p (Finish Rows) c) e, λ q. let k : Idle ≡ Reading = sym e ∙ q in cc)
    go Reading e = inl (e, ap (λ p. row p (Finish Rows) c) e)
    go Ready e = inr (ap (λ p. row p (Finish Rows) c) e, λ q. let k : Ready ≡ Reading = sym e ∙ q in cc)
    go ToPost e = inr (ap (λ p. row p (Finish Rows) c) e, λ q. let k : ToPost ≡ Reading = sym e ∙ q in cc)

-- a failure is taken while a load runs that hasn't ended
abbrev pub FailedRow : DictCore → Cause → Type 0
FailedRow c cause =
    ((running c.phase ≡ 1) × (stepped c (Finish (Failed cause)) ≡ failed c cause)) ⊎ ((stepped c (Finish (Failed cause)) ≡ refused c) × (c.phase ≢ Reading))

pub failed_row : (c : DictCore) (cause : Cause) → FailedRow c cause
failed_row c cause = go c.phase refl
  where
    go : (p : Phase) → c.phase ≡ p → FailedRow c cause
    go Idle e = inr (ap (λ p. row p (Finish (Failed cause)) c) e, λ q. let k : Idle ≡ Reading = sym e ∙ q in cc)
    go Reading e = inl (ap running e, ap (λ p. row p (Finish (Failed cause)) c) e)
    go Ready e = inl (ap running e, ap (λ p. row p (Finish (Failed cause)) c) e)
    go ToPost e = inr (ap (λ p. row p (Finish (Failed cause)) c) e, λ q. let k : ToPost ≡ Reading = sym e ∙ q in cc)

-- rows that are there can be published
abbrev pub PublishRow : DictCore → Type 0
PublishRow c =
    ((c.phase ≡ Ready) × (stepped c Publish ≡ published c)) ⊎ ((stepped c Publish ≡ refused c) × (c.phase ≢ Ready))

pub publish_row : (c : DictCore) → PublishRow c
publish_row c = go c.phase refl
  where
    go : (p : Phase) → c.phase ≡ p → PublishRow c
    go Idle e = inr (ap (λ p. row p Publish c) e, λ q. let k : Idle ≡ Ready = sym e ∙ q in cc)
    go Reading e = inr (ap (λ p. row p Publish c) e, λ q. let k : Reading ≡ Ready = sym e ∙ q in cc)
    go Ready e = inl (e, ap (λ p. row p Publish c) e)
    go ToPost e = inr (ap (λ p. row p Publish c) e, λ q. let k : ToPost ≡ Ready = sym e ∙ q in cc)

-- the end of a load can be posted
abbrev pub PostRow : DictCore → Type 0
PostRow c =
    ((c.phase ≡ ToPost) × (stepped c Post ≡ posted c)) ⊎ (stepped c Post ≡ refused c)

pub post_row : (c : DictCore) → PostRow c
post_row c = go c.phase refl
  where
    go : (p : Phase) → c.phase ≡ p → PostRow c
    go Idle e = inr (ap (λ p. row p Post c) e)
    go Reading e = inr (ap (λ p. row p Post c) e)
    go Ready e = inr (ap (λ p. row p Post c) e)
    go ToPost e = inl (e, ap (λ p. row p Post c) e)

-- what is answered Refused leaves the core
pub core_refused : (c : DictCore) (event : DictEvent) → (stepped c event).effect ≡ effect.Refused → (stepped c event).core ≡ c
core_refused c Start h =
    elim (start_row c) [
      | inl r ↦ let k : effect.Begun (c.loads + 1) ≡ effect.Refused = sym (ap (λ s. s.effect) r.2) ∙ h in cc
      | inr r ↦ ap (λ s. s.core) r
    ]
core_refused c (Piece n) h =
    elim (piece_row c n) [
      | inl r ↦ ap (λ s. s.core) r.2
      | inr r ↦ ap (λ s. s.core) r.0
    ]
core_refused c (Finish Rows) h =
    elim (rows_row c) [
      | inl r ↦ let k : effect.Ready ≡ effect.Refused = sym (ap (λ s. s.effect) r.1) ∙ h in cc
      | inr r ↦ ap (λ s. s.core) r.0
    ]
core_refused c (Finish (Failed cause)) h =
    elim (failed_row c cause) [
      | inl r ↦ let k : effect.Failing ≡ effect.Refused = sym (ap (λ s. s.effect) r.1) ∙ h in cc
      | inr r ↦ ap (λ s. s.core) r.0
    ]
core_refused c Publish h =
    elim (publish_row c) [
      | inl r ↦ let k : effect.Published (risen c.published) ≡ effect.Refused = sym (ap (λ s. s.effect) r.1) ∙ h in cc
      | inr r ↦ ap (λ s. s.core) r.0
    ]
core_refused c Post h =
    elim (post_row c) [
      | inl r ↦ let k : effect.Posted ≡ effect.Refused = sym (ap (λ s. s.effect) r.1) ∙ h in cc
      | inr r ↦ ap (λ s. s.core) r
    ]

-- a dictionary after what its core makes of an event
abbrev pub after_step : WorldDict → WorldEvent → DictStepped → WorldDict
after_step x event s = record (kept_after x event s.effect) { core = s.core }

-- and it leaves the dictionary
pub dict_refused : (x : WorldDict) (event : WorldEvent) (taken : DictEvent) → (stepped x.core taken).effect ≡ effect.Refused → dict_after x event taken ≡ x
dict_refused x event taken h =
    ap (λ (e : DictEffect). record (kept_after x event e) { core = (stepped x.core taken).core }) h
    ∙ ap (λ (c : DictCore). record x { core = c }) (core_refused x.core taken h)

-- where a load runs, the ending is that of how its child ended
pub finishes_running : (p : Phase) (judges : Verdicts) (load : Candidate) (ended : Ended) (ending : Ending) → running p ≡ 1 → FinishesIn p judges load ended ending → Finishes judges load ended ending
finishes_running Idle judges load ended ending e f = absurd (omega arith)
finishes_running Reading judges load ended ending e f = f
finishes_running Ready judges load ended ending e f = f
finishes_running ToPost judges load ended ending e f = absurd (omega arith)

pub running_finishes : (p : Phase) (judges : Verdicts) (load : Candidate) (ended : Ended) (ending : Ending) → (p ≡ Reading) ⊎ (p ≡ Ready) → Finishes judges load ended ending → FinishesIn p judges load ended ending
running_finishes Idle judges load ended ending e f = tt
running_finishes Reading judges load ended ending e f = f
running_finishes Ready judges load ended ending e f = f
running_finishes ToPost judges load ended ending e f = tt

-- where none runs, each will do
finishes_idle : (p : Phase) (judges : Verdicts) (load : Candidate) (ended : Ended) (ending : Ending) → running p ≡ 0 → FinishesIn p judges load ended ending
finishes_idle Idle judges load ended ending e = tt
finishes_idle Reading judges load ended ending e = absurd (omega arith)
finishes_idle Ready judges load ended ending e = absurd (omega arith)
finishes_idle ToPost judges load ended ending e = tt

-- and a Finish leaves the dictionary
pub idle_finish : (judges : Verdicts) (x : WorldDict) (d : ℕ) (ended : Ended) → (x.core.phase ≡ Idle) ⊎ (x.core.phase ≡ ToPost) → (answer : DictEffect) × DictStep judges x (event.Finish d ended) answer x
idle_finish judges x d ended waits = let e : running x.core.phase ≡ 0 = elim waits [ inl i ↦ ap running i | inr i ↦ ap running i ] in elim (rows_row x.core) [
  | inl r ↦ absurd (let k : running x.core.phase ≡ 1 = ap running r.0 in omega arith)
  | inr r ↦ (let k : (stepped x.core (Finish Rows)).effect ≡ effect.Refused = ap (λ s. s.effect) r.0 in
      (effect.Refused, (Rows, finishes_idle x.core.phase judges (loaded x) ended Rows e, record { answers = sym k; leaves = sym (dict_refused x (event.Finish d ended) (Finish Rows) k) })))
]
