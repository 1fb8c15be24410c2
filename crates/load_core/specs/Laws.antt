-- What holds of every world that a list of events leads to.
use Rattle.std.specs.Prelude.{◌≡◌, ◌≢◌, ℕ, ◌+◌, ◌≤◌, ◌&&◌, List, [], ◌∷◌, ◌++◌, length, map, Option, Some, None, pos}
use Rattle.std.specs.Prelude.{nat_eq, nat_le, if◌then◌else◌, slice_get, All}
use Rattle.std.specs.List.{range_with_len}
use Rattle.std.specs.List.Sorted.{IsNonDecreasing, IsStrictlyIncreasing}
use mathlib.Core.List.{IsPrefix}
use Rattle.dict_value.specs.declared.fault.Cause.{Cause}
use Rattle.dict_value.specs.declared.fault.Exit.TheVariants.{Code}
use Rattle.load_core.specs.declared.caller.CallerEffect.TheVariants.{Kept}
use Rattle.load_core.specs.declared.caller.CallerEvent.TheVariants.{Entered}
use Rattle.load_core.specs.declared.dictionary.DictEffect.TheVariants as effect
use Rattle.load_core.specs.declared.dictionary.Ending.TheVariants.{Failed}
use Rattle.load_core.specs.declared.dictionary.LastCause.{LastCause}
use Rattle.load_core.specs.declared.dictionary.LastCause.TheVariants as last
use Rattle.load_core.specs.declared.dictionary.Phase.{Phase}
use Rattle.load_core.specs.declared.dictionary.Phase.TheVariants.{Idle, Reading, Ready, ToPost}
use Rattle.load_core.specs.declared.world.Ended.{Ended}
use Rattle.load_core.specs.declared.world.Ended.TheVariants.{Whole}
use Rattle.load_core.specs.declared.world.WorldEvent.{WorldEvent}
use Rattle.load_core.specs.declared.world.WorldEvent.TheVariants.{Start, StartWith, Piece, Finish, Publish}
use Rattle.load_core.specs.declared.world.WorldEvent.TheVariants.{Enter, Learn}
use Rattle.load_core.specs.declared.world.WorldEntry.{WorldEntry}
use Rattle.load_core.specs.declared.world.WorldDict.{WorldDict}
use Rattle.load_core.specs.declared.world.WorldCaller.{WorldCaller}
use Rattle.load_core.specs.declared.world.World.{World}
use Rattle.load_core.specs.CallerSteps.{effect_of}
use Rattle.load_core.specs.WorldSteps.{Verdicts, Finishes, IsAnswered, WorldStep, Run, dict_at, caller_at, last_number}
use Rattle.load_core.specs.WorldSteps.{candidate, loaded, most_bytes, empty_world}

-- the entries of the dictionary at a place, which are none where there is no dictionary
abbrev pub entries_in : Option WorldDict → List WorldEntry
entries_in None = []
entries_in (Some x) = x.entries

abbrev pub entries_of : World → ℕ → List WorldEntry
entries_of w d = entries_in (dict_at w d)

-- the number that the dictionary at a place posted last
abbrev pub posted_in : Option WorldDict → ℕ
posted_in None = 0
posted_in (Some x) = x.posted

abbrev pub posted_of : World → ℕ → ℕ
posted_of w d = posted_in (dict_at w d)

-- why the last load that ended of the dictionary at a place failed
abbrev pub cause_in : Option WorldDict → LastCause
cause_in None = last.None
cause_in (Some x) = x.core.cause

abbrev pub cause_of : World → ℕ → LastCause
cause_of w d = cause_in (dict_at w d)

-- the answers of a caller for the dictionary at a place
abbrev pub answers_in : Option WorldCaller → List ℕ
answers_in None = []
answers_in (Some u) = u.answers

abbrev pub answers_of : World → ℕ → ℕ → List ℕ
answers_of w c d = answers_in (caller_at w c d)

-- how many loads run in a phase: one while it reads and while it waits to be published
abbrev pub running : Phase → ℕ
running Idle = 0
running Reading = 1
running Ready = 1
running ToPost = 0

-- what the pieces of a dictionary join to, after what was taken before; one that would bring it above the bound is left
-- out
abbrev pub with_piece : ℕ → List ℕ → WorldEvent → List ℕ
with_piece d bytes (Piece e piece) =
    if nat_eq e d && nat_le (length bytes + length piece) most_bytes then bytes ++ piece else bytes
with_piece d bytes _ = bytes

abbrev pub bytes_joined : ℕ → List ℕ → List WorldEvent → List ℕ
bytes_joined d bytes [] = bytes
bytes_joined d bytes (event ∷ events) = bytes_joined d (with_piece d bytes event) events

-- the event isn't the end of a child of dictionary d; it isn't a Publish of d
abbrev pub IsNoFinish : ℕ → WorldEvent → Type 0
IsNoFinish d (Finish e ended) = e ≢ d
IsNoFinish d _ = Unit {0}

abbrev pub IsNoPublish : ℕ → WorldEvent → Type 0
IsNoPublish d (Publish e) = e ≢ d
IsNoPublish d _ = Unit {0}

-- the event begins a load of dictionary d, which stands so, with this definition: the current one, or the one it names
abbrev pub BeginsWith : ℕ → WorldDict → WorldEvent → ℕ → Type 0
BeginsWith d x (Start e) definition = (e ≡ d) × (definition ≡ x.definition)
BeginsWith d x (StartWith e named) definition = (e ≡ d) × (definition ≡ named)
BeginsWith d x _ definition = ⊥

-- The entry of dictionary d, which has these before it, is of one load in this run. The load began with the entry's
-- definition, and was answered with the load's number. The pieces from there to its one Finish, of a child with status
-- 0, join to the entry's bytes, which the judge accepts for that definition after the entries before it. Its one
-- Publish was answered with the entry's number.
pub record IsOfOneLoad (judges : Verdicts) (first : World) (events : List WorldEvent) (now : World)
    (d : ℕ) (before : List WorldEntry) (entry : WorldEntry) : Type 0 where
  pub opening : WorldEvent
  pub earlier : List WorldEvent
  pub reading : List WorldEvent
  pub ready : List WorldEvent
  pub later : List WorldEvent
  pub idle : World
  pub begun : World
  pub read : World
  pub finished : World
  pub unpublished : World
  pub published : World
  pub order : events
      ≡ earlier ++ opening ∷ reading ++ Finish d (Whole (Code (pos 0))) ∷ ready ++ Publish d ∷ later
  pub run : Run judges first earlier idle
  pub start : IsAnswered judges idle d opening (effect.Begun entry.load) begun
  pub definition : BeginsWith d start.before opening entry.definition
  pub pieces : Run judges begun reading read
  pub one_finish : All (IsNoFinish d) reading
  pub bytes : entry.bytes ≡ bytes_joined d [] reading
  pub finish : IsAnswered judges read d (Finish d (Whole (Code (pos 0)))) effect.Ready finished
  pub list : entries_of read d ≡ before
  pub accepted : judges (candidate entry.definition before entry.bytes) None
  pub waiting : Run judges finished ready unpublished
  pub one_publish : All (IsNoPublish d) ready
  pub publish : IsAnswered judges unpublished d (Publish d) (effect.Published entry.number) published
  pub after : Run judges published later now

-- The k-th answer of a caller, from 0, was given at one Enter in this run: it is the length that the list then had.
pub record IsLengthAtEnter (judges : Verdicts) (first : World) (events : List WorldEvent) (now : World)
    (c d k answer : ℕ) : Type 0 where
  pub earlier : List WorldEvent
  pub later : List WorldEvent
  pub unshown : World
  pub shown : World
  pub order : events ≡ earlier ++ Enter c d ∷ later
  pub before : Run judges first earlier unshown
  pub enter : WorldStep judges unshown (Enter c d) shown
  pub place : k ≡ length (answers_of unshown c d)
  pub is_length : answer ≡ length (entries_of unshown d)
  pub after : Run judges shown later now

-- this holds of each run from an empty world: of that world, the events, and the world that they lead to
abbrev pub InEachRun : Verdicts → (World → List WorldEvent → World → Type 0) → Type 0
InEachRun judges P =
    (dictionaries definitions callers : ℕ) (events : List WorldEvent) (now : World) →
    (let first = empty_world dictionaries definitions callers in Run judges first events now → P first events now)

-- in each world that events lead to from the empty one, each dictionary is so
abbrev pub EachDict : Verdicts → (WorldDict → Type 0) → Type 0
EachDict judges P = InEachRun judges (λ first events now. All P now.dictionaries)

-- the n-th entry has the number n
abbrev pub HasNumbersInOrder : WorldDict → Type 0
HasNumbersInOrder x = map (λ e. e.number) x.entries ≡ range_with_len 1 (length x.entries)

-- load numbers rise along the list
abbrev pub IsRising : WorldDict → Type 0
IsRising x = IsStrictlyIncreasing (map (λ e. e.load) x.entries)

-- each load that began published an entry, failed, or runs
abbrev pub IsBalanced : WorldDict → Type 0
IsBalanced x = (x.core.oks ≡ length x.entries) × (x.core.loads ≡ x.core.oks + x.core.fails + running x.core.phase)

-- what was posted was published
abbrev pub IsPostedOnlyOf : WorldDict → Type 0
IsPostedOnlyOf x = x.posted ≤ length x.entries

-- what later events add to a list leaves its front
abbrev pub KeepsFronts : Verdicts → Type 0
KeepsFronts judges =
    InEachRun judges (λ first early mid.
    (late : List WorldEvent) (now : World) → Run judges mid late now →
    (d : ℕ) → IsPrefix (entries_of mid d) (entries_of now d))

-- each entry is of one load of the run
abbrev pub OneLoadEach : Verdicts → Type 0
OneLoadEach judges =
    InEachRun judges (λ first events now.
    (d : ℕ) (before after : List WorldEntry) (entry : WorldEntry) → entries_of now d ≡ before ++ entry ∷ after →
    IsOfOneLoad judges first events now d before entry)

-- the definition of the last entry, or else that of the dictionary's own place
abbrev pub newest_definition : ℕ → List WorldEntry → ℕ
newest_definition place [] = place
newest_definition place (entry ∷ entries) = newest_definition entry.definition entries

-- a dictionary's current definition is that of its last entry, or that of its own place
abbrev pub CurrentIsNewest : Verdicts → Type 0
CurrentIsNewest judges =
    InEachRun judges (λ first events now.
    (d : ℕ) (x : WorldDict) → dict_at now d ≡ Some x → x.definition ≡ newest_definition d x.entries)

-- the current definition of the dictionary at a place
abbrev pub definition_in : Option WorldDict → Option ℕ
definition_in None = None
definition_in (Some x) = Some x.definition

abbrev pub current_definition : World → ℕ → Option ℕ
current_definition w d = definition_in (dict_at w d)

-- a dictionary is left with its entries and its current definition, and with this cause of its last load
pub record FailsFor (old new : World) (d : ℕ) (why : Cause) : Type 0 where
  pub cause : cause_of new d ≡ last.Of why
  pub entries : entries_of new d ≡ entries_of old d
  pub definition : current_definition new d ≡ current_definition old d

-- a Finish that is answered Failing leaves the list and the definition, and its cause is the last one
abbrev pub FailingKeeps : Verdicts → Type 0
FailingKeeps judges =
    (old new : World) (d : ℕ) (ended : Ended) → (a : IsAnswered judges old d (Finish d ended) effect.Failing new) →
    (why : Cause) × Finishes judges (loaded a.before) ended (Failed why) × FailsFor old new d why

-- a Publish that is answered Published clears the cause
abbrev pub PublishedClears : Verdicts → Type 0
PublishedClears judges =
    (old new : World) (d number : ℕ) →
    IsAnswered judges old d (Publish d) (effect.Published number) new → cause_of new d ≡ last.None

-- an event that is answered Refused changes nothing
abbrev pub RefusedKeeps : Verdicts → Type 0
RefusedKeeps judges =
    (old new : World) (d : ℕ) (event : WorldEvent) → IsAnswered judges old d event effect.Refused new → new ≡ old

-- each answer of a caller is the length of the list at its Enter
abbrev pub LengthsAtEnter : Verdicts → Type 0
LengthsAtEnter judges =
    InEachRun judges (λ first events now.
    (c d k answer : ℕ) → slice_get (answers_of now c d) k ≡ Some answer →
    IsLengthAtEnter judges first events now c d k answer)

-- the answers of a caller for one dictionary never fall
abbrev pub NeverFall : Verdicts → Type 0
NeverFall judges = InEachRun judges (λ first events now. (c d : ℕ) → IsNonDecreasing (answers_of now c d))

-- an Enter is never older than what the caller knows
abbrev pub NeverOlder : Verdicts → Type 0
NeverOlder judges =
    InEachRun judges (λ first events now.
    (c d : ℕ) (u : WorldCaller) (x : WorldDict) → caller_at now c d ≡ Some u → dict_at now d ≡ Some x →
    effect_of u.core (Entered (last_number x.entries)) ≡ Kept)

-- what a caller is answered after it learnt a number isn't below that number
abbrev pub NeverBelowLearnt : Verdicts → Type 0
NeverBelowLearnt judges =
    InEachRun judges (λ first early untold.
    (c d : ℕ) (late : List WorldEvent) (told now : World) →
    WorldStep judges untold (Learn c d) told → Run judges told late now →
    (later : List ℕ) × (answers_of now c d ≡ answers_of told c d ++ later)
    × All (λ answer. posted_of untold d ≤ answer) later)
