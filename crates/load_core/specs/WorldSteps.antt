-- What may happen to a world of dictionaries and callers.
use Rattle.std.specs.Prelude.{◌≡◌, ◌<◌, ◌≤◌, ℕ, zero, ◌+◌, ◌⊎◌, List, [], ◌∷◌, ◌++◌, length, map, replicate}
use Rattle.std.specs.Prelude.{Option, Some, None, pos, nat_le, if◌then◌else◌, slice_get, slice_set, unwrap_or}
use Rattle.std.specs.List.{range_with_len}
use Rattle.dict_value.specs.declared.fault.Cause.{Cause}
use Rattle.dict_value.specs.declared.fault.Cause.TheVariants as cause
use Rattle.dict_value.specs.declared.fault.Exit.TheVariants.{Code, Killed}
use Rattle.load_core.specs.declared.dictionary.DictEvent.{DictEvent}
use Rattle.load_core.specs.declared.dictionary.DictEvent.TheVariants as core
use Rattle.load_core.specs.declared.dictionary.DictEffect.{DictEffect}
use Rattle.load_core.specs.declared.dictionary.DictEffect.TheVariants as effect
use Rattle.load_core.specs.declared.dictionary.Ending.{Ending}
use Rattle.load_core.specs.declared.dictionary.Ending.TheVariants.{Rows, Failed}
use Rattle.load_core.specs.declared.dictionary.Phase.{Phase}
use Rattle.load_core.specs.declared.dictionary.Phase.TheVariants.{Idle, Reading, Ready, ToPost}
use Rattle.load_core.specs.declared.caller.CallerEvent.{CallerEvent}
use Rattle.load_core.specs.declared.caller.CallerEvent.TheVariants.{Entered, Told}
use Rattle.load_core.specs.declared.world.Ended.{Ended}
use Rattle.load_core.specs.declared.world.Ended.TheVariants.{Whole, Broken, TimedOut, TooLong, NotStarted, NoMemory}
use Rattle.load_core.specs.declared.world.WorldEvent.{WorldEvent}
use Rattle.load_core.specs.declared.world.WorldEvent.TheVariants.{Start, StartWith, Piece, Finish, Publish, Post}
use Rattle.load_core.specs.declared.world.WorldEvent.TheVariants.{Enter, Learn}
use Rattle.load_core.specs.declared.world.WorldEntry.{WorldEntry}
use Rattle.load_core.specs.declared.world.WorldDict.{WorldDict}
use Rattle.load_core.specs.declared.world.WorldCaller.{WorldCaller}
use Rattle.load_core.specs.declared.world.World.{World}
use Rattle.load_core.specs.CallerSteps.{raised}
use Rattle.load_core.specs.DictSteps.{empty_core, stepped}

-- what a judge sees of an entry of the list so far
pub record Former : Type 0 where
  pub definition : ℕ
  pub bytes : List ℕ

abbrev pub formers : List WorldEntry → List Former
formers entries = map (λ e. record { definition = e.definition; bytes = e.bytes }) entries

-- what a load would become: its definition, the entries before it, and its bytes
pub record Candidate : Type 0 where
  pub definition : ℕ
  pub before : List Former
  pub bytes : List ℕ

abbrev pub candidate : ℕ → List WorldEntry → List ℕ → Candidate
candidate definition entries bytes =
    record { definition = definition; before = formers entries; bytes = bytes }

-- what a judge says of a candidate: it is accepted, or refused with a cause
abbrev pub Verdicts : Type 1
Verdicts = Candidate → Option Cause → Type 0

-- how a load finishes whose whole output was read and whose child ended with status 0
abbrev pub Judged : Verdicts → Candidate → Ending → Type 0
Judged judges load Rows = judges load None
Judged judges load (Failed why) = judges load (Some why)

-- how a load finishes, by how its child ended
abbrev pub Finishes : Verdicts → Candidate → Ended → Ending → Type 0
Finishes judges load NotStarted ending = ending ≡ Failed cause.Start
Finishes judges load Broken ending = ending ≡ Failed cause.Read
Finishes judges load TimedOut ending = ending ≡ Failed cause.TimedOut
Finishes judges load (TooLong limit) ending = ending ≡ Failed (cause.Longer limit)
Finishes judges load (Whole (Code (pos zero))) ending = Judged judges load ending
Finishes judges load (Whole (Code status)) ending = ending ≡ Failed (cause.Status status)
Finishes judges load (Whole Killed) ending = ending ≡ Failed cause.Killed
Finishes judges load NoMemory ending = ending ≡ Failed cause.NoMemory

-- how a load finishes in a phase; where none runs any ending will do, since the core refuses each
abbrev pub FinishesIn : Phase → Verdicts → Candidate → Ended → Ending → Type 0
FinishesIn Idle judges load ended ending = Unit {0}
FinishesIn Reading judges load ended ending = Finishes judges load ended ending
FinishesIn Ready judges load ended ending = Finishes judges load ended ending
FinishesIn ToPost judges load ended ending = Unit {0}

-- the greatest number of bytes that a load takes
abbrev pub most_bytes : ℕ
most_bytes = 4294967295

-- how many bytes a piece counts: one that would bring them above the bound is as an empty one
abbrev pub counted : List ℕ → List ℕ → ℕ
counted bytes piece = if nat_le (length bytes + length piece) most_bytes then length piece else 0

-- the definition of the load that an event begins: the one that it names, or the dictionary's current one
abbrev pub definition_for : WorldDict → WorldEvent → ℕ
definition_for x (StartWith d definition) = definition
definition_for x _ = x.definition

-- the bytes that an event brings
abbrev pub event_piece : WorldEvent → List ℕ
event_piece (Piece d piece) = piece
event_piece _ = []

-- the entry that a dictionary's load becomes
abbrev pub entry_of : WorldDict → ℕ → WorldEntry
entry_of x number =
    record { number = number; definition = x.loading; bytes = x.bytes; load = x.core.loads }

-- what a dictionary keeps beside its core after an event, by the core's answer
abbrev pub kept_after : WorldDict → WorldEvent → DictEffect → WorldDict
kept_after x event (effect.Begun load) = record x { loading = definition_for x event; bytes = [] }
kept_after x event effect.Taken = record x { bytes = x.bytes ++ event_piece event }
kept_after x event (effect.Published number) =
    record x { definition = x.loading; entries = x.entries ++ entry_of x number ∷ [] }
kept_after x event effect.Posted = record x { posted = length x.entries }
kept_after x event _ = x

-- a dictionary after an event, which is this one of its core
abbrev pub dict_after : WorldDict → WorldEvent → DictEvent → WorldDict
dict_after x event taken =
    record (kept_after x event (stepped x.core taken).effect) { core = (stepped x.core taken).core }

-- the core takes this event, answers so, and leaves the dictionary so
pub record TakesEvent (x : WorldDict) (event : WorldEvent) (taken : DictEvent) (answer : DictEffect) (y : WorldDict)
    : Type 0 where
  pub answers : answer ≡ (stepped x.core taken).effect
  pub leaves : y ≡ dict_after x event taken

-- what a dictionary's load would become
abbrev pub loaded : WorldDict → Candidate
loaded x = candidate x.loading x.entries x.bytes

-- what an event of the world makes of its dictionary x, and how x's core answers
abbrev pub DictStep : Verdicts → WorldDict → WorldEvent → DictEffect → WorldDict → Type 0
DictStep judges x (Start d) answer y = TakesEvent x (Start d) core.Start answer y
DictStep judges x (StartWith d definition) answer y = TakesEvent x (StartWith d definition) core.Start answer y
DictStep judges x (Piece d piece) answer y =
    TakesEvent x (Piece d piece) (core.Piece (counted x.bytes piece)) answer y
DictStep judges x (Finish d ended) answer y =
    (ending : Ending) × FinishesIn x.core.phase judges (loaded x) ended ending
    × TakesEvent x (Finish d ended) (core.Finish ending) answer y
DictStep judges x (Publish d) answer y = TakesEvent x (Publish d) core.Publish answer y
DictStep judges x (Post d) answer y = TakesEvent x (Post d) core.Post answer y
-- the others aren't events of a dictionary
DictStep judges x (Enter c d) answer y = ⊥
DictStep judges x (Learn c d) answer y = ⊥

-- the dictionary at a place, and the world with another one there
abbrev pub dict_at : World → ℕ → Option WorldDict
dict_at w d = slice_get w.dictionaries d

abbrev pub with_dict : World → ℕ → WorldDict → World
with_dict w d x = record w { dictionaries = slice_set w.dictionaries d x }

-- all that a caller knows, and what it knows of the dictionary at a place
abbrev pub known_to : World → ℕ → List WorldCaller
known_to w c = unwrap_or (slice_get w.callers c) []

abbrev pub caller_at : World → ℕ → ℕ → Option WorldCaller
caller_at w c d = slice_get (known_to w c) d

abbrev pub with_caller : World → ℕ → ℕ → WorldCaller → World
with_caller w c d u = record w { callers = slice_set w.callers c (slice_set (known_to w c) d u) }

-- The dictionary at this place takes the event, and its core answers so. All else stays.
pub record IsAnswered (judges : Verdicts) (old : World) (d : ℕ) (event : WorldEvent) (answer : DictEffect)
    (new : World) : Type 0 where
  pub before : WorldDict
  pub after : WorldDict
  pub found : dict_at old d ≡ Some before
  pub step : DictStep judges before event answer after
  pub rest : new ≡ with_dict old d after

-- the number of the last entry, or 0
abbrev pub last_number : List WorldEntry → ℕ
last_number [] = 0
last_number (entry ∷ []) = entry.number
last_number (entry ∷ entries) = last_number entries

-- what a caller knows once a number came to it, which is an answer where it was shown that version
abbrev pub knowing : WorldCaller → CallerEvent → WorldCaller
knowing u (Entered number) = record { core = raised u.core (Entered number); answers = u.answers ++ number ∷ [] }
knowing u (Told number) = record u { core = raised u.core (Told number) }

-- once it is shown the last entry of a dictionary; once it is told the number posted
abbrev pub entered : WorldCaller → WorldDict → WorldCaller
entered u x = knowing u (Entered (last_number x.entries))

abbrev pub learnt : WorldCaller → WorldDict → WorldCaller
learnt u x = knowing u (Told x.posted)

-- What the caller knows of the dictionary at this place becomes that. All else stays.
pub record Informs (old : World) (c d : ℕ) (becomes : WorldCaller → WorldDict → WorldCaller) (new : World)
    : Type 0 where
  pub caller : WorldCaller
  pub dictionary : WorldDict
  pub found_caller : caller_at old c d ≡ Some caller
  pub found : dict_at old d ≡ Some dictionary
  pub rest : new ≡ with_caller old c d (becomes caller dictionary)

-- an event of the dictionary at a place; where there is none, nothing changes
abbrev pub DictEvents : Verdicts → World → ℕ → WorldEvent → World → Type 0
DictEvents judges old d event new =
    ((answer : DictEffect) × IsAnswered judges old d event answer new) ⊎ ((dict_at old d ≡ None) × (new ≡ old))

-- an event of a caller and the dictionary at a place; where one of them isn't there, nothing changes
abbrev pub CallerEvents : World → ℕ → ℕ → (WorldCaller → WorldDict → WorldCaller) → World → Type 0
CallerEvents old c d becomes new =
    Informs old c d becomes new ⊎ (((caller_at old c d ≡ None) ⊎ (dict_at old d ≡ None)) × (new ≡ old))

-- the same of an event that names a definition; where there is none of this number, nothing changes
abbrev pub NamingEvents : Verdicts → World → ℕ → ℕ → WorldEvent → World → Type 0
NamingEvents judges old d definition event new =
    ((definition < old.definitions) × DictEvents judges old d event new)
    ⊎ ((old.definitions ≤ definition) × (new ≡ old))

-- from old, the event may lead to new
abbrev pub WorldStep : Verdicts → World → WorldEvent → World → Type 0
WorldStep judges old (Start d) new = DictEvents judges old d (Start d) new
WorldStep judges old (StartWith d definition) new =
    NamingEvents judges old d definition (StartWith d definition) new
WorldStep judges old (Piece d piece) new = DictEvents judges old d (Piece d piece) new
WorldStep judges old (Finish d ended) new = DictEvents judges old d (Finish d ended) new
WorldStep judges old (Publish d) new = DictEvents judges old d (Publish d) new
WorldStep judges old (Post d) new = DictEvents judges old d (Post d) new
WorldStep judges old (Enter c d) new = CallerEvents old c d entered new
WorldStep judges old (Learn c d) new = CallerEvents old c d learnt new

-- from old, the events may lead to new, one after another
abbrev pub Run : Verdicts → World → List WorldEvent → World → Type 0
Run judges old [] new = new ≡ old
Run judges old (event ∷ events) new = (mid : World) × WorldStep judges old event mid × Run judges mid events new

-- a dictionary at a place that has published nothing: its definition is that of its place
abbrev pub empty_dict : ℕ → WorldDict
empty_dict place =
    record { definition = place; loading = place; bytes = []; entries = []; posted = 0; core = empty_core }

-- a caller that knows of no version
abbrev pub empty_caller : WorldCaller
empty_caller = record { core = record { floor = 0 }; answers = [] }

-- nothing has happened
abbrev pub empty_world : ℕ → ℕ → ℕ → World
empty_world dictionaries definitions callers =
    record {
      definitions = definitions;
      dictionaries = map empty_dict (range_with_len 0 dictionaries);
      callers = replicate callers (replicate dictionaries empty_caller);
    }
