-- One run of `once`: the definitions, the first loads, the session, and how it ends.
use Rattle.std.specs.Prelude.{◌≡◌, ◌⊎◌, ℕ, List, Option, Result, Ok, Err, codes, length, true}
use Rattle.child_io.specs.Words.{IsFolder}
use Rattle.dict_hub.specs.Over.{AllLoaded, Children, LoadUpTo, Moves, OverState, Ticked}
use Rattle.dict_hub.specs.Over.{moves_of, over_facts, over_state, view_at}
use Rattle.dict_hub.specs.Plain.{PlainDue, PlainEntered, PlainJudged, PlainLoaded, PlainLoadedAs, PlainState}
use Rattle.dict_hub.specs.Plain.{PlainTaught, opened}
use Rattle.dict_hub.specs.Readings.{FileState, ReadsItems, ReadsOnce, file_state}
use Rattle.dict_io.specs.Links.{Ends}
use Rattle.dict_io.specs.declared.outside.ShelfFault.{ShelfFault}
use Rattle.dict_schema.specs.declared.definition.Item.{Item}
use Rattle.dict_session.specs.Facts.{Facts}
use Rattle.dict_session.specs.Session.{Serves}
use Rattle.dict_session.specs.declared.desk.ConfigEnd.{ConfigEnd}
use Rattle.dict_session.specs.declared.desk.ConfigEnd.TheVariants as config
use Rattle.dict_session.specs.declared.session.SessionEnd.{SessionEnd}
use Rattle.dict_session.specs.declared.session.SessionEnd.TheVariants as end
use Rattle.dictd.specs.CommandLine.{IsOnce}
use Rattle.dictd.specs.declared.status.Status.{Status}
use Rattle.dictd.specs.declared.status.Status.TheVariants as status
use Rattle.loader.specs.Origins.{HasOrigin, Ran}
use Rattle.version_slot.specs.Views.{EachHasFact}

-- what a shelf tells: that it answered so, what its next reading finds of a name, and the readings behind that
pub record ShelfTold (R : Type 0) : Type 1 where
  pub filed : List ℕ → Result (List ℕ) ShelfFault → Type 0
  pub file : R → List ℕ → Option (Option (List ℕ))
  pub later : R → R

abbrev pub shelf_told : {R : Type 0} → (List ℕ → Result (List ℕ) ShelfFault → Type 0)
    → (R → List ℕ → Option (Option (List ℕ))) → (R → R) → ShelfTold R
shelf_told filed file later = record { filed = filed; file = file; later = later }

-- what is known of the outside beside the link: the readings of the shelf, the moments, and the children
pub record Outer (R : Type 0) : Type 0 where
  pub readings : R
  pub moments : Option (List ℕ)
  pub children : Children

abbrev pub outer : {R : Type 0} → R → Option (List ℕ) → Children → Outer R
outer readings moments children = record { readings = readings; moments = moments; children = children }

-- ---- the desk of one thread

abbrev pub Local : Type 0 → Type 0
Local R = OverState PlainState (FileState R)

abbrev pub local_moves : {R : Type 0} → ShelfTold R → Moves PlainState (FileState R)
local_moves shelf = moves_of PlainEntered PlainTaught PlainLoaded PlainDue PlainLoadedAs PlainJudged
    (ReadsOnce shelf.filed shelf.file shelf.later)

abbrev pub local_facts : {R : Type 0} → ShelfTold R → Facts (Local R)
local_facts shelf = over_facts (λ (one : PlainState). one.list) (local_moves shelf)

-- before the first load: the items, the file that they came from, and what is outside
abbrev pub opening : {R : Type 0} → List Item → (name folder : List ℕ) → (seed : ℕ) → Outer R → Local R
opening items name folder seed o =
    over_state items (file_state o.readings name) o.moments o.children (opened folder seed 0 items) true

-- what is outside, as the desk has it
abbrev pub outer_of : {R : Type 0} → Local R → Outer R
outer_of s = outer s.file.readings s.moments s.children

-- each version that a dictionary has came from a child that really ran: each entry of its list has an origin
abbrev pub AllOrigins : {R : Type 0} → Ran → List ℕ → Local R → Type 0
AllOrigins ran folder s =
    (d : ℕ) → EachHasFact (HasOrigin ran folder) (view_at (λ (one : PlainState). one.list) s.dictionaries d)

-- the first moment was taken, each dictionary was loaded once, in the order of the file, and the session was served
pub record Runs {R : Type 0} (shelf : ShelfTold R) (ran : Ran) (folder : List ℕ) (first : Local R) (old : Ends)
    (ended : SessionEnd) (last : Local R) (new : Ends) : Type 0 where
  pub now : ℕ
  pub begun : Local R
  pub loaded : Local R
  pub ticked : Ticked first now begun
  pub loads : LoadUpTo (local_moves shelf) now (length first.items) begun loaded
  pub serves : Serves (local_facts shelf) loaded old ended last new
  pub origins : AllOrigins ran folder last

-- ---- the run, by its status

-- how the end of a session is told
abbrev pub status_of : SessionEnd → Status
status_of end.Quit = status.Done
status_of end.Ended = status.Done
status_of end.ReadFault = status.ReadFault
status_of end.WriteFault = status.WriteFault
status_of end.LineTooLong = status.LineTooLong
status_of end.Spent = status.Spent
status_of end.NoMemory = status.NoMemory

-- how a file without items is told
abbrev pub status_for : ConfigEnd → Status
status_for config.Unread = status.DefsUnread
status_for config.TooLong = status.DefsTooLong
status_for (config.Refused line place words) = status.DefsRefused line place words
status_for _ = status.NoMemory

-- what isn't served yet is told of the file's first byte
abbrev pub IsUnserved : Status → Type 0
IsUnserved (status.DefsRefused line place words) = (line ≡ 1) × (place ≡ 0) × (words.now ≡ codes "unsupported")
IsUnserved _ = ⊥

-- the file was read once: what is outside afterwards
abbrev pub once_read : {R : Type 0} → ShelfTold R → Outer R → Outer R
once_read shelf o = outer (shelf.later o.readings) o.moments o.children

-- a reading of the file gave this
abbrev pub ReadsNamed : {R : Type 0} → ShelfTold R → R → List ℕ → Result (List Item) ConfigEnd → Type 0
ReadsNamed shelf readings name result = ReadsItems shelf.filed (shelf.file readings name) name result

-- a reading of the file gave these items, each of which is served; or it is told so
abbrev pub ReadsServed : {R : Type 0} → ShelfTold R → R → List ℕ → Result (List Item) Status → Type 0
ReadsServed shelf readings name (Ok items) = ReadsNamed shelf readings name (Ok items) × AllLoaded items
ReadsServed shelf readings name (Err told) =
    ((why : ConfigEnd) × ReadsNamed shelf readings name (Err why) × (told ≡ status_for why))
    ⊎ ((items : List Item) × ReadsNamed shelf readings name (Ok items) × (AllLoaded items → ⊥) × IsUnserved told)
    ⊎ (told ≡ status.NoMemory)

-- the dictionaries of the items were served, or memory was refused before the first load
pub data ServesIn {R : Type 0} (shelf : ShelfTold R) (ran : Ran) (items : List Item) (name folder : List ℕ) (seed : ℕ)
    (o : Outer R) (old : Ends) (ended : SessionEnd) (o' : Outer R) (new : Ends) : Type 0 where
  refused : ended ≡ end.NoMemory → o' ≡ o → new ≡ old → ServesIn shelf ran items name folder seed o old ended o' new
  served : (last : Local R) → Runs shelf ran folder (opening items name folder seed o) old ended last new
      → o' ≡ outer_of last → ServesIn shelf ran items name folder seed o old ended o' new

pub data OnceRun {R : Type 0} (shelf : ShelfTold R) (ran : Ran) (words : List (List ℕ)) (o : Outer R) (old : Ends)
    (told : Status) (o' : Outer R) (new : Ends) : Type 0 where
  -- the words have another form
  misused : ((name : List ℕ) (seed : ℕ) → IsOnce words name seed → ⊥) → told ≡ status.Usage → o' ≡ o → new ≡ old
      → OnceRun shelf ran words o old told o' new
  -- the file has no items
  unread : (name : List ℕ) (seed : ℕ) (why : ConfigEnd) → IsOnce words name seed
      → ReadsNamed shelf o.readings name (Err why) → told ≡ status_for why → o' ≡ once_read shelf o → new ≡ old
      → OnceRun shelf ran words o old told o' new
  -- an item of it isn't served yet, which is told of the file's first byte
  unserved : (name : List ℕ) (seed : ℕ) (items : List Item) → IsOnce words name seed
      → ReadsNamed shelf o.readings name (Ok items) → (AllLoaded items → ⊥) → IsUnserved told
      → o' ≡ once_read shelf o → new ≡ old → OnceRun shelf ran words o old told o' new
  -- memory was refused for the items
  refused : (name : List ℕ) (seed : ℕ) → IsOnce words name seed → told ≡ status.NoMemory → o' ≡ once_read shelf o
      → new ≡ old → OnceRun shelf ran words o old told o' new
  -- the dictionaries of the file are served
  served : (name : List ℕ) (seed : ℕ) (items : List Item) (folder : List ℕ) (ended : SessionEnd)
      → IsOnce words name seed → ReadsNamed shelf o.readings name (Ok items) → AllLoaded items → IsFolder name folder
      → ServesIn shelf ran items name folder seed (once_read shelf o) old ended o' new → told ≡ status_of ended
      → OnceRun shelf ran words o old told o' new
