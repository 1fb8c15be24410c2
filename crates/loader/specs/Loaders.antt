-- What a loader keeps, and what one load makes of it, of the list of versions, and of what runs its child.
use Rattle.std.specs.Prelude.{◌≡◌, ◌<◌, ◌≤◌, ◌⊎◌, ℕ, List, [], ◌∷◌, ◌++◌, length, Option, Some, None, Ok, Err}
use Rattle.std.specs.List.{All, concat}
use Rattle.child_io.specs.Calls.{History}
use Rattle.child_io.specs.Gathers.{outcome_of}
use Rattle.child_io.specs.Runs.{RanChild, RunTold, order_of}
use Rattle.child_io.specs.Told.{StartsTold, Told}
use Rattle.child_io.specs.declared.child.Outcome.{Outcome}
use Rattle.child_io.specs.declared.child.Script.{Script}
use Rattle.child_io.specs.declared.pieces.PieceEnd.{PieceEnd}
use Rattle.child_io.specs.declared.pieces.PieceEnd.TheVariants as piece_end
use Rattle.child_io.specs.declared.words.Since.{Since}
use Rattle.child_io.specs.declared.words.Since.TheVariants.{Whole, From}
use Rattle.dict_schema.specs.declared.definition.Definition.{Definition}
use Rattle.dict_schema.specs.declared.definition.Update.{Update}
use Rattle.dict_schema.specs.declared.definition.Update.TheVariants as update
use Rattle.dict_value.specs.declared.fault.Cause.TheVariants as cause
use Rattle.dict_version.specs.Contents.{Contents}
use Rattle.load_core.specs.DictSteps.{empty_core, most_loads}
use Rattle.load_core.specs.declared.dictionary.DictCore.{DictCore}
use Rattle.packed_rows.specs.Columns.{RowList}
use Rattle.loader.specs.Events.{core_after, load_events}
use Rattle.loader.specs.Origins.{Loads, Started, newest}
use Rattle.loader.specs.Timing.{Timing, after_failure, after_ok, never_loaded, with_lifetime}
use Rattle.loader.specs.declared.answers.LoadEnd.{LoadEnd}
use Rattle.loader.specs.declared.answers.LoadEnd.TheVariants.{Published, Failed, NoMemory}
use Rattle.loader.specs.declared.board.Posting.{Posting}
use Rattle.loader.specs.declared.board.Posting.TheVariants as post

-- What a loader keeps: the current definition, the folder of its programs, the counts, when a load is due, since when
-- the next load asks for rows, and the rows that it lays its own over.
pub record LoaderState : Type 0 where
  pub definition : Definition
  pub folder : List ℕ
  pub core : DictCore
  pub timing : Timing
  pub since : Since
  pub former : RowList

-- no load has begun
abbrev pub new_loader : Definition → List ℕ → ℕ → ℕ → LoaderState
new_loader d folder seed number =
    record {
      definition = d;
      folder = folder;
      core = empty_core;
      timing = never_loaded d.lifetime seed number;
      since = Whole;
      former = [];
    }

-- the rows of a version are kept where its definition has an update field
abbrev pub kept_rows : Update → RowList → RowList
kept_rows update.None rows = []
kept_rows (update.Field name lag) rows = rows

-- the loader has the newest version's definition and moment, and its rows where they are kept
abbrev pub HasNewest : LoaderState → Option Contents → Type 0
HasNewest l None = (l.since ≡ Whole) × (l.former ≡ [])
HasNewest l (Some e) =
    (e.definition ≡ l.definition) × (l.since ≡ From e.moment)
    × (l.former ≡ kept_rows e.definition.source.update e.rows)

-- the loader stands at the end of this list
pub record IsAt (l : LoaderState) (list : List Contents) : Type 0 where
  pub counted : l.core.published ≡ length list
  pub newest : HasNewest l (newest list)

-- the version that a load published
abbrev pub version_of : Definition → RowList → ℕ → Contents
version_of d rows moment = record { definition = d; rows = rows; moment = moment }

-- A load behind a list whose child had this outcome: it appends what the outcome is judged to give, or leaves the list.
-- Want of memory may end any load so.
abbrev pub EndsLoad : Definition → ℕ → List Contents → Outcome → LoadEnd → List Contents → Type 0
EndsLoad d now list outcome (Published number) after =
    (rows : RowList) × Loads d list outcome (Ok rows) × (after ≡ list ++ version_of d rows now ∷ [])
    × (number ≡ length after)
EndsLoad d now list outcome (Failed why) after = Loads d list outcome (Err why) × (after ≡ list)
EndsLoad d now list outcome NoMemory after = after ≡ list

-- what is known of a child that was started with these words, ended so, and printed these pieces
abbrev pub Running : Type 1
Running = List (List ℕ) → PieceEnd → List (List ℕ) → Type 0

-- between two states of a spawner one such child was run without input, by the definition's limits
pub record RunsOne {S C : Type 0} (scripts : S → Option (List Script)) (starts : S → Option (List (List (List ℕ))))
    (started : S → List (List ℕ) → C → S → Type 0) (told : C → Option Told) (history : History C) (faults : C → ℕ)
    (d : Definition) (old new : S) (words : List (List ℕ)) (ending : PieceEnd) (pieces : List (List ℕ))
    : Type 0 where
  pub told_script : RunTold (scripts old) (scripts new) [] d.max_output ending pieces
  pub told_words : StartsTold (starts old) words (starts new)
      ((ending ≡ piece_end.NotStarted) ⊎ (ending ≡ piece_end.NoMemory))
  pub child :
      RanChild started told history faults (order_of words [] d.max_output d.source.read_ms) old new ending pieces

-- What a load comes to that read these pieces of a child which ended so: each read brought bytes, within the limit; the
-- list is as the child's outcome says; and the core takes the events of the load.
pub record ComesTo (d : Definition) (now : ℕ) (list after : List Contents) (old new : DictCore) (ending : PieceEnd)
    (pieces : List (List ℕ)) (end : LoadEnd) : Type 0 where
  pub some : All (λ piece. 0 < length piece) pieces
  pub within : length (concat pieces) ≤ d.max_output
  pub ends : EndsLoad d now list (outcome_of ending (concat pieces)) end after
  pub core : new ≡ core_after old (load_events pieces end)

-- a load runs one child with the words of the list, and comes to what that gives
pub record RunsLoad (runs : Running) (d : Definition) (now : ℕ) (folder : List ℕ) (list after : List Contents)
    (old new : DictCore) (end : LoadEnd) : Type 0 where
  pub words : List (List ℕ)
  pub ending : PieceEnd
  pub pieces : List (List ℕ)
  pub started : Started d folder list words
  pub child : runs words ending pieces
  pub comes : ComesTo d now list after old new ending pieces end

-- memory ran out before a child was started
pub record StartsNone (same : Type 0) (d : Definition) (now : ℕ) (list after : List Contents) (old new : DictCore)
    (end : LoadEnd) : Type 0 where
  pub none : same
  pub ended : end ≡ NoMemory
  pub comes : ComesTo d now list after old new piece_end.NoMemory [] end

-- the loads are used up, and none begins
pub record IsSpent (same : Type 0) (list after : List Contents) (old new : DictCore) (end : LoadEnd) : Type 0 where
  pub none : same
  pub ended : end ≡ Failed cause.Spent
  pub list_left : after ≡ list
  pub core_left : new ≡ old

-- what a load posts: its begin and its end; nothing begins where the loads are used up
abbrev pub ArePostings : {T : Type 0} → (T → Type 0) → ℕ → LoadEnd → List (Posting T) → Type 0
ArePostings {T} is_told now (Published number) postings =
    (told : T) × is_told told × (postings ≡ post.Begun ∷ post.Published told number now ∷ [])
ArePostings {T} is_told now (Failed cause.Spent) postings = postings ≡ post.Failed cause.Spent now ∷ []
ArePostings {T} is_told now (Failed why) postings = postings ≡ post.Begun ∷ post.Failed why now ∷ []
ArePostings {T} is_told now NoMemory postings = postings ≡ post.Begun ∷ post.Failed cause.NoMemory now ∷ []

-- What a load with a definition leaves of a loader, beside its counts and the rows that are kept: after a published
-- one that definition, with its lifetime, is the current one; after any other the wait after a failure counts.
abbrev pub IsAfter : Definition → ℕ → LoadEnd → LoaderState → LoaderState → Type 0
IsAfter d now (Published number) old new =
    new ≡ record old {
      definition = d;
      core = new.core;
      timing = after_ok (with_lifetime old.timing d.lifetime) now;
      since = From now;
      former = new.former;
    }
IsAfter d now end old new = new ≡ record old { core = new.core; timing = after_failure old.timing now }

-- One load with a definition at a moment, as one whole: of the loader, the list and the child (`runs`, or `same` where
-- none was started), and what it posted, which the token of the list is among where it published.
pub record IsLoad {T : Type 0} (runs : Running) (same : Type 0) (is_told : T → Type 0)
    (posts : List (Posting T) → Type 0) (d : Definition) (now : ℕ) (end : LoadEnd) (old new : LoaderState)
    (list after : List Contents) : Type 0 where
  pub run : old.core.loads < most_loads → RunsLoad runs d now old.folder list after old.core new.core end
      ⊎ StartsNone same d now list after old.core new.core end
  pub spent : most_loads ≤ old.core.loads → IsSpent same list after old.core new.core end
  pub state : IsAfter d now end old new
  pub stands : IsAt new after
  pub postings : List (Posting T)
  pub are_postings : ArePostings is_told now end postings
  pub posted : posts postings
