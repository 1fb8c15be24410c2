-- What a board tells of a dictionary's loads, and what a posting makes of it.
use Rattle.std.specs.Prelude.{◌≡◌, ℕ, List, [], ◌∷◌, ◌++◌, Bool, true, false, Option, Some, None, ⊤, nat_lt}
use Rattle.std.specs.Prelude.{if◌then◌else◌}
use Rattle.std.specs.Option.{option_map_or}
use Rattle.circular_buffer.specs.Buffer.{keep_last}
use Rattle.dict_value.specs.declared.fault.Cause.TheVariants.{Spent}
use Rattle.load_core.specs.DictSteps.{risen}
use Rattle.load_core.specs.declared.dictionary.LastCause.{LastCause}
use Rattle.load_core.specs.declared.dictionary.LastCause.TheVariants as last
use Rattle.load_core.specs.declared.dictionary.State.{State}
use Rattle.load_core.specs.declared.dictionary.State.TheVariants as state
use Rattle.loader.specs.declared.answers.StatusRow.{StatusRow}
use Rattle.loader.specs.declared.board.LoadNote.{LoadNote}
use Rattle.loader.specs.declared.board.NoteEnd.{NoteEnd}
use Rattle.loader.specs.declared.board.NoteEnd.TheVariants as noted
use Rattle.loader.specs.declared.board.Posting.{Posting}
use Rattle.loader.specs.declared.board.Posting.TheVariants.{Begun, Published, Failed}

-- what a board tells: the token of the newest version that was posted, whether a load runs, how many loads were
-- published and how many failed, why the last one that ended failed, and the last ends, the oldest first
pub record BoardTold (T : Type 0) : Type 0 where
  pub newest : Option T
  pub is_running : Bool
  pub oks : ℕ
  pub fails : ℕ
  pub cause : LastCause
  pub notes : List LoadNote

-- no load has begun
abbrev pub empty_board : {T : Type 0} → BoardTold T
empty_board = record { newest = None; is_running = false; oks = 0; fails = 0; cause = last.None; notes = [] }

-- the number of the newest token, or 0 where there is none
abbrev pub newest_number : {T : Type 0} → (T → ℕ) → Option T → ℕ
newest_number number_of newest = option_map_or number_of newest 0

-- the last 64 ends, with one more
abbrev pub with_note : List LoadNote → ℕ → NoteEnd → List LoadNote
with_note notes moment end = keep_last 64 (notes ++ record { moment = moment; end = end } ∷ [])

-- what a posting makes of it: Spent, which no load had begun for, is the cause and is noted, and changes nothing else
abbrev pub posted : {T : Type 0} → BoardTold T → Posting T → BoardTold T
posted b Begun = record b { is_running = true }
posted b (Published told number moment) =
    record b {
      newest = Some told;
      is_running = false;
      oks = number;
      cause = last.None;
      notes = with_note b.notes moment (noted.Published number);
    }
posted b (Failed Spent moment) =
    record b { cause = last.Of Spent; notes = with_note b.notes moment (noted.Failed Spent) }
posted b (Failed cause moment) =
    record b {
      is_running = false;
      fails = risen b.fails;
      cause = last.Of cause;
      notes = with_note b.notes moment (noted.Failed cause);
    }

-- the number that is posted is the token's
abbrev pub HasNumber : {T : Type 0} → (T → ℕ) → Posting T → Type 0
HasNumber number_of Begun = ⊤
HasNumber number_of (Published told number moment) = number ≡ number_of told
HasNumber number_of (Failed cause moment) = ⊤

-- the token that is posted is one of these
abbrev pub HasToken : {T : Type 0} → (T → Type 0) → Posting T → Type 0
HasToken those Begun = ⊤
HasToken those (Published told number moment) = those told
HasToken those (Failed cause moment) = ⊤

-- what a dictionary is told to be in, by whether it has a version, whether a load failed, and whether one runs
abbrev pub state_of : {T : Type 0} → BoardTold T → State
state_of b =
    if nat_lt 0 b.oks then (if b.is_running then state.LoadedAndReloading else state.Loaded)
    else if nat_lt 0 b.fails then (if b.is_running then state.FailedAndReloading else state.Failed)
    else (if b.is_running then state.Loading else state.NotLoaded)

-- the row that a board tells; its number is that of the newest token
abbrev pub row_of : {T : Type 0} → BoardTold T → StatusRow
row_of b = record { number = b.oks; state = state_of b; oks = b.oks; fails = b.fails; cause = b.cause }
