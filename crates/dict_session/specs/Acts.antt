-- The calls of a desk with their answers, and what lists of them lead to.
use Rattle.std.specs.Prelude.{◌≡◌, ℕ, List, [], ◌∷◌, Result}
use Rattle.dict_session.specs.declared.desk.ConfigEnd.{ConfigEnd}
use Rattle.dict_value.specs.declared.fault.CallFault.{CallFault}
use Rattle.dict_value.specs.declared.fault.FetchFault.{FetchFault}
use Rattle.dict_value.specs.declared.value.FetchedRow.{FetchedRow}
use Rattle.dict_value.specs.declared.value.Value.{Value}
use Rattle.dict_version.specs.Contents.{Contents}
use Rattle.loader.specs.declared.answers.LoadEnd.{LoadEnd}
use Rattle.loader.specs.declared.answers.StatusRow.{StatusRow}
use Rattle.version_slot.specs.Views.{Entered as Seen}
use Rattle.version_slot.specs.declared.seen.EnterFault.{EnterFault}

-- a call with its answer; d and f are places of items
pub data DeskCall : Type 0 where
  Moment : (now : ℕ) → DeskCall
  Before : (now : ℕ) → DeskCall
  Entered : (d : ℕ) (answer : Result (Seen Contents) EnterFault) → DeskCall
  Taught : (d : ℕ) (row : StatusRow) → DeskCall
  Reloaded : (d now : ℕ) (end : LoadEnd) → DeskCall
  Keyed : (d now : ℕ) (keys : List (List Value)) (answer : Result (List FetchedRow) FetchFault) → DeskCall
  Called : (f : ℕ) (rows : List (List Value)) (answer : Result (List Value) CallFault) → DeskCall
  Configured : (now : ℕ) (end : ConfigEnd) → DeskCall

-- the acts lead from one state to another: each did what it says from the state that the one before it left
abbrev pub Leads : {S : Type 0} → (S → DeskCall → S → Type 0) → S → List DeskCall → S → Type 0
Leads {S} did old [] new = new ≡ old
Leads {S} did old (act ∷ acts) new = (mid : S) × did old act mid × Leads did mid acts new
