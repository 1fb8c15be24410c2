-- Sessions in which memory was found and no fault was met.
use Rattle.std.specs.Prelude.{◌≡◌, ◌≢◌, ℕ, List, Option, Result, Ok, Err, map, ⊤}
use Rattle.std.specs.Option.{ForSome}
use Rattle.std.specs.List.{AllByRecursion}
use Rattle.dict_schema.specs.Sound.{IsSound}
use Rattle.dict_schema.specs.declared.definition.Definition.{Definition}
use Rattle.dict_schema.specs.declared.definition.FunctionDef.{FunctionDef}
use Rattle.dict_schema.specs.declared.definition.Item.{Item}
use Rattle.dict_session.specs.Acts.{DeskCall, Before, Configured, Entered, Moment, Reloaded, Taught}
use Rattle.dict_session.specs.Answers.{no_memory}
use Rattle.dict_session.specs.Facts.{Facts}
use Rattle.dict_session.specs.Items.{IsFunctionItem, IsKeyedItem}
use Rattle.dict_session.specs.Session.{Exchange, heard_in}
use Rattle.dict_session.specs.declared.desk.ConfigEnd.TheVariants as config
use Rattle.dict_session.specs.declared.session.SessionEnd.{SessionEnd}
use Rattle.dict_session.specs.declared.session.SessionEnd.TheVariants as end
use Rattle.dict_version.specs.Contents.{Contents}
use Rattle.loader.specs.declared.answers.LoadEnd.TheVariants as load
use Rattle.version_slot.specs.Views.{Entered as Seen}
use Rattle.version_slot.specs.declared.seen.EnterFault.{EnterFault}
use Rattle.version_slot.specs.declared.seen.EnterFault.TheVariants as enter
use Rattle.wire_text.specs.RequestTexts.{Heard}

-- memory was found for each reply
abbrev pub AllFound : List Exchange → Type 0
AllFound xs = AllByRecursion (λ (x : Exchange). x.reply ≢ no_memory) xs

-- a session ended by its input: no fault was met, and requests were left
abbrev pub IsByInput : SessionEnd → Type 0
IsByInput end.Quit = ⊤
IsByInput end.Ended = ⊤
IsByInput end.LineTooLong = ⊤
IsByInput _ = ⊥

-- what was heard of each request
abbrev pub heards : List Exchange → List (Option Heard)
heards xs = map (λ (x : Exchange). heard_in x.asking) xs

-- two acts are one call, whatever they answered
abbrev pub IsSameCall : DeskCall → DeskCall → Type 0
IsSameCall (Moment now) (Moment later) = ⊤
IsSameCall (Before now) (Before later) = now ≡ later
IsSameCall (Entered d answer) (Entered e other) = d ≡ e
IsSameCall (Taught d row) (Taught e other) = d ≡ e
IsSameCall (Reloaded d now end) (Reloaded e later other) = (d ≡ e) × (now ≡ later)
IsSameCall (Configured now end) (Configured later other) = now ≡ later
IsSameCall _ _ = ⊥

-- memory was found for the answer
abbrev pub IsFoundAct : DeskCall → Type 0
IsFoundAct (Entered d (Err enter.NoMemory)) = ⊥
IsFoundAct (Reloaded d now load.NoMemory) = ⊥
IsFoundAct (Configured now config.NoMemory) = ⊥
IsFoundAct _ = ⊤

-- the version that was seen has a sound definition
abbrev pub SawSound : Result (Seen Contents) EnterFault → Type 0
SawSound (Ok seen) = ForSome seen.version (λ (c : Contents). IsSound c.definition)
SawSound (Err refusal) = ⊤

-- a desk's acts are one: where memory is found, a call from a state has one answer, and leads to one state
pub record AreOne {S : Type 0} (facts : Facts S) : Type 0 where
  pub one : (s t u : S) (act other : DeskCall) → IsSameCall act other → IsFoundAct act → IsFoundAct other
      → facts.did s act t → facts.did s other u → (act ≡ other) × (t ≡ u)
  pub sound : (s t : S) (d : ℕ) (answer : Result (Seen Contents) EnterFault) → facts.did s (Entered d answer) t
      → SawSound answer

-- each item is a dictionary that is fully loaded
abbrev pub AreFullyLoaded : List Item → Type 0
AreFullyLoaded items = ((d : ℕ) (definition : Definition) → ¬ (IsKeyedItem items d definition))
    × ((f : ℕ) (definition : FunctionDef) → ¬ (IsFunctionItem items f definition))
