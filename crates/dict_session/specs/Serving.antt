-- What the calls for one request lead to.
use Rattle.std.specs.Prelude.{◌≡◌, ◌⊎◌, ◌≤◌, ℕ, List, [], max, ◌==◌, if◌then◌else◌, ⊤}
use Rattle.dict_functions.specs.Asking.{IsAsked}
use Rattle.dict_session.specs.Acts.{DeskCall}
use Rattle.dict_session.specs.Answers.{FollowsFrom, CallsOf, no_memory}
use Rattle.dict_session.specs.Floors.{Moved, floor_after}
use Rattle.dict_session.specs.Facts.{Facts}
use Rattle.dict_session.specs.Items.{IsFunctionItem, IsKeyedItem, IsLoadedItem}
use Rattle.dict_session.specs.declared.ask.Ask.TheVariants as ask
use Rattle.dict_schema.specs.declared.definition.Definition.{Definition}
use Rattle.dict_schema.specs.declared.definition.FunctionDef.{FunctionDef}
use Rattle.dict_schema.specs.declared.definition.Item.{Item}
use Rattle.dict_session.specs.declared.answer.Answer.{Answer}
use Rattle.dict_session.specs.declared.ask.Ask.{Ask}
use Rattle.load_core.specs.CallerSteps.{told_number}
use Rattle.load_core.specs.declared.caller.CallerEvent.{CallerEvent}
use Rattle.wire_text.specs.RequestTexts.{Heard}
use Rattle.wire_text.specs.declared.reply.Reply.{Reply}
use Rattle.wire_text.specs.declared.request.Request.{Request}
use Rattle.wire_text.specs.declared.request.Request.TheVariants as request

-- some lines ask for this lookup
abbrev pub IsAskedRequest : Request → Type 0
IsAskedRequest (request.Asked q) = IsAsked q
IsAskedRequest _ = ⊤

-- the numbers that the acts tell are those of this event for the dictionary at this place
abbrev pub Tells : List DeskCall → ℕ → CallerEvent → Type 0
Tells acts place event =
    (e floor : ℕ) → floor_after e floor acts ≤ (if place == e then max floor (told_number event) else floor)

-- a request was answered with at most one call
pub record Answered {S : Type 0} (facts : Facts S) (s : S) (heard : Heard) (asks : Ask) (now : ℕ) (answer : Answer)
    (t : S) : Type 0 where
  pub calls : List DeskCall
  pub moved : Moved facts s calls t
  pub answers : FollowsFrom (facts.items s) heard asks now calls answer.reply
      ⊎ (answer.reply ≡ no_memory) × ((calls ≡ []) ⊎ CallsOf asks now calls)
  pub tells : Tells calls answer.place answer.event

-- memory was refused in place of a reply
abbrev pub OrNoMemory : Reply → Reply → Type 0
OrNoMemory whole reply = (reply ≡ whole) ⊎ (reply ≡ no_memory)

-- the item is of the kind that the call needs
abbrev pub AskFits : List Item → Ask → Type 0
AskFits items (ask.Look d) = IsLoadedItem items d
AskFits items (ask.Load d) = IsLoadedItem items d
AskFits items (ask.Teach d) = IsLoadedItem items d
AskFits items (ask.Reach d number) = IsLoadedItem items d
AskFits items (ask.ShowEntered d) = IsLoadedItem items d
AskFits items (ask.Fetch d) = (definition : Definition) × IsKeyedItem items d definition
AskFits items (ask.Apply f) = (definition : FunctionDef) × IsFunctionItem items f definition
AskFits items _ = ⊤
