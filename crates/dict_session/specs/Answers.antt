-- The desk's calls for one request, and the reply that follows from their answers.
use Rattle.std.specs.Prelude.{◌≡◌, ◌⊎◌, ℕ, List, [], ◌∷◌, Option, Some, None, Result, Ok, Err, if◌then◌else◌}
use Rattle.std.specs.Prelude.{nat_lt, slice_get}
use Rattle.ddl_writing.specs.Canonical.{item_text}
use Rattle.dict_functions.specs.Answers.{AnswersSeen}
use Rattle.dict_functions.specs.Calls.{AnswersCall, AreCallArguments}
use Rattle.dict_functions.specs.Keyed.{AnswersKeyed, AreKeys}
use Rattle.dict_schema.specs.declared.definition.Definition.{Definition}
use Rattle.dict_schema.specs.declared.definition.FunctionDef.{FunctionDef}
use Rattle.dict_schema.specs.declared.definition.Item.{Item}
use Rattle.dict_schema.specs.declared.definition.Item.TheVariants.{Dictionary}
use Rattle.dict_session.specs.Acts.{DeskCall, Called, Configured, Entered, Keyed, Reloaded, Taught}
use Rattle.dict_session.specs.Asks.{IsAskOf}
use Rattle.dict_session.specs.Items.{IsFunctionItem, IsKeyedItem}
use Rattle.dict_session.specs.declared.ask.Ask.{Ask}
use Rattle.dict_session.specs.declared.ask.Ask.TheVariants.{Refuse, SayBye, Look, Fetch, Apply, Load, Teach, Reach}
use Rattle.dict_session.specs.declared.ask.Ask.TheVariants.{Show, ShowEntered, Configure}
use Rattle.dict_session.specs.declared.desk.ConfigEnd.{ConfigEnd}
use Rattle.dict_session.specs.declared.desk.ConfigEnd.TheVariants as config
use Rattle.dict_value.specs.declared.fault.CallFault.{CallFault}
use Rattle.dict_value.specs.declared.fault.FetchFault.{FetchFault}
use Rattle.dict_value.specs.declared.value.FetchedRow.{FetchedRow}
use Rattle.dict_value.specs.declared.value.Value.{Value}
use Rattle.dict_version.specs.Contents.{Contents}
use Rattle.loader.specs.declared.answers.LoadEnd.{LoadEnd}
use Rattle.loader.specs.declared.answers.LoadEnd.TheVariants as end
use Rattle.loader.specs.declared.answers.StatusRow.{StatusRow}
use Rattle.version_slot.specs.Views.{Entered as Seen}
use Rattle.version_slot.specs.declared.seen.EnterFault.{EnterFault}
use Rattle.version_slot.specs.declared.seen.EnterFault.TheVariants as enter
use Rattle.wire_text.specs.RequestTexts.{Heard}
use Rattle.wire_text.specs.declared.reply.Reply.{Reply}
use Rattle.wire_text.specs.declared.reply.Reply.TheVariants.{Status, Number, Shown, Config, Bye, Refused}
use Rattle.wire_text.specs.declared.reply.ReplyFault.{ReplyFault}
use Rattle.wire_text.specs.declared.reply.ReplyFault.TheVariants as fault
use Rattle.wire_text.specs.declared.request.Asked.{Asked}
use Rattle.wire_text.specs.declared.request.Request.TheVariants as request

-- ---- replies by what a call answered

abbrev pub no_memory : Reply
no_memory = Refused fault.NoMemory

-- the refusal of an entering
abbrev pub entering_refused : EnterFault → Reply
entering_refused enter.Shut = Refused fault.Shut
entering_refused enter.NoMemory = no_memory

-- the number that was seen, at least the one that was asked for
abbrev pub reach_reply : ℕ → Result (Seen Contents) EnterFault → Reply
reach_reply number (Ok seen) =
    if nat_lt seen.number number then Refused (fault.Behind seen.number) else Number seen.number
reach_reply number (Err refusal) = entering_refused refusal

abbrev pub shown_item : Option Item → Reply
shown_item (Some item) = Shown (item_text item)
shown_item None = Refused fault.UnknownDictionary

-- the current definition of the list that was entered: that of its last entry, else the item's
abbrev pub current_item : Option Item → Option Contents → Option Item
current_item item (Some c) = Some (Dictionary c.definition)
current_item item None = item

abbrev pub shown_reply : Option Item → Result (Seen Contents) EnterFault → Reply
shown_reply item (Ok seen) = shown_item (current_item item seen.version)
shown_reply item (Err refusal) = entering_refused refusal

abbrev pub load_reply : LoadEnd → Reply
load_reply (end.Published number) = Number number
load_reply (end.Failed cause) = Refused (fault.Load cause)
load_reply end.NoMemory = no_memory

abbrev pub status_reply : StatusRow → Reply
status_reply row =
    Status record { number = row.number; state = row.state; oks = row.oks; fails = row.fails; cause = row.cause }

abbrev pub config_reply : ConfigEnd → Reply
config_reply (config.Done changed published) = Config changed published
config_reply config.Unread = Refused fault.ConfigUnread
config_reply config.TooLong = Refused fault.ConfigTooLong
config_reply (config.Refused line place words) = Refused (fault.ConfigRefused line place words)
config_reply (config.Names item) = Refused (fault.ConfigNames item)
config_reply config.NoMemory = no_memory

-- what a lookup asks
abbrev pub asked_in : Heard → Option Asked
asked_in (Heard.asks (request.Asked q)) = Some q
asked_in _ = None

-- the answer to a lookup from the one version that was entered
abbrev pub LooksUp : Option Asked → Result (Seen Contents) EnterFault → Reply → Type 0
LooksUp (Some q) (Ok seen) reply = AnswersSeen seen q reply
LooksUp (Some q) (Err refusal) reply = reply ≡ entering_refused refusal
LooksUp None answer reply = ⊥

-- The answer to a lookup in a dictionary whose rows are fetched by key: it is refused before a fetch, it comes from the
-- rows that were fetched for its keys, or the fetch failed.
pub data FetchAnswers (d : ℕ) (definition : Definition) (q : Asked) (now : ℕ) (calls : List DeskCall) (reply : Reply)
    : Type 0 where
  refused : (refusal : ReplyFault) → AreKeys definition q (Err refusal) → calls ≡ [] → reply ≡ Refused refusal
      → FetchAnswers d definition q now calls reply
  fetched : (keys : List (List Value)) (rows : List FetchedRow) → AreKeys definition q (Ok keys)
      → calls ≡ Keyed d now keys (Ok rows) ∷ [] → AnswersKeyed definition q now rows reply
      → FetchAnswers d definition q now calls reply
  failed : (keys : List (List Value)) (why : FetchFault) → AreKeys definition q (Ok keys)
      → calls ≡ Keyed d now keys (Err why) ∷ [] → reply ≡ Refused (fault.Fetch why)
      → FetchAnswers d definition q now calls reply

-- The answer to a call of a function: it is refused before the function is called, it comes from the values that were
-- given for its rows of arguments, or the call failed.
pub data CallAnswers (f : ℕ) (definition : FunctionDef) (q : Asked) (calls : List DeskCall) (reply : Reply)
    : Type 0 where
  refused : (refusal : ReplyFault) → AreCallArguments definition q (Err refusal) → calls ≡ [] → reply ≡ Refused refusal
      → CallAnswers f definition q calls reply
  given : (rows : List (List Value)) (values : List Value) → AreCallArguments definition q (Ok rows)
      → calls ≡ Called f rows (Ok values) ∷ [] → AnswersCall definition q values reply
      → CallAnswers f definition q calls reply
  failed : (rows : List (List Value)) (why : CallFault) → AreCallArguments definition q (Ok rows)
      → calls ≡ Called f rows (Err why) ∷ [] → reply ≡ Refused (fault.Call why) → CallAnswers f definition q calls reply

-- ---- one request

-- the calls that are asked for, whatever they answered
abbrev pub CallsOf : Ask → ℕ → List DeskCall → Type 0
CallsOf (Look d) now calls = (answer : Result (Seen Contents) EnterFault) × (calls ≡ Entered d answer ∷ [])
CallsOf (Reach d number) now calls = (answer : Result (Seen Contents) EnterFault) × (calls ≡ Entered d answer ∷ [])
CallsOf (ShowEntered d) now calls = (answer : Result (Seen Contents) EnterFault) × (calls ≡ Entered d answer ∷ [])
CallsOf (Load d) now calls = (end : LoadEnd) × (calls ≡ Reloaded d now end ∷ [])
CallsOf (Teach d) now calls = (row : StatusRow) × (calls ≡ Taught d row ∷ [])
CallsOf Configure now calls = (end : ConfigEnd) × (calls ≡ Configured now end ∷ [])
CallsOf (Fetch d) now calls = (calls ≡ [])
    ⊎ ((keys : List (List Value)) × (answer : Result (List FetchedRow) FetchFault)
    × (calls ≡ Keyed d now keys answer ∷ []))
CallsOf (Apply f) now calls = (calls ≡ [])
    ⊎ ((rows : List (List Value)) × (answer : Result (List Value) CallFault) × (calls ≡ Called f rows answer ∷ []))
CallsOf _ now calls = calls ≡ []

-- the calls that are asked for, and the reply that follows from their answers
abbrev pub FollowsFrom : List Item → Heard → Ask → ℕ → List DeskCall → Reply → Type 0
FollowsFrom items heard (Refuse refusal) now calls reply = (calls ≡ []) × (reply ≡ Refused refusal)
FollowsFrom items heard SayBye now calls reply = (calls ≡ []) × (reply ≡ Bye)
FollowsFrom items heard (Look d) now calls reply = (answer : Result (Seen Contents) EnterFault)
    × (calls ≡ Entered d answer ∷ []) × LooksUp (asked_in heard) answer reply
FollowsFrom items heard (Reach d number) now calls reply = (answer : Result (Seen Contents) EnterFault)
    × (calls ≡ Entered d answer ∷ []) × (reply ≡ reach_reply number answer)
FollowsFrom items heard (ShowEntered d) now calls reply = (answer : Result (Seen Contents) EnterFault)
    × (calls ≡ Entered d answer ∷ []) × (reply ≡ shown_reply (slice_get items d) answer)
FollowsFrom items heard (Show place) now calls reply = (calls ≡ []) × (reply ≡ shown_item (slice_get items place))
FollowsFrom items heard (Load d) now calls reply =
    (end : LoadEnd) × (calls ≡ Reloaded d now end ∷ []) × (reply ≡ load_reply end)
FollowsFrom items heard (Teach d) now calls reply =
    (row : StatusRow) × (calls ≡ Taught d row ∷ []) × (reply ≡ status_reply row)
FollowsFrom items heard Configure now calls reply =
    (end : ConfigEnd) × (calls ≡ Configured now end ∷ []) × (reply ≡ config_reply end)
FollowsFrom items heard (Fetch d) now calls reply = (definition : Definition) × (q : Asked)
    × IsKeyedItem items d definition × (asked_in heard ≡ Some q) × FetchAnswers d definition q now calls reply
FollowsFrom items heard (Apply f) now calls reply = (definition : FunctionDef) × (q : Asked)
    × IsFunctionItem items f definition × (asked_in heard ≡ Some q) × CallAnswers f definition q calls reply

-- a request was answered; or memory was refused: then this is the reply, and the calls may be cut short
abbrev pub IsServed : List Item → Option Heard → ℕ → List DeskCall → Reply → Type 0
IsServed items (Some heard) now calls reply = (ask : Ask) × IsAskOf items heard ask
    × (FollowsFrom items heard ask now calls reply ⊎ (reply ≡ no_memory) × ((calls ≡ []) ⊎ CallsOf ask now calls))
IsServed items None now calls reply = (reply ≡ no_memory) × (calls ≡ [])
