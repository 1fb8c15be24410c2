-- What a request asks of a desk, and the refusals that need no call: the order of refusals before the call.
use Rattle.std.specs.Prelude.{◌≡◌, ℕ, List, Option, Some, if◌then◌else◌, slice_get}
use Rattle.std.specs.List.{IsFirstMatchOrLen}
use Rattle.dict_schema.specs.Parts.{is_keyed_layout}
use Rattle.dict_schema.specs.declared.definition.Item.{Item}
use Rattle.dict_schema.specs.declared.definition.Item.TheVariants.{Dictionary, Function}
use Rattle.dict_session.specs.Items.{is_dictionary_named, is_function_named}
use Rattle.dict_session.specs.declared.ask.Ask.{Ask}
use Rattle.dict_session.specs.declared.ask.Ask.TheVariants.{Refuse, SayBye, Look, Fetch, Apply, Load, Teach, Reach}
use Rattle.dict_session.specs.declared.ask.Ask.TheVariants.{Show, ShowEntered, Configure}
use Rattle.wire_text.specs.RequestTexts.{Heard}
use Rattle.wire_text.specs.declared.reply.ReplyFault.TheVariants as fault
use Rattle.wire_text.specs.declared.request.Request.{Request}
use Rattle.wire_text.specs.declared.request.Request.TheVariants as request
use Rattle.wire_text.specs.declared.request.Verb.{Verb}
use Rattle.wire_text.specs.declared.request.Verb.TheVariants as verb

-- what is asked of a dictionary, by whether its rows are fetched by key
abbrev pub by_dictionary : (keyed loaded : Ask) → Option Item → Ask
by_dictionary keyed loaded (Some (Dictionary d)) = if is_keyed_layout d.layout then keyed else loaded
by_dictionary keyed loaded _ = Refuse fault.UnknownDictionary

-- what is asked of the dictionary at a place
abbrev pub look_ask : ℕ → Option Item → Ask
look_ask place item = by_dictionary (Fetch place) (Look place) item

abbrev pub load_ask : ℕ → Option Item → Ask
load_ask place item = by_dictionary (Refuse fault.WrongLayout) (Load place) item

abbrev pub teach_ask : ℕ → Option Item → Ask
teach_ask place item = by_dictionary (Refuse fault.WrongLayout) (Teach place) item

abbrev pub reach_ask : ℕ → ℕ → Option Item → Ask
reach_ask number place item = by_dictionary (Refuse fault.WrongLayout) (Reach place number) item

-- what is asked of the function at a place
abbrev pub apply_ask : ℕ → Option Item → Ask
apply_ask place (Some (Function f)) = Apply place
apply_ask place _ = Refuse fault.UnknownFunction

-- a definition is shown: the dictionary's, else the function's; of one that is fully loaded the current one
abbrev pub show_function : ℕ → Option Item → Ask
show_function place (Some (Function f)) = Show place
show_function place _ = Refuse fault.UnknownDictionary

abbrev pub show_ask : ℕ → Option Item → ℕ → Option Item → Ask
show_ask place (Some (Dictionary d)) other function = if is_keyed_layout d.layout then Show place else ShowEntered place
show_ask place _ other function = show_function other function

-- the first dictionary, or the first function, of a name; behind the last item where there is none
abbrev pub OfDictionary : List Item → List ℕ → (ℕ → Option Item → Ask) → Ask → Type 0
OfDictionary items name asks ask = (place : ℕ) × IsFirstMatchOrLen (is_dictionary_named name) items place
    × (ask ≡ asks place (slice_get items place))

abbrev pub OfFunction : List Item → List ℕ → (ℕ → Option Item → Ask) → Ask → Type 0
OfFunction items name asks ask = (place : ℕ) × IsFirstMatchOrLen (is_function_named name) items place
    × (ask ≡ asks place (slice_get items place))

-- a call asks a function, any other lookup a dictionary
abbrev pub IsLookupAsk : List Item → Verb → List ℕ → Ask → Type 0
IsLookupAsk items verb.Call name ask = OfFunction items name apply_ask ask
IsLookupAsk items _ name ask = OfDictionary items name look_ask ask

abbrev pub IsRequestAsk : List Item → Request → Ask → Type 0
IsRequestAsk items (request.Asked q) ask = IsLookupAsk items q.verb q.name ask
IsRequestAsk items (request.Reload name) ask = OfDictionary items name load_ask ask
IsRequestAsk items (request.Status name) ask = OfDictionary items name teach_ask ask
IsRequestAsk items (request.After name number) ask = OfDictionary items name (reach_ask number) ask
IsRequestAsk items (request.Show name) ask =
    (place other : ℕ) × IsFirstMatchOrLen (is_dictionary_named name) items place
    × IsFirstMatchOrLen (is_function_named name) items other
    × (ask ≡ show_ask place (slice_get items place) other (slice_get items other))
IsRequestAsk items request.Config ask = ask ≡ Configure
IsRequestAsk items request.Quit ask = ask ≡ SayBye

-- what a request asks for
abbrev pub IsAskOf : List Item → Heard → Ask → Type 0
IsAskOf items (Heard.asks asked) ask = IsRequestAsk items asked ask
IsAskOf items Heard.bad ask = ask ≡ Refuse fault.BadRequest
IsAskOf items Heard.too_large ask = ask ≡ Refuse fault.TooLarge
