-- One request and the reply that follows from its call.
use Rattle.std.proofs.Common.{◌≡◌, ◌≢◌, ◌≤◌, ◌<◌, ◌∙◌, ◌⊎◌, ℕ, List, [], ◌∷◌, Bool, true, false, Option, Some, None, Ok, Err}
use Rattle.std.proofs.Common.{length, arith, refl, sym, ap, subst, inl, inr, if◌then◌else◌}
use Rattle.std.proofs.lemmas.Bool.{le-ltb, lt-ltb, true≢false}
use Rattle.std.specs.Prelude.{slice_get}
use Rattle.dict_schema.specs.Parts.{is_keyed_layout}
use Rattle.dict_schema.specs.declared.definition.Item.{Item}
use Rattle.dict_schema.specs.declared.definition.Item.TheVariants.{Dictionary, Function}
use Rattle.dict_session.proofs.Acting.{moved_config, moved_entered, moved_none, moved_reloaded, moved_taught}
use Rattle.dict_session.proofs.Telling.{tells_config, tells_entered, tells_none, tells_published, tells_refused, tells_taught}
use Rattle.dict_session.specs.Acts.{Configured, Entered, Reloaded, Taught}
use Rattle.ddl_writing.specs.Canonical.{definition_text}
use Rattle.dict_session.specs.Answers.{current_item, shown_item}
use Rattle.dict_session.specs.Answers.{FollowsFrom, CallsOf, config_reply, no_memory, reach_reply, shown_reply}
use Rattle.dict_session.specs.Asks.{IsLookupAsk, IsRequestAsk, apply_ask, by_dictionary, look_ask, show_ask, show_function}
use Rattle.dict_session.specs.Facts.{Facts, Grows}
use Rattle.dict_schema.specs.declared.definition.Definition.{Definition}
use Rattle.dict_session.specs.Items.{IsKeyedItem, IsLoadedItem}
use Rattle.dict_session.specs.Serving.{Answered, AskFits, OrNoMemory, Tells}
use Rattle.dict_session.specs.declared.answer.Answer.{Answer}
use Rattle.dict_session.specs.declared.ask.Ask.{Ask}
use Rattle.dict_session.specs.declared.ask.Ask.TheVariants as ask
use Rattle.dict_session.specs.declared.desk.ConfigEnd.{ConfigEnd}
use Rattle.dict_version.specs.Contents.{Contents}
use Rattle.load_core.specs.declared.caller.CallerEvent.TheVariants as event
use Rattle.loader.specs.declared.answers.LoadEnd.{LoadEnd}
use Rattle.loader.specs.declared.answers.LoadEnd.TheVariants as end
use Rattle.loader.specs.declared.answers.StatusRow.{StatusRow}
use Rattle.version_slot.specs.Views.{Entered as Seen, IsNewestOf}
use Rattle.version_slot.specs.declared.seen.EnterFault.{EnterFault}
use Rattle.wire_text.specs.RequestTexts.{Heard}
use Rattle.wire_text.specs.declared.reply.Reply.{Reply}
use Rattle.wire_text.specs.declared.reply.Reply.TheVariants.{Number, Refused, Shown}
use Rattle.wire_text.specs.declared.reply.ReplyFault.{ReplyFault}
use Rattle.wire_text.specs.declared.reply.ReplyFault.TheVariants as fault
use Rattle.wire_text.specs.declared.request.Request.{Request}
use Rattle.wire_text.specs.declared.request.Request.TheVariants as request
use Rattle.wire_text.specs.declared.request.Verb.{Verb}
use Rattle.wire_text.specs.declared.request.Verb.TheVariants as verb

-- ---- whether memory was refused

abbrev is_memory_fault : ReplyFault → Bool
is_memory_fault fault.NoMemory = true
is_memory_fault _ = false

abbrev is_no_memory : Reply → Bool
is_no_memory (Refused f) = is_memory_fault f
is_no_memory _ = false

fault_is : (f : ReplyFault) → is_memory_fault f ≡ true → f ≡ fault.NoMemory
fault_is fault.NoMemory e = refl
fault_is _ e = absurd (true≢false (sym e))

reply_is : (r : Reply) → is_no_memory r ≡ true → r ≡ no_memory
reply_is (Refused f) e = ap (λ (z : ReplyFault). Refused z) (fault_is f e)
reply_is _ e = absurd (true≢false (sym e))

which : (r : Reply) (b : Bool) → is_no_memory r ≡ b → (r ≡ no_memory) ⊎ (r ≢ no_memory)
which r true e = inl (reply_is r e)
which r false e = inr (λ f. true≢false (sym (ap is_no_memory f) ∙ e))

pub which_reply : (r : Reply) → (r ≡ no_memory) ⊎ (r ≢ no_memory)
which_reply r = which r (is_no_memory r) refl

module _ {S : Type 0} (facts : Facts S) where
  -- no call was made
  pub plain_answered : (s : S) (heard : Heard) (asks : Ask) (now : ℕ) (answer : Answer) → answer.event ≡ event.Told 0
      → FollowsFrom (facts.items s) heard asks now [] answer.reply ⊎ (answer.reply ≡ no_memory) → Answered facts s heard asks now answer s
  plain_answered s heard asks now answer e is = record {
    calls = [];
    moved = moved_none facts s;
    answers = elim is [ inl a ↦ inl a | inr n ↦ inr (n, inl refl) ];
    tells = subst (Tells [] answer.place) (sym e) (tells_none answer.place);
  }

  -- an entering was refused
  pub refused_answered : (s t : S) (d : ℕ) (refusal : EnterFault) (heard : Heard) (asks : Ask) (now : ℕ) (answer : Answer)
      → facts.did s (Entered d (Err refusal)) t → Grows facts s t → answer.event ≡ event.Told 0
      → FollowsFrom (facts.items s) heard asks now (Entered d (Err refusal) ∷ []) answer.reply → Answered facts s heard asks now answer t
  refused_answered s t d refusal heard asks now answer did g e is = record {
    calls = Entered d (Err refusal) ∷ [];
    moved = moved_entered facts s t d (Err refusal) did g tt;
    answers = inl is;
    tells = subst (Tells (Entered d (Err refusal) ∷ []) answer.place) (sym e) (tells_refused d answer.place refusal);
  }

  -- something was seen
  pub entered_answered : (s t : S) (d : ℕ) (seen : Seen Contents) (heard : Heard) (asks : Ask) (now : ℕ) (reply : Reply)
      → facts.did s (Entered d (Ok seen)) t → Grows facts s t → IsNewestOf (facts.view t d) seen
      → CallsOf asks now (Entered d (Ok seen) ∷ [])
      → (reply ≢ no_memory → FollowsFrom (facts.items s) heard asks now (Entered d (Ok seen) ∷ []) reply)
      → (number : ℕ) → number ≡ seen.number
      → Answered facts s heard asks now record { reply = reply; place = d; event = event.Entered number } t
  entered_answered s t d seen heard asks now reply did g newest calls is number e = record {
    calls = Entered d (Ok seen) ∷ [];
    moved = moved_entered facts s t d (Ok seen) did g newest;
    answers = elim (which_reply reply) [ inl n ↦ inr (n, inr calls) | inr other ↦ inl (is other) ];
    tells = subst (λ n. Tells (Entered d (Ok seen) ∷ []) d (event.Entered n)) (sym e) (tells_entered d seen);
  }

  pub taught_answered : (s t : S) (d : ℕ) (row : StatusRow) (heard : Heard) (now : ℕ) (reply : Reply)
      → facts.did s (Taught d row) t → Grows facts s t → row.number ≤ length (facts.view t d)
      → FollowsFrom (facts.items s) heard (ask.Teach d) now (Taught d row ∷ []) reply
      → Answered facts s heard (ask.Teach d) now record { reply = reply; place = d; event = event.Told row.number } t
  taught_answered s t d row heard now reply did g learnt is = record {
    calls = Taught d row ∷ [];
    moved = moved_taught facts s t d row did g learnt;
    answers = inl is;
    tells = tells_taught d row;
  }

  pub published_answered : (s t : S) (d now n : ℕ) (heard : Heard) (reply : Reply) → facts.did s (Reloaded d now (end.Published n)) t
      → Grows facts s t → ((k : ℕ) → end.Published n ≡ end.Published k → k ≤ length (facts.view t d))
      → FollowsFrom (facts.items s) heard (ask.Load d) now (Reloaded d now (end.Published n) ∷ []) reply
      → Answered facts s heard (ask.Load d) now record { reply = reply; place = d; event = event.Told n } t
  published_answered s t d now n heard reply did g learnt is = record {
    calls = Reloaded d now (end.Published n) ∷ [];
    moved = moved_reloaded facts s t d now (end.Published n) did g learnt;
    answers = inl is;
    tells = tells_published d now n;
  }

  pub failed_answered : (s t : S) (d now : ℕ) (answer : LoadEnd) (heard : Heard) (made : Answer) → facts.did s (Reloaded d now answer) t
      → Grows facts s t → ((k : ℕ) → answer ≡ end.Published k → k ≤ length (facts.view t d)) → made.event ≡ event.Told 0
      → Tells (Reloaded d now answer ∷ []) made.place (event.Told 0)
      → FollowsFrom (facts.items s) heard (ask.Load d) now (Reloaded d now answer ∷ []) made.reply
      → Answered facts s heard (ask.Load d) now made t
  failed_answered s t d now answer heard made did g learnt e told is = record {
    calls = Reloaded d now answer ∷ [];
    moved = moved_reloaded facts s t d now answer did g learnt;
    answers = inl is;
    tells = subst (Tells (Reloaded d now answer ∷ []) made.place) (sym e) told;
  }

  pub configured_answered : (s t : S) (now : ℕ) (answer : ConfigEnd) (heard : Heard) (made : Answer) → facts.did s (Configured now answer) t
      → Grows facts s t → made.event ≡ event.Told 0 → made.reply ≡ config_reply answer
      → Answered facts s heard ask.Configure now made t
  configured_answered s t now answer heard made did g e is = record {
    calls = Configured now answer ∷ [];
    moved = moved_config facts s t now answer did g;
    answers = inl (answer, refl, is);
    tells = subst (Tells (Configured now answer ∷ []) made.place) (sym e) (tells_config now made.place answer);
  }

-- ---- replies to an entering

pub reach_below : (number n : ℕ) (seen : Seen Contents) (reply : Reply) → n ≡ seen.number → n < number → reply ≡ Refused (fault.Behind n)
    → reply ≡ reach_reply number (Ok seen)
reach_below number n seen reply e k is = is ∙ (let below : seen.number < number = omega (arith, e, k) in rw (lt-ltb seen.number number below) (ap (λ z. Refused (fault.Behind z)) e))

pub reach_above : (number n : ℕ) (seen : Seen Contents) (reply : Reply) → n ≡ seen.number → number ≤ n → reply ≡ Number n
    → reply ≡ reach_reply number (Ok seen)
reach_above number n seen reply e k is =
    is ∙ (let above : number ≤ seen.number = omega (arith, e, k) in rw (le-ltb seen.number number above) (ap (λ z. Number z) e))

-- the text of the current definition
pub shown_current : (items : List Item) (d : ℕ) (seen : Seen Contents) (c : Contents) (reply : Reply) → Some c ≡ seen.version
    → OrNoMemory (Shown (definition_text c.definition)) reply → reply ≢ no_memory → reply ≡ shown_reply (slice_get items d) (Ok seen)
shown_current items d seen c reply e is other = elim is [
  | inl same ↦ same ∙ ap (λ v. shown_item (current_item (slice_get items d) v)) e
  | inr none ↦ absurd (other none)
]

pub shown_first : (items : List Item) (d : ℕ) (seen : Seen Contents) (reply : Reply) → None ≡ seen.version
    → OrNoMemory (shown_item (slice_get items d)) reply → reply ≢ no_memory → reply ≡ shown_reply (slice_get items d) (Ok seen)
shown_first items d seen reply e is other = elim is [
  | inl same ↦ same ∙ ap (λ v. shown_item (current_item (slice_get items d) v)) e
  | inr none ↦ absurd (other none)
]

-- ---- what is asked fits the items

apply_other : (items : List Item) (place d : ℕ) (item : Option Item) → ask.Look d ≡ apply_ask place item → ⊥
apply_other items place d (Some (Function f)) e = let other : ask.Look d ≡ ask.Apply place = e in cc
apply_other items place d (Some (Dictionary def)) e = let other : ask.Look d ≡ ask.Refuse fault.UnknownFunction = e in cc
apply_other items place d None e = let other : ask.Look d ≡ ask.Refuse fault.UnknownFunction = e in cc

by_if : (items : List Item) (loaded : Ask) (b : Bool) → (b ≡ false → AskFits items loaded)
    → AskFits items (if b then ask.Refuse fault.WrongLayout else loaded)
by_if items loaded true fits = tt
by_if items loaded false fits = fits refl

by_fits : (items : List Item) (place : ℕ) (loaded : Ask) (item : Option Item) → slice_get items place ≡ item
    → (IsLoadedItem items place → AskFits items loaded) → AskFits items (by_dictionary (ask.Refuse fault.WrongLayout) loaded item)
by_fits items place loaded None e fits = tt
by_fits items place loaded (Some (Function f)) e fits = tt
by_fits items place loaded (Some (Dictionary def)) e fits = by_if items loaded (is_keyed_layout def.layout) (λ none. fits (def, e, none))

show_if : (items : List Item) (place : ℕ) (b : Bool) → (b ≡ false → IsLoadedItem items place)
    → AskFits items (if b then ask.Show place else ask.ShowEntered place)
show_if items place true fits = tt
show_if items place false fits = fits refl

show_other : (items : List Item) (other : ℕ) (item : Option Item) → AskFits items (show_function other item)
show_other items other None = tt
show_other items other (Some (Function f)) = tt
show_other items other (Some (Dictionary def)) = tt

show_fits : (items : List Item) (place other : ℕ) (item function : Option Item) → slice_get items place ≡ item
    → AskFits items (show_ask place item other function)
show_fits items place other None function e = show_other items other function
show_fits items place other (Some (Function f)) function e = show_other items other function
show_fits items place other (Some (Dictionary def)) function e = show_if items place (is_keyed_layout def.layout) (λ none. (def, e, none))

look_if : (items : List Item) (place : ℕ) (b : Bool) → (b ≡ true → (definition : Definition) × IsKeyedItem items place definition)
    → (b ≡ false → IsLoadedItem items place) → AskFits items (if b then ask.Fetch place else ask.Look place)
look_if items place true keyed fits = keyed refl
look_if items place false keyed fits = fits refl

look_fits : (items : List Item) (place : ℕ) (item : Option Item) → slice_get items place ≡ item → AskFits items (look_ask place item)
look_fits items place None e = tt
look_fits items place (Some (Function f)) e = tt
look_fits items place (Some (Dictionary def)) e =
    look_if items place (is_keyed_layout def.layout) (λ keyed. (def, (e, keyed))) (λ none. (def, e, none))

apply_fits : (items : List Item) (place : ℕ) (item : Option Item) → slice_get items place ≡ item → AskFits items (apply_ask place item)
apply_fits items place None e = tt
apply_fits items place (Some (Function f)) e = (f, e)
apply_fits items place (Some (Dictionary def)) e = tt

pub lookup_fits : (items : List Item) (v : Verb) (name : List ℕ) (made : Ask) → IsLookupAsk items v name made → AskFits items made
lookup_fits items verb.Call name made is = subst (AskFits items) (sym is.2) (apply_fits items is.0 (slice_get items is.0) refl)
lookup_fits items verb.Get name made is = subst (AskFits items) (sym is.2) (look_fits items is.0 (slice_get items is.0) refl)
lookup_fits items verb.GetOrDefault name made is = subst (AskFits items) (sym is.2) (look_fits items is.0 (slice_get items is.0) refl)
lookup_fits items verb.GetOrNull name made is = subst (AskFits items) (sym is.2) (look_fits items is.0 (slice_get items is.0) refl)
lookup_fits items verb.Has name made is = subst (AskFits items) (sym is.2) (look_fits items is.0 (slice_get items is.0) refl)
lookup_fits items verb.Hierarchy name made is = subst (AskFits items) (sym is.2) (look_fits items is.0 (slice_get items is.0) refl)
lookup_fits items verb.IsIn name made is = subst (AskFits items) (sym is.2) (look_fits items is.0 (slice_get items is.0) refl)
lookup_fits items verb.Children name made is = subst (AskFits items) (sym is.2) (look_fits items is.0 (slice_get items is.0) refl)
lookup_fits items verb.Descendants name made is = subst (AskFits items) (sym is.2) (look_fits items is.0 (slice_get items is.0) refl)

-- no call is asked for by a lookup that enters
pub lookup_no_call : (items : List Item) (v : Verb) (name : List ℕ) (d : ℕ) → IsLookupAsk items v name (ask.Look d) → v ≢ verb.Call
lookup_no_call items verb.Call name d is = absurd (apply_other items is.0 d (slice_get items is.0) is.2)
lookup_no_call items verb.Get name d is = λ e. let other : verb.Get ≡ verb.Call = e in absurd (cc)
lookup_no_call items verb.GetOrDefault name d is = λ e. let other : verb.GetOrDefault ≡ verb.Call = e in absurd (cc)
lookup_no_call items verb.GetOrNull name d is = λ e. let other : verb.GetOrNull ≡ verb.Call = e in absurd (cc)
lookup_no_call items verb.Has name d is = λ e. let other : verb.Has ≡ verb.Call = e in absurd (cc)
lookup_no_call items verb.Hierarchy name d is = λ e. let other : verb.Hierarchy ≡ verb.Call = e in absurd (cc)
lookup_no_call items verb.IsIn name d is = λ e. let other : verb.IsIn ≡ verb.Call = e in absurd (cc)
lookup_no_call items verb.Children name d is = λ e. let other : verb.Children ≡ verb.Call = e in absurd (cc)
lookup_no_call items verb.Descendants name d is = λ e. let other : verb.Descendants ≡ verb.Call = e in absurd (cc)

-- what is asked of a dictionary fits the items
dictionary_fits : (items : List Item) (place : ℕ) (loaded made : Ask) → (IsLoadedItem items place → AskFits items loaded)
    → made ≡ by_dictionary (ask.Refuse fault.WrongLayout) loaded (slice_get items place) → AskFits items made
dictionary_fits items place loaded made fits e = subst (AskFits items) (sym e) (by_fits items place loaded (slice_get items place) refl fits)

pub request_fits : (items : List Item) (r : Request) (made : Ask) → IsRequestAsk items r made → AskFits items made
request_fits items (request.Asked q) made is = lookup_fits items q.verb q.name made is
request_fits items (request.Reload name) made is = dictionary_fits items is.0 (ask.Load is.0) made (λ l. l) is.2
request_fits items (request.Status name) made is = dictionary_fits items is.0 (ask.Teach is.0) made (λ l. l) is.2
request_fits items (request.After name number) made is = dictionary_fits items is.0 (ask.Reach is.0 number) made (λ l. l) is.2
request_fits items (request.Show name) made is = subst (AskFits items) (sym is.4) (show_fits items is.0 is.1 (slice_get items is.0) (slice_get items is.1) refl)
request_fits items request.Config made is = subst (AskFits items) (sym is) tt
request_fits items request.Quit made is = subst (AskFits items) (sym is) tt
