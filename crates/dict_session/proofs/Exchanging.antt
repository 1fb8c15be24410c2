-- One request: the moment, what is due, and the calls that it asks for.
use Rattle.std.proofs.Common.{◌≡◌, ◌≤◌, ◌<◌, ◌==◌, ◌++◌, ◌∙◌, ℕ, zero, suc, List, [], ◌∷◌, Bool, true, false, Option, Some, None, Ok, Err}
use Rattle.std.proofs.Common.{slice_index_or, length, max, arith, refl, sym, ap, subst, inl, inr, if◌then◌else◌}
use Rattle.std.proofs.lemmas.Bool.{eq-eqb, eqb-true, true≢false}
use Rattle.std.proofs.lemmas.List.{length-set}
use Rattle.std.specs.Prelude.{replicate, slice_set}
use Rattle.dict_schema.specs.declared.definition.Item.{Item}
use Rattle.dict_session.proofs.Acting.{floor_append, moved_append, moved_before, moved_moment, moved_none}
use Rattle.dict_session.proofs.Telling.{tells_none}
use Rattle.dict_session.specs.Acts.{DeskCall, Before, Moment}
use Rattle.dict_schema.specs.declared.definition.Definition.{Definition}
use Rattle.dict_schema.specs.declared.definition.FunctionDef.{FunctionDef}
use Rattle.dict_session.specs.Answers.{FollowsFrom, CallAnswers, CallsOf, FetchAnswers, IsServed, no_memory}
use Rattle.wire_text.specs.declared.request.Asked.{Asked}
use Rattle.dict_session.specs.Asks.{IsRequestAsk}
use Rattle.dict_session.specs.Facts.{Facts, Grows}
use Rattle.dict_session.specs.Floors.{floor_after}
use Rattle.dict_session.specs.Serving.{Answered, OrNoMemory, Tells}
use Rattle.dict_session.specs.Session.{KeepsUp, acts_for, floor_of}
use Rattle.dict_session.specs.Turns.{AnsweredAt, Exchanged, RaisedAt, unknown_floor}
use Rattle.dict_session.specs.declared.answer.Answer.{Answer}
use Rattle.dict_session.specs.declared.ask.Ask.{Ask}
use Rattle.dict_session.specs.declared.ask.Ask.TheVariants as ask
use Rattle.load_core.specs.CallerSteps.{raised, told_number}
use Rattle.load_core.specs.declared.caller.CallerCore.{CallerCore}
use Rattle.load_core.specs.declared.caller.CallerEvent.{CallerEvent}
use Rattle.load_core.specs.declared.caller.CallerEvent.TheVariants as event
use Rattle.wire_text.specs.RequestTexts.{Heard}
use Rattle.wire_text.specs.declared.reply.Reply.{Reply}
use Rattle.wire_text.specs.declared.reply.Reply.TheVariants.{Refused}
use Rattle.wire_text.specs.declared.reply.ReplyFault.TheVariants as fault
use Rattle.wire_text.specs.declared.request.Request.{Request}

-- ---- memory that lacks for the text of a reply

fetch_calls : (d : ℕ) (definition : Definition) (q : Asked) (now : ℕ) (calls : List DeskCall) (reply : Reply)
    → FetchAnswers d definition q now calls reply → CallsOf (ask.Fetch d) now calls
fetch_calls d definition q now calls reply (FetchAnswers.refused refusal keys none is) = inl none
fetch_calls d definition q now calls reply (FetchAnswers.fetched keys rows are one is) = inr (keys, Ok rows, one)
fetch_calls d definition q now calls reply (FetchAnswers.failed keys why are one is) = inr (keys, Err why, one)

call_calls : (f : ℕ) (definition : FunctionDef) (q : Asked) (now : ℕ) (calls : List DeskCall) (reply : Reply)
    → CallAnswers f definition q calls reply → CallsOf (ask.Apply f) now calls
call_calls f definition q now calls reply (CallAnswers.refused refusal rows none is) = inl none
call_calls f definition q now calls reply (CallAnswers.given rows values are one is) = inr (rows, Ok values, one)
call_calls f definition q now calls reply (CallAnswers.failed rows why are one is) = inr (rows, Err why, one)

calls_of : (items : List Item) (heard : Heard) (a : Ask) (now : ℕ) (calls : List DeskCall) (reply : Reply)
    → FollowsFrom items heard a now calls reply → CallsOf a now calls
calls_of items heard (ask.Refuse refusal) now calls reply is = is.0
calls_of items heard ask.SayBye now calls reply is = is.0
calls_of items heard (ask.Look d) now calls reply is = (is.0, is.1)
calls_of items heard (ask.Fetch d) now calls reply is = fetch_calls d is.0 is.1 now calls reply is.4
calls_of items heard (ask.Apply f) now calls reply is = call_calls f is.0 is.1 now calls reply is.4
calls_of items heard (ask.Load d) now calls reply is = (is.0, is.1)
calls_of items heard (ask.Teach d) now calls reply is = (is.0, is.1)
calls_of items heard (ask.Reach d number) now calls reply is = (is.0, is.1)
calls_of items heard (ask.Show place) now calls reply is = is.0
calls_of items heard (ask.ShowEntered d) now calls reply is = (is.0, is.1)
calls_of items heard ask.Configure now calls reply is = (is.0, is.1)

served_none : (items : List Item) (heard : Option Heard) (now : ℕ) (calls : List DeskCall) (reply : Reply)
    → IsServed items heard now calls reply → IsServed items heard now calls no_memory
served_none items None now calls reply is = (refl, is.1)
served_none items (Some h) now calls reply is = (
  is.0,
  is.1,
  elim is.2 [ inl made ↦ inr (refl, inr (calls_of items h is.0 now calls reply made)) | inr none ↦ inr (refl, none.1) ],
)

pub served_said : (items : List Item) (heard : Option Heard) (now : ℕ) (calls : List DeskCall) (reply said : Reply)
    → OrNoMemory reply said → IsServed items heard now calls reply → IsServed items heard now calls said
served_said items heard now calls reply said or is = elim or [
  | inl same ↦ subst (λ z. IsServed items heard now calls z) (sym same) is
  | inr none ↦ subst (λ z. IsServed items heard now calls z) (sym none) (served_none items heard now calls reply is)
]

-- ---- one request

module _ {S : Type 0} (facts : Facts S) where
  pub asked_at : (s t : S) (r : Request) (now : ℕ) (answer : Answer)
      → (a : Ask) × IsRequestAsk (facts.items s) r a × Answered facts s (Heard.asks r) a now answer t
      → AnsweredAt facts s (Some (Heard.asks r)) now answer t
  asked_at s t r now answer is = record {
    calls = is.2.calls;
    moved = is.2.moved;
    served = (is.0, is.1, is.2.answers);
    tells = is.2.tells;
  }

  still_at : (s : S) (heard : Option Heard) (now : ℕ) (answer : Answer) → answer.event ≡ event.Told 0
      → IsServed (facts.items s) heard now [] answer.reply → AnsweredAt facts s heard now answer s
  still_at s heard now answer e is = record {
    calls = [];
    moved = moved_none facts s;
    served = is;
    tells = subst (Tells [] answer.place) (sym e) (tells_none answer.place);
  }

  pub bad_at : (s : S) (now : ℕ) (answer : Answer) → answer.event ≡ event.Told 0 → answer.reply ≡ Refused fault.BadRequest
      → AnsweredAt facts s (Some Heard.bad) now answer s
  bad_at s now answer e is = still_at s (Some Heard.bad) now answer e (ask.Refuse fault.BadRequest, refl, inl (refl, is))

  pub large_at : (s : S) (now : ℕ) (answer : Answer) → answer.event ≡ event.Told 0 → answer.reply ≡ Refused fault.TooLarge
      → AnsweredAt facts s (Some Heard.too_large) now answer s
  large_at s now answer e is = still_at s (Some Heard.too_large) now answer e (ask.Refuse fault.TooLarge, refl, inl (refl, is))

  pub none_at : (s : S) (now : ℕ) (answer : Answer) → answer.event ≡ event.Told 0 → answer.reply ≡ no_memory
      → AnsweredAt facts s None now answer s
  none_at s now answer e is = still_at s None now answer e (is, refl)

  pub exchanged : (s a b t : S) (heard : Option Heard) (now : ℕ) (answer : Answer) → facts.did s (Moment now) a → Grows facts s a
      → facts.did a (Before now) b → Grows facts a b → AnsweredAt facts b heard now answer t
      → Exchanged facts s heard answer t
  exchanged s a b t heard now answer did g made up at = record {
    now = now;
    calls = at.calls;
    moved = moved_append facts s a t (Moment now ∷ []) (Before now ∷ at.calls) (moved_moment facts s a now did g)
        (moved_append facts a b t (Before now ∷ []) at.calls (moved_before facts a b now made up) at.moved);
    served = subst (λ items. IsServed items heard now at.calls answer.reply) (up.items ∙ g.items) at.served;
    tells = at.tells;
  }

-- ---- the kept floors

pub keeps_none : (cores : List CallerCore) → KeepsUp cores [] cores
keeps_none cores = record { many = refl; risen = λ e h. omega arith; told = λ e floor h. omega arith }

pub keeps_append : (a b c : List CallerCore) (xs ys : List DeskCall) → KeepsUp a xs b → KeepsUp b ys c → KeepsUp a (xs ++ ys) c
keeps_append a b c xs ys one two = record {
  many = two.many ∙ one.many;
  risen = λ e h. let low = one.risen e h in let high = two.risen e (omega (arith, one.many)) in omega arith;
  told = λ e floor h. rw (floor_append e floor xs ys)
      (let low = one.told e floor h in let up = two.risen e (omega (arith, one.many)) in
      let high = two.told e (floor_after e floor xs) (omega (arith, one.many)) in omega arith);
}

raised_above : (b : Bool) (floor core number after later : ℕ) → after ≤ (if b then max floor number else floor)
    → later ≡ (if b then max core number else core) → (core ≤ later) × (after ≤ max floor later)
raised_above true floor core number after later h e = (omega arith, omega arith)
raised_above false floor core number after later h e = (omega arith, omega arith)

pub keeps_raised : (cores later : List CallerCore) (now place : ℕ) (event : CallerEvent) (calls : List DeskCall)
    → RaisedAt cores place event later → Tells calls place event → KeepsUp cores (acts_for now calls) later
keeps_raised cores later now place event calls raised tells = record {
  many = raised.many;
  risen = λ e h. (raised_above (place == e) 0 (floor_of cores e) (told_number event) (floor_after e 0 calls) (floor_of later e)
      (tells e 0) (raised.floors e h)).0;
  told = λ e floor h. (raised_above (place == e) floor (floor_of cores e) (told_number event) (floor_after e floor calls)
      (floor_of later e) (tells e floor) (raised.floors e h)).1;
}

floor_here : (cores : List CallerCore) (place : ℕ) (core : CallerCore) → place < length cores → floor_of (slice_set cores place core) place ≡ core.floor
floor_here [] place core h = absurd (omega arith)
floor_here (c ∷ cores) zero core h = refl
floor_here (c ∷ cores) (suc place) core h = floor_here cores place core (omega arith)

floor_other : (cores : List CallerCore) (place e : ℕ) (core : CallerCore) → (place ≡ e → ⊥) → floor_of (slice_set cores place core) e ≡ floor_of cores e
floor_other [] place e core other = refl
floor_other (c ∷ cores) zero zero core other = absurd (other refl)
floor_other (c ∷ cores) zero (suc e) core other = refl
floor_other (c ∷ cores) (suc place) zero core other = refl
floor_other (c ∷ cores) (suc place) (suc e) core other = floor_other cores place e core (λ same. other (ap (λ z. suc z) same))

floor_by : (b : Bool) (cores : List CallerCore) (place e : ℕ) (core : CallerCore) → place < length cores → (place == e) ≡ b
    → floor_of (slice_set cores place core) e ≡ (if b then core.floor else floor_of cores e)
floor_by true cores place e core h same =
    ap (floor_of (slice_set cores place core)) (sym (eqb-true place e same)) ∙ floor_here cores place core h
floor_by false cores place e core h same =
    floor_other cores place e core (λ equal. let here : (place == e) ≡ true = eq-eqb place e equal in true≢false (sym here ∙ same))

core_at : (cores : List CallerCore) (place : ℕ) (d : CallerCore) → place < length cores → (slice_index_or cores place d).floor ≡ floor_of cores place
core_at [] place d h = absurd (omega arith)
core_at (c ∷ cores) zero d h = refl
core_at (c ∷ cores) (suc place) d h = core_at cores place d (omega arith)

raised_one : (b : Bool) (place e : ℕ) (cores : List CallerCore) (number : ℕ) → (place == e) ≡ b
    → (if b then max (floor_of cores place) number else floor_of cores e) ≡ (if b then max (floor_of cores e) number else floor_of cores e)
raised_one true place e cores number same = ap (λ z. max (floor_of cores z) number) (eqb-true place e same)
raised_one false place e cores number same = refl

pub raised_at : (cores : List CallerCore) (place : ℕ) (event : CallerEvent) (d core : CallerCore) → place < length cores
    → core ≡ raised (slice_index_or cores place d) event → RaisedAt cores place event (slice_set cores place core)
raised_at cores place event d core h is = record {
  many = length-set cores place core;
  floors = λ e k. floor_by (place == e) cores place e core h refl
      ∙ ap (λ (c : CallerCore). if place == e then c.floor else floor_of cores e) is
      ∙ ap (λ z. if place == e then max z (told_number event) else floor_of cores e) (core_at cores place d h)
      ∙ raised_one (place == e) place e cores (told_number event) refl;
}

beyond : (b : Bool) (place e : ℕ) (cores : List CallerCore) (number : ℕ) → length cores ≤ place → e < length cores → (place == e) ≡ b
    → floor_of cores e ≡ (if b then max (floor_of cores e) number else floor_of cores e)
beyond true place e cores number h k same = let here = eqb-true place e same in absurd (omega (arith, here))
beyond false place e cores number h k same = refl

-- there is no item at the place
pub raised_none : (cores : List CallerCore) (place : ℕ) (event : CallerEvent) → length cores ≤ place → RaisedAt cores place event cores
raised_none cores place event h = record {
  many = refl;
  floors = λ e k. beyond (place == e) place e cores (told_number event) h k refl;
}

-- no number is known at first
pub zero_floors : (count e : ℕ) → floor_of (replicate count unknown_floor) e ≡ 0
zero_floors zero e = refl
zero_floors (suc count) zero = refl
zero_floors (suc count) (suc e) = zero_floors count e
