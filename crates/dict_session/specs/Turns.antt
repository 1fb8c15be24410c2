-- One turn of a session: a request, or its end.
use Rattle.std.specs.Prelude.{◌≡◌, ◌<◌, ◌==◌, ℕ, List, [], Bool, true, false, Option, Result, Ok, Err, length, max, ⊤}
use Rattle.std.specs.Prelude.{if◌then◌else◌}
use Rattle.std.specs.List.{AllByRecursion}
use Rattle.dict_io.specs.Links.{Ends, Puts}
use Rattle.dict_io.specs.declared.outside.Failed.{Failed}
use Rattle.dict_session.specs.Acts.{DeskCall}
use Rattle.dict_session.specs.Answers.{IsServed}
use Rattle.dict_session.specs.Facts.{Facts}
use Rattle.dict_session.specs.Floors.{Moved}
use Rattle.dict_session.specs.Serving.{Tells}
use Rattle.dict_session.specs.Session.{SessionEnds, Exchange, FaultsFor, KeepsUp, NoneQuits, Place, SessionRun}
use Rattle.dict_session.specs.Session.{acts_for, all_acts}
use Rattle.dict_session.specs.Session.{asks_to_quit, floor_of, heard_in, place, texts}
use Rattle.dict_session.specs.declared.answer.Answer.{Answer}
use Rattle.dict_session.specs.declared.session.SessionEnd.{SessionEnd}
use Rattle.dict_session.specs.declared.session.SessionEnd.TheVariants as end
use Rattle.dict_session.specs.declared.session.Turn.{Turn}
use Rattle.dict_session.specs.declared.session.Turn.TheVariants as turn
use Rattle.load_core.specs.CallerSteps.{told_number}
use Rattle.load_core.specs.declared.caller.CallerCore.{CallerCore}
use Rattle.load_core.specs.declared.caller.CallerEvent.{CallerEvent}
use Rattle.request_reader.specs.Taking.{IsRequestText}
use Rattle.request_reader.specs.declared.reader.Asking.{Asking}
use Rattle.wire_text.specs.Replies.{reply_text}
use Rattle.wire_text.specs.RequestTexts.{Heard}
use Rattle.wire_text.specs.declared.reply.Reply.{Reply}

-- what was heard was answered at this moment
pub record AnsweredAt {S : Type 0} (facts : Facts S) (s : S) (heard : Option Heard) (now : ℕ) (answer : Answer) (t : S)
    : Type 0 where
  pub calls : List DeskCall
  pub moved : Moved facts s calls t
  pub served : IsServed (facts.items s) heard now calls answer.reply
  pub tells : Tells calls answer.place answer.event

-- the same with the moment and what was due before it
pub record Exchanged {S : Type 0} (facts : Facts S) (s : S) (heard : Option Heard) (answer : Answer) (t : S)
    : Type 0 where
  pub now : ℕ
  pub calls : List DeskCall
  pub moved : Moved facts s (acts_for now calls) t
  pub served : IsServed (facts.items s) heard now calls answer.reply
  pub tells : Tells calls answer.place answer.event

-- no number is known
abbrev pub unknown_floor : CallerCore
unknown_floor = record { floor = 0 }

-- the floor that is kept for the item at a place was raised by an event, and no other
pub record RaisedAt (cores : List CallerCore) (place : ℕ) (event : CallerEvent) (later : List CallerCore) : Type 0 where
  pub many : length later ≡ length cores
  pub floors : (e : ℕ) → e < length cores
      → floor_of later e ≡ (if place == e then max (floor_of cores e) (told_number event) else floor_of cores e)

-- what follows a reply that was written
abbrev pub turn_after : (quits last : Bool) → Turn
turn_after true last = turn.Over end.Quit
turn_after false true = turn.Over end.Ended
turn_after false false = turn.More

-- the same by how the reply was sent
abbrev pub turn_by : Result (Unit {0}) Failed → (quits last : Bool) → Turn
turn_by (Ok _) quits last = turn_after quits last
turn_by (Err _) quits last = turn.Over end.WriteFault

-- how a session ends whose last reply was sent so, to bytes that are no line
abbrev pub closed_by : Result (Unit {0}) Failed → SessionEnd
closed_by (Ok _) = end.LineTooLong
closed_by (Err _) = end.WriteFault

-- a request was answered: the desk's calls, the kept floors, and the one reply
pub record IsRequestTurn {S : Type 0} (facts : Facts S) (s : S) (old : Ends) (asking : Asking) (last : Bool)
    (made : Turn) (t : S) (new : Ends) (cores later : List CallerCore) : Type 0 where
  pub now : ℕ
  pub calls : List DeskCall
  pub said : Reply
  pub sent : Result (Unit {0}) Failed
  pub moved : Moved facts s (acts_for now calls) t
  pub served : IsServed (facts.items s) (heard_in asking) now calls said
  pub kept : KeepsUp cores (acts_for now calls) later
  pub puts : Puts old (reply_text said) sent new
  pub turns : made ≡ turn_by sent (asks_to_quit asking) last

-- each request was all there
abbrev pub WasWhole : Exchange → Type 0
WasWhole x = IsRequestText false x.text x.asking

-- so many requests were answered, and the session goes on
pub record Going {S : Type 0} (facts : Facts S) (s : S) (p : Place) (t : S) (q : Place) (count : ℕ)
    (cores later : List CallerCore) : Type 0 where
  pub run : SessionRun facts s p t q
  pub closing : run.closing ≡ []
  pub all : run.out ≡ texts run.exchanges
  pub whole : AllByRecursion WasWhole run.exchanges
  pub stay : NoneQuits run.exchanges
  pub counted : length run.exchanges ≡ count
  pub kept : KeepsUp cores (all_acts run.exchanges) later

-- a turn never ends by these
abbrev pub IsTurnEnd : SessionEnd → Type 0
IsTurnEnd end.Spent = ⊥
IsTurnEnd end.NoMemory = ⊥
IsTurnEnd _ = ⊤

-- one request was answered, or the session ended
abbrev pub IsTurn : {S : Type 0} → Facts S → S → Place → Turn → S → List ℕ → Ends → List CallerCore
    → List CallerCore → Type 0
IsTurn facts s p turn.More t ahead new cores later = Going facts s p t (place ahead new) 1 cores later
IsTurn facts s p (turn.Over ended) t ahead new cores later =
    IsTurnEnd ended × SessionEnds facts s p ended t new cores later

-- the faults of a turn; where the session goes on there was none
abbrev pub TurnFaults : Ends → Turn → Ends → Type 0
TurnFaults old turn.More new =
    (new.reads.faults ≡ old.reads.faults) × (new.writes.faults ≡ old.writes.faults) × (new.reads.ended ≡ false)
TurnFaults old (turn.Over ended) new = FaultsFor old ended new
