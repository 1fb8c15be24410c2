-- A session: requests one after another, each with the desk's calls for it and its reply.
use Rattle.std.specs.Prelude.{◌≡◌, ◌⊎◌, ◌≤◌, ◌<◌, ◌++◌, ℕ, zero, suc, List, [], ◌∷◌, Bool, true, false, Option}
use Rattle.std.specs.Prelude.{Some, None, length, max, ⊤}
use Rattle.std.specs.Io.KnownBytes.{prepend_known, append_known}
use Rattle.std.specs.List.{AllByRecursion, flat_map}
use mathlib.Core.List.{IsPrefix}
use Rattle.dict_io.specs.Links.{Ends}
use Rattle.dict_io.specs.Outside.{HasCause}
use Rattle.dict_schema.specs.declared.definition.Item.{Item}
use Rattle.dict_session.specs.Acts.{DeskCall, Moment, Before}
use Rattle.dict_session.specs.Answers.{IsServed}
use Rattle.dict_session.specs.Facts.{Facts}
use Rattle.dict_session.specs.Floors.{Moved, floor_after}
use Rattle.dict_session.specs.Serving.{IsAskedRequest}
use Rattle.dict_session.specs.declared.session.SessionEnd.{SessionEnd}
use Rattle.dict_session.specs.declared.session.SessionEnd.TheVariants as end
use Rattle.line_reader.specs.Reading.{IsLine, IsLong, NothingLeft}
use Rattle.load_core.specs.declared.caller.CallerCore.{CallerCore}
use Rattle.request_reader.specs.Taking.{IsRequestText, IsUnfinished}
use Rattle.request_reader.specs.declared.reader.Asking.{Asking}
use Rattle.request_reader.specs.declared.reader.Asking.TheVariants as asking
use Rattle.wire_text.specs.Replies.{reply_text}
use Rattle.wire_text.specs.RequestTexts.{Heard}
use Rattle.wire_text.specs.declared.lines.TheConstants.{MOST_REQUESTS}
use Rattle.wire_text.specs.declared.reply.Reply.{Reply}
use Rattle.wire_text.specs.declared.reply.Reply.TheVariants.{Refused}
use Rattle.wire_text.specs.declared.reply.ReplyFault.TheVariants as fault
use Rattle.wire_text.specs.declared.request.Request.TheVariants as request

-- ---- one request

-- what is heard of a request; nothing where memory was refused for its lines
abbrev pub heard_in : Asking → Option Heard
heard_in (asking.Asks asked) = Some (Heard.asks asked)
heard_in asking.Bad = Some Heard.bad
heard_in asking.TooLarge = Some Heard.too_large
heard_in (asking.NoMemory quits) = None

-- whether a request ends the session
abbrev pub asks_to_quit : Asking → Bool
asks_to_quit (asking.Asks request.Quit) = true
asks_to_quit (asking.NoMemory quits) = quits
asks_to_quit _ = false

-- some lines ask for what was read
abbrev pub IsAskedIn : Asking → Type 0
IsAskedIn (asking.Asks asked) = IsAskedRequest asked
IsAskedIn _ = ⊤

-- a request: its bytes and what was read in them, its moment, the calls that it asked for, and its reply
pub record Exchange : Type 0 where
  pub text : List ℕ
  pub asking : Asking
  pub now : ℕ
  pub calls : List DeskCall
  pub reply : Reply

-- the desk's calls for a request: the moment, what is due before it, and those that it asked for
abbrev pub acts_for : ℕ → List DeskCall → List DeskCall
acts_for now calls = Moment now ∷ Before now ∷ calls

abbrev pub acts_of : Exchange → List DeskCall
acts_of x = acts_for x.now x.calls

-- the calls are those that the request asks for, and the reply follows from their answers
abbrev pub IsServedIn : List Item → Exchange → Type 0
IsServedIn items x = IsServed items (heard_in x.asking) x.now x.calls x.reply

-- ---- requests, one after another

abbrev pub all_acts : List Exchange → List DeskCall
all_acts xs = flat_map acts_of xs

abbrev pub bytes : List Exchange → List ℕ
bytes xs = flat_map (λ (x : Exchange). x.text) xs

abbrev pub texts : List Exchange → List ℕ
texts xs = flat_map (λ (x : Exchange). reply_text x.reply) xs

-- what stands next on a link, and what was written to it
pub record Place : Type 0 where
  pub next : Option (List ℕ)
  pub written : Option (List ℕ)

-- the bytes that were read ahead stand next
abbrev pub place : List ℕ → Ends → Place
place ahead ends = record { next = prepend_known ahead ends.reads.known; written = ends.writes.known }

-- the floor that is kept for the item at a place
abbrev pub floor_of : List CallerCore → ℕ → ℕ
floor_of [] e = 0
floor_of (core ∷ cores) zero = core.floor
floor_of (core ∷ cores) (suc e) = floor_of cores e

-- The kept floors never fall, and are not below what the acts tell: a floor that acts raise is at most the greater of
-- what it was and the kept one.
pub record KeepsUp (cores : List CallerCore) (acts : List DeskCall) (later : List CallerCore) : Type 0 where
  pub many : length later ≡ length cores
  pub risen : (e : ℕ) → e < length cores → floor_of cores e ≤ floor_of later e
  pub told : (e floor : ℕ) → e < length cores → floor_after e floor acts ≤ max floor (floor_of later e)

-- requests were taken and answered, from one state and place to others
pub record SessionRun {S : Type 0} (facts : Facts S) (s : S) (p : Place) (t : S) (q : Place) : Type 0 where
  pub exchanges : List Exchange
  pub out : List ℕ
  pub closing : List ℕ
  -- the bytes of the requests were taken
  pub read : p.next ≡ prepend_known (bytes exchanges) q.next
  -- the texts of the replies and then the closing were written, or a front of them
  pub wrote : q.written ≡ append_known p.written out
  pub front : IsPrefix out (texts exchanges ++ closing)
  -- the desk's calls, and no others, lead from its state before to that after
  pub moved : Moved facts s (all_acts exchanges) t
  pub answered : AllByRecursion (IsServedIn (facts.items s)) exchanges

-- ---- how a session ends

-- each request was all there; the last one of an input that was read to its end may lack its line feed
abbrev pub AreRequests : Type 0 → List Exchange → Type 0
AreRequests closed [] = ⊤
AreRequests closed (x ∷ xs) = IsRequestText false x.text x.asking × AreRequests closed xs
    ⊎ IsRequestText true x.text x.asking × (xs ≡ []) × closed

-- a request that doesn't end the session
abbrev pub StaysIn : Exchange → Type 0
StaysIn x = asks_to_quit x.asking ≡ false

abbrev pub NoneQuits : List Exchange → Type 0
NoneQuits xs = AllByRecursion StaysIn xs

-- the last one, and no other, ends the session
abbrev pub LastQuits : List Exchange → Type 0
LastQuits xs = (before : List Exchange) × (last : Exchange) × (xs ≡ before ++ last ∷ []) × NoneQuits before
    × (asks_to_quit last.asking ≡ true)

-- the reply to bytes that are no line
abbrev pub too_long_text : List ℕ
too_long_text = reply_text (Refused fault.LineTooLong)

-- each end with its cause: what was read and written, and the bytes at the tail that were read without an answer
abbrev pub IsEnd : SessionEnd → (xs : List Exchange) (out closing tail : List ℕ) (left : Option (List ℕ)) → Type 0
IsEnd end.Quit xs out closing tail left = (closing ≡ []) × (out ≡ texts xs) × LastQuits xs
IsEnd end.Ended xs out closing tail left =
    (closing ≡ []) × (out ≡ texts xs) × NoneQuits xs × (tail ≡ []) × NothingLeft left
IsEnd end.ReadFault xs out closing tail left =
    (closing ≡ []) × (out ≡ texts xs) × NoneQuits xs × IsUnfinished IsLine tail
IsEnd end.LineTooLong xs out closing tail left =
    (closing ≡ too_long_text) × (out ≡ texts xs ++ closing) × NoneQuits xs × IsUnfinished IsLong tail
IsEnd end.Spent xs out closing tail left =
    (closing ≡ []) × (out ≡ texts xs) × NoneQuits xs × (length xs ≡ MOST_REQUESTS)
IsEnd end.WriteFault xs out closing tail left =
    (closing ≡ []) × (NoneQuits xs ⊎ LastQuits xs)
    ⊎ (closing ≡ too_long_text) × NoneQuits xs × IsUnfinished IsLong tail
IsEnd end.NoMemory xs out closing tail left = (closing ≡ []) × (out ≡ []) × (xs ≡ []) × (tail ≡ [])

-- the faults of both sides of the link: each end for a fault comes just where one was counted
pub record FaultsFor (old : Ends) (ended : SessionEnd) (new : Ends) : Type 0 where
  pub reads : HasCause old.reads.faults new.reads.faults (ended ≡ end.ReadFault)
  pub writes : HasCause old.writes.faults new.writes.faults (ended ≡ end.WriteFault)

-- a session from a place on, to its end
pub record SessionEnds {S : Type 0} (facts : Facts S) (s : S) (p : Place) (ended : SessionEnd) (t : S) (new : Ends)
    (cores later : List CallerCore) : Type 0 where
  pub tail : List ℕ
  pub run : SessionRun facts s p t (place tail new)
  pub requests : AreRequests ((tail ≡ []) × NothingLeft new.reads.known) run.exchanges
  pub is : IsEnd ended run.exchanges run.out run.closing tail new.reads.known
  pub kept : KeepsUp cores (all_acts run.exchanges) later

-- a whole session over a link; the kept floors, one for each item, begin at 0
pub record Serves {S : Type 0} (facts : Facts S) (s : S) (old : Ends) (ended : SessionEnd) (t : S) (new : Ends)
    : Type 0 where
  pub first : List CallerCore
  pub kept : List CallerCore
  pub from_zero : (e : ℕ) → floor_of first e ≡ 0
  pub ending : SessionEnds facts s (place [] old) ended t new first kept
  pub many : ended ≡ end.NoMemory ⊎ (length kept ≡ length (facts.items s))
  pub faults : FaultsFor old ended new
