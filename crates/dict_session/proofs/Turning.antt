-- One turn: what was taken of a link, and what was written to it.
use Rattle.std.proofs.Common.{◌≡◌, ◌≢◌, ◌≤◌, ◌++◌, ◌∙◌, ◌⊎◌, ℕ, List, [], ◌∷◌, Bool, true, false, Result, Ok, Err}
use Rattle.std.proofs.Common.{IsErr, length, take, arith, refl, sym, ap, subst, inl, inr}
use Rattle.std.proofs.lemmas.Bool.{ltb-false, ltb-true}
use Rattle.std.proofs.lemmas.List.{append-nil}
use Rattle.std.specs.Prelude.{nat_lt}
use Rattle.std.specs.Io.KnownBytes.{prepend_known, append_known}
use mathlib.Core.List.{IsPrefix}
use Rattle.dict_io.proofs.Known.{prepend_known-twice}
use Rattle.dict_io.specs.Links.{Ends, Puts}
use Rattle.dict_io.specs.Outside.{HasCause}
use Rattle.dict_io.specs.declared.outside.Failed.{Failed}
use Rattle.dict_session.proofs.Running.{prepend_none, run_closed, run_one, run_still}
use Rattle.dict_session.specs.Acts.{DeskCall}
use Rattle.dict_session.specs.Facts.{Facts}
use Rattle.dict_session.specs.Session.{AreRequests, Exchange, FaultsFor, IsAskedIn, KeepsUp, LastQuits, NoneQuits, Place, SessionRun, acts_for}
use Rattle.dict_session.specs.Session.{asks_to_quit, place, too_long_text}
use Rattle.dict_session.specs.Turns.{IsRequestTurn, IsTurn, TurnFaults, closed_by, turn_by}
use Rattle.dict_session.specs.declared.session.SessionEnd.{SessionEnd}
use Rattle.dict_session.specs.declared.session.SessionEnd.TheVariants as end
use Rattle.dict_session.specs.declared.session.Turn.{Turn}
use Rattle.dict_session.specs.declared.session.Turn.TheVariants as turn
use Rattle.dict_session.proofs.Exchanging.{keeps_none}
use Rattle.line_reader.specs.Reading.{NothingLeft}
use Rattle.load_core.specs.declared.caller.CallerCore.{CallerCore}
use Rattle.request_reader.specs.Taking.{IsRequestText, TakesRequest, TakesFor}
use Rattle.request_reader.specs.declared.reader.Asking.{Asking}
use Rattle.request_reader.specs.declared.reader.Asking.TheVariants as asking
use Rattle.request_reader.specs.declared.reader.Taken.{Taken}
use Rattle.request_reader.specs.declared.reader.Taken.TheVariants as taken
use Rattle.version_slot.proofs.Views.{prefix-self, prefix-take}
use Rattle.wire_text.specs.Replies.{reply_text}
use Rattle.wire_text.specs.RequestTexts.{Heard, HeardOf, IsTooLarge}
use Rattle.wire_text.specs.declared.lines.TheConstants.{MOST_BLOCK_LINES}
use Rattle.wire_text.specs.declared.request.Request.{Request}
use Rattle.wire_text.specs.declared.request.Request.TheVariants as request

-- ---- what was read is what some lines ask

few_by : (b : Bool) (more : List (List ℕ)) (count : ℕ) (behind : List ℕ) → nat_lt MOST_BLOCK_LINES (length more) ≡ b
    → ¬ (IsTooLarge count behind []) → length more ≡ count → length more ≤ MOST_BLOCK_LINES
few_by false more count behind e small many = ltb-false MOST_BLOCK_LINES (length more) e
few_by true more count behind e small many =
    absurd (small (inl (let above = ltb-true MOST_BLOCK_LINES (length more) e in omega (arith, many, above))))

few_lines : (more : List (List ℕ)) (count : ℕ) (behind : List ℕ) → ¬ (IsTooLarge count behind []) → length more ≡ count
    → length more ≤ MOST_BLOCK_LINES
few_lines more count behind small many =
    few_by (nat_lt MOST_BLOCK_LINES (length more)) more count behind refl small many

asked_of : (first : List ℕ) (more : List (List ℕ)) (count : ℕ) (behind : List ℕ) (r : Request)
    → HeardOf first more count behind [] (Heard.asks r) → IsAskedIn (asking.Asks r)
asked_of first more count behind (request.Asked q) (HeardOf.whole small many reads) =
    record { first = first; more = more; reads = reads; few = few_lines more count behind small many }
asked_of first more count behind (request.Reload name) is = tt
asked_of first more count behind (request.Status name) is = tt
asked_of first more count behind (request.After name number) is = tt
asked_of first more count behind (request.Show name) is = tt
asked_of first more count behind request.Config is = tt
asked_of first more count behind request.Quit is = tt

pub asked_in : (closed : Bool) (text : List ℕ) (asked : Asking) → IsRequestText closed text asked → IsAskedIn asked
asked_in closed text (asking.Asks r) is = asked_of is.first is.lines is.request.count is.request.behind r is.is
asked_in closed text asking.Bad is = tt
asked_in closed text asking.TooLarge is = tt
asked_in closed text (asking.NoMemory quits) is = tt

-- ---- what was written

-- the front of a text that was put
puts_front : (old new : Ends) (text : List ℕ) (sent : Result (Unit {0}) Failed) → Puts old text sent new
    → (out : List ℕ) × (new.writes.known ≡ append_known old.writes.known out) × IsPrefix out text
puts_front old new text (Ok ok) puts = (text, puts.wrote, prefix-self text)
puts_front old new text (Err failed) puts = (take puts.wrote.0 text, puts.wrote.2, prefix-take puts.wrote.0 text)

-- ---- a request

-- what was taken, before the reply was written
record Took (asked : Asking) (last : Bool) (p : Place) (ahead : List ℕ) (mid : Ends) : Type 0 where
  text : List ℕ
  next : p.next ≡ prepend_known (text ++ ahead) mid.reads.known
  written : p.written ≡ mid.writes.known
  is : IsRequestText last text asked
  at_end : last ≡ true → (ahead ≡ []) × NothingLeft mid.reads.known

took : (asked : Asking) (last : Bool) (before ahead : List ℕ) (old mid : Ends)
    → TakesFor (prepend_known before old.reads.known) (taken.Request asked last) ahead mid.reads.known → mid.writes ≡ old.writes
    → Took asked last (place before old) ahead mid
took asked last before ahead old mid takes kept =
    record { text = takes.0; next = takes.1; written = ap (λ side. side.known) (sym kept); is = takes.2; at_end = takes.3 }

module _ {S : Type 0} (facts : Facts S) where
  abbrev exchange_of : (s t : S) (asked : Asking) (last : Bool) (made : Turn) (mid new : Ends) (cores later : List CallerCore)
      (text : List ℕ) → IsRequestTurn facts s mid asked last made t new cores later → Exchange
  exchange_of s t asked last made mid new cores later text turns =
      record { text = text; asking = asked; now = turns.now; calls = turns.calls; reply = turns.said }

  abbrev answered_run : (s t : S) (asked : Asking) (last : Bool) (made : Turn) (p : Place) (ahead : List ℕ) (mid new : Ends)
      (cores later : List CallerCore) (took : Took asked last p ahead mid) (turns : IsRequestTurn facts s mid asked last made t new cores later)
      (out : List ℕ) → new.writes.known ≡ append_known mid.writes.known out → IsPrefix out (reply_text turns.said)
      → SessionRun facts s p t (place ahead new)
  answered_run s t asked last made p ahead mid new cores later took turns out wrote front =
      run_one facts s t p (place ahead new) (exchange_of s t asked last made mid new cores later took.text turns) out
      (took.next ∙ sym (prepend_known-twice mid.reads.known took.text ahead)
      ∙ ap (λ side. prepend_known took.text (prepend_known ahead side.known)) (sym turns.puts.reads))
      (wrote ∙ ap (λ o. append_known o out) (sym took.written))
      front turns.moved turns.served

  kept_one : (cores later : List CallerCore) (now : ℕ) (calls : List DeskCall) → KeepsUp cores (acts_for now calls) later
      → KeepsUp cores (acts_for now calls ++ []) later
  kept_one cores later now calls kept = subst (λ acts. KeepsUp cores acts later) (sym (append-nil (acts_for now calls))) kept

  are_one : (closed : Type 0) (x : Exchange) (last : Bool) → IsRequestText last x.text x.asking → (last ≡ true → closed)
      → AreRequests closed (x ∷ [])
  are_one closed x false is end = inl (is, tt)
  are_one closed x true is end = inr (is, refl, end refl)

  quits_or_stays : (x : Exchange) (b : Bool) → asks_to_quit x.asking ≡ b → NoneQuits (x ∷ []) ⊎ LastQuits (x ∷ [])
  quits_or_stays x false e = inl (e, tt)
  quits_or_stays x true e = inr ([], x, refl, tt, e)

  -- the turn of a request, by how its reply was sent
  request_sent : (s t : S) (asked : Asking) (last quits : Bool) (p : Place) (ahead : List ℕ) (mid new : Ends)
      (cores later : List CallerCore) (sent : Result (Unit {0}) Failed) (made : Turn) → Took asked last p ahead mid
      → (turns : IsRequestTurn facts s mid asked last made t new cores later) → Puts mid (reply_text turns.said) sent new
      → asks_to_quit asked ≡ quits → made ≡ turn_by sent quits last → IsTurn facts s p (turn_by sent quits last) t ahead new cores later
  request_sent s t asked last quits p ahead mid new cores later (Err failed) made took turns puts q e = (
    tt,
    record {
      tail = ahead;
      run = answered_run s t asked last made p ahead mid new cores later took turns (take puts.wrote.0 (reply_text turns.said)) puts.wrote.2
          (prefix-take puts.wrote.0 (reply_text turns.said));
      requests = are_one _ (exchange_of s t asked last made mid new cores later took.text turns) last took.is
          (λ l. subst (λ side. (ahead ≡ []) × NothingLeft side.known) (sym turns.puts.reads) (took.at_end l));
      is = inl (refl, quits_or_stays (exchange_of s t asked last made mid new cores later took.text turns) quits q);
      kept = kept_one cores later turns.now turns.calls turns.kept;
    },
  )
  request_sent s t asked last true p ahead mid new cores later (Ok ok) made took turns puts q e = (
    tt,
    record {
      tail = ahead;
      run = answered_run s t asked last made p ahead mid new cores later took turns (reply_text turns.said) puts.wrote (prefix-self (reply_text turns.said));
      requests = are_one _ (exchange_of s t asked last made mid new cores later took.text turns) last took.is
          (λ l. subst (λ side. (ahead ≡ []) × NothingLeft side.known) (sym turns.puts.reads) (took.at_end l));
      is = (refl, sym (append-nil (reply_text turns.said)), ([], exchange_of s t asked last made mid new cores later took.text turns, refl, tt, q));
      kept = kept_one cores later turns.now turns.calls turns.kept;
    },
  )
  request_sent s t asked true false p ahead mid new cores later (Ok ok) made took turns puts q e =
      let end = subst (λ side. (ahead ≡ []) × NothingLeft side.known) (sym turns.puts.reads) (took.at_end refl) in (
        tt,
        record {
          tail = ahead;
          run = answered_run s t asked true made p ahead mid new cores later took turns (reply_text turns.said) puts.wrote (prefix-self (reply_text turns.said));
          requests = are_one _ (exchange_of s t asked true made mid new cores later took.text turns) true took.is (λ l. end);
          is = (refl, sym (append-nil (reply_text turns.said)), (q, tt), end.0, end.1);
          kept = kept_one cores later turns.now turns.calls turns.kept;
        },
      )
  request_sent s t asked false false p ahead mid new cores later (Ok ok) made took turns puts q e = record {
    run = answered_run s t asked false made p ahead mid new cores later took turns (reply_text turns.said) puts.wrote (prefix-self (reply_text turns.said));
    closing = refl;
    all = sym (append-nil (reply_text turns.said));
    whole = (took.is, tt);
    stay = (q, tt);
    counted = refl;
    kept = kept_one cores later turns.now turns.calls turns.kept;
  }

  pub request_turn : (s t : S) (asked : Asking) (last : Bool) (before ahead : List ℕ) (old mid new : Ends)
      (cores later : List CallerCore) (made : Turn) → TakesRequest before old (taken.Request asked last) ahead mid
      → IsRequestTurn facts s mid asked last made t new cores later → IsTurn facts s (place before old) made t ahead new cores later
  request_turn s t asked last before ahead old mid new cores later made takes turns =
      subst (λ m. IsTurn facts s (place before old) m t ahead new cores later) (sym turns.turns)
      (request_sent s t asked last (asks_to_quit asked) (place before old) ahead mid new cores later turns.sent made
      (took asked last before ahead old mid takes.request takes.writes) turns turns.puts refl turns.turns)

  -- ---- the end of a session without a request

  pub ended_turn : (s : S) (before ahead : List ℕ) (old new : Ends) (cores : List CallerCore) → TakesRequest before old taken.End ahead new
      → IsTurn facts s (place before old) (turn.Over end.Ended) s ahead new cores cores
  ended_turn s before ahead old new cores takes = (
    tt,
    record {
      tail = [];
      run = run_still facts s (place before old) (place [] new) (takes.request.0 ∙ sym (prepend_none new.reads.known))
          (ap (λ side. side.known) takes.writes);
      requests = tt;
      is = (refl, refl, tt, refl, takes.request.2);
      kept = keeps_none cores;
    },
  )

  pub failed_turn : (s : S) (before ahead : List ℕ) (old new : Ends) (cores : List CallerCore) → TakesRequest before old taken.Failed ahead new
      → IsTurn facts s (place before old) (turn.Over end.ReadFault) s ahead new cores cores
  failed_turn s before ahead old new cores takes = (
    tt,
    record {
      tail = takes.request.0;
      run = run_still facts s (place before old) (place takes.request.0 new) takes.request.1 (ap (λ side. side.known) takes.writes);
      requests = tt;
      is = (refl, refl, tt, takes.request.2);
      kept = keeps_none cores;
    },
  )

  long_sent : (s : S) (before ahead : List ℕ) (old mid new : Ends) (cores : List CallerCore) (sent : Result (Unit {0}) Failed)
      → TakesRequest before old taken.TooLong ahead mid → Puts mid too_long_text sent new
      → IsTurn facts s (place before old) (turn.Over (closed_by sent)) s ahead new cores cores
  long_sent s before ahead old mid new cores (Ok ok) takes puts = (
    tt,
    record {
      tail = takes.request.0;
      run = run_closed facts s (place before old) (place takes.request.0 new) too_long_text too_long_text
          (takes.request.1 ∙ ap (λ side. prepend_known takes.request.0 side.known) (sym puts.reads))
          (puts.wrote ∙ ap (λ side. append_known side.known too_long_text) takes.writes) (prefix-self too_long_text);
      requests = tt;
      is = (refl, refl, tt, takes.request.2);
      kept = keeps_none cores;
    },
  )
  long_sent s before ahead old mid new cores (Err failed) takes puts = (
    tt,
    record {
      tail = takes.request.0;
      run = run_closed facts s (place before old) (place takes.request.0 new) too_long_text (take puts.wrote.0 too_long_text)
          (takes.request.1 ∙ ap (λ side. prepend_known takes.request.0 side.known) (sym puts.reads))
          (puts.wrote.2 ∙ ap (λ side. append_known side.known (take puts.wrote.0 too_long_text)) takes.writes)
          (prefix-take puts.wrote.0 too_long_text);
      requests = tt;
      is = inr (refl, tt, takes.request.2);
      kept = keeps_none cores;
    },
  )

  pub long_turn : (s : S) (before ahead : List ℕ) (old mid new : Ends) (cores : List CallerCore) (ended : SessionEnd)
      → TakesRequest before old taken.TooLong ahead mid
      → (sent : Result (Unit {0}) Failed) × Puts mid too_long_text sent new × (ended ≡ closed_by sent)
      → IsTurn facts s (place before old) (turn.Over ended) s ahead new cores cores
  long_turn s before ahead old mid new cores ended takes closed =
      subst (λ e. IsTurn facts s (place before old) (turn.Over e) s ahead new cores cores) (sym closed.2)
      (long_sent s before ahead old mid new cores closed.0 takes closed.1)

-- ---- faults

none_rose : (a b : ℕ) (P : Type 0) → b ≡ a → (P → ⊥) → HasCause a b P
none_rose a b P same none = record { later = omega (arith, same); rose = λ h. absurd (none h); still = λ n. same }

rose_as : (a b : ℕ) (P Q : Type 0) → HasCause a b P → (Q → P) → (P → Q) → HasCause a b Q
rose_as a b P Q cause back on =
    record { later = cause.later; rose = λ h. cause.rose (back h); still = λ n. cause.still (λ h. n (on h)) }

same_reads : (took : Taken) (before ahead : List ℕ) (old mid : Ends) → TakesRequest before old took ahead mid → took ≢ taken.Failed
    → mid.reads.faults ≡ old.reads.faults
same_reads took before ahead old mid takes other = takes.cause.still other

-- what a turn that took a request, or bytes that are no line, and then wrote, leaves of the faults
wrote_faults : (made : Turn) (ended : SessionEnd) (old mid new : Ends) (sent : Result (Unit {0}) Failed) (text : List ℕ)
    → mid.reads.faults ≡ old.reads.faults → mid.writes ≡ old.writes → Puts mid text sent new → ended ≢ end.ReadFault
    → (ended ≡ end.WriteFault → IsErr sent) → (IsErr sent → ended ≡ end.WriteFault) → FaultsFor old ended new
wrote_faults made ended old mid new sent text reads writes puts other back on = record {
  reads = none_rose old.reads.faults new.reads.faults (ended ≡ end.ReadFault) (ap (λ side. side.faults) puts.reads ∙ reads) other;
  writes = rose_as old.writes.faults new.writes.faults (IsErr sent) (ended ≡ end.WriteFault)
      (subst (λ side. HasCause side.faults new.writes.faults (IsErr sent)) writes puts.cause) back on;
}

sent_faults : (sent : Result (Unit {0}) Failed) (quits last : Bool) (old mid new : Ends) (text : List ℕ)
    → mid.reads.faults ≡ old.reads.faults → mid.writes ≡ old.writes → mid.reads.ended ≡ last → Puts mid text sent new
    → TurnFaults old (turn_by sent quits last) new
sent_faults (Err failed) quits last old mid new text reads writes ended puts =
    wrote_faults (turn.Over end.WriteFault) end.WriteFault old mid new (Err failed) text reads writes puts
    (λ e. let other : end.WriteFault ≡ end.ReadFault = e in absurd (cc)) (λ e. refl) (λ e. refl)
sent_faults (Ok ok) true last old mid new text reads writes ended puts =
    wrote_faults (turn.Over end.Quit) end.Quit old mid new (Ok ok) text reads writes puts
    (λ e. let other : end.Quit ≡ end.ReadFault = e in absurd (cc))
    (λ e. let other : end.Quit ≡ end.WriteFault = e in absurd (cc)) (λ e. absurd (cc))
sent_faults (Ok ok) false true old mid new text reads writes ended puts =
    wrote_faults (turn.Over end.Ended) end.Ended old mid new (Ok ok) text reads writes puts
    (λ e. let other : end.Ended ≡ end.ReadFault = e in absurd (cc))
    (λ e. let other : end.Ended ≡ end.WriteFault = e in absurd (cc)) (λ e. absurd (cc))
sent_faults (Ok ok) false false old mid new text reads writes ended puts = (
  ap (λ side. side.faults) puts.reads ∙ reads,
  puts.cause.still (λ e. absurd (cc)) ∙ ap (λ side. side.faults) writes,
  ap (λ side. side.ended) puts.reads ∙ ended,
)

pub request_faults : {S : Type 0} (facts : Facts S) (s t : S) (asked : Asking) (last : Bool) (before ahead : List ℕ)
    (old mid new : Ends) (cores later : List CallerCore) (made : Turn) → TakesRequest before old (taken.Request asked last) ahead mid
    → IsRequestTurn facts s mid asked last made t new cores later → TurnFaults old made new
request_faults facts s t asked last before ahead old mid new cores later made takes turns =
    subst (λ m. TurnFaults old m new) (sym turns.turns)
    (sent_faults turns.sent (asks_to_quit asked) last old mid new (reply_text turns.said)
    (same_reads (taken.Request asked last) before ahead old mid takes
    (λ e. let other : taken.Request asked last ≡ taken.Failed = e in absurd (cc)))
    takes.writes takes.ended turns.puts)

closed_faults : (sent : Result (Unit {0}) Failed) (old mid new : Ends) → mid.reads.faults ≡ old.reads.faults → mid.writes ≡ old.writes
    → Puts mid too_long_text sent new → FaultsFor old (closed_by sent) new
closed_faults (Ok ok) old mid new reads writes puts =
    wrote_faults (turn.Over end.LineTooLong) end.LineTooLong old mid new (Ok ok) too_long_text reads writes puts
    (λ e. let other : end.LineTooLong ≡ end.ReadFault = e in absurd (cc))
    (λ e. let other : end.LineTooLong ≡ end.WriteFault = e in absurd (cc)) (λ e. absurd (cc))
closed_faults (Err failed) old mid new reads writes puts =
    wrote_faults (turn.Over end.WriteFault) end.WriteFault old mid new (Err failed) too_long_text reads writes puts
    (λ e. let other : end.WriteFault ≡ end.ReadFault = e in absurd (cc)) (λ e. refl) (λ e. refl)

pub long_faults : (before ahead : List ℕ) (old mid new : Ends) (ended : SessionEnd) → TakesRequest before old taken.TooLong ahead mid
    → (sent : Result (Unit {0}) Failed) × Puts mid too_long_text sent new × (ended ≡ closed_by sent) → FaultsFor old ended new
long_faults before ahead old mid new ended takes closed =
    subst (λ e. FaultsFor old e new) (sym closed.2)
    (closed_faults closed.0 old mid new
    (same_reads taken.TooLong before ahead old mid takes (λ e. let other : taken.TooLong ≡ taken.Failed = e in absurd (cc)))
    takes.writes closed.1)

pub ended_faults : (before ahead : List ℕ) (old new : Ends) → TakesRequest before old taken.End ahead new → FaultsFor old end.Ended new
ended_faults before ahead old new takes = record {
  reads = none_rose old.reads.faults new.reads.faults (end.Ended ≡ end.ReadFault)
      (same_reads taken.End before ahead old new takes (λ e. let other : taken.End ≡ taken.Failed = e in absurd (cc)))
      (λ e. let other : end.Ended ≡ end.ReadFault = e in absurd (cc));
  writes = none_rose old.writes.faults new.writes.faults (end.Ended ≡ end.WriteFault) (ap (λ side. side.faults) takes.writes)
      (λ e. let other : end.Ended ≡ end.WriteFault = e in absurd (cc));
}

pub failed_faults : (before ahead : List ℕ) (old new : Ends) → TakesRequest before old taken.Failed ahead new → FaultsFor old end.ReadFault new
failed_faults before ahead old new takes = record {
  reads = rose_as old.reads.faults new.reads.faults (taken.Failed ≡ taken.Failed) (end.ReadFault ≡ end.ReadFault) takes.cause
      (λ e. refl) (λ e. refl);
  writes = none_rose old.writes.faults new.writes.faults (end.ReadFault ≡ end.WriteFault) (ap (λ side. side.faults) takes.writes)
      (λ e. let other : end.ReadFault ≡ end.WriteFault = e in absurd (cc));
}

-- a turn and then the rest of a session
pub faults_behind : (old mid new : Ends) (ended : SessionEnd) → mid.reads.faults ≡ old.reads.faults → mid.writes.faults ≡ old.writes.faults
    → FaultsFor mid ended new → FaultsFor old ended new
faults_behind old mid new ended reads writes rest = record {
  reads = subst (λ n. HasCause n new.reads.faults (ended ≡ end.ReadFault)) reads rest.reads;
  writes = subst (λ n. HasCause n new.writes.faults (ended ≡ end.WriteFault)) writes rest.writes;
}

pub none_faults : (old : Ends) → FaultsFor old end.NoMemory old
none_faults old = record {
  reads = none_rose old.reads.faults old.reads.faults (end.NoMemory ≡ end.ReadFault) refl
      (λ e. let other : end.NoMemory ≡ end.ReadFault = e in absurd (cc));
  writes = none_rose old.writes.faults old.writes.faults (end.NoMemory ≡ end.WriteFault) refl
      (λ e. let other : end.NoMemory ≡ end.WriteFault = e in absurd (cc));
}
