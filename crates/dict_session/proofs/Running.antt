-- Requests that were answered one after another, and how a session ends.
use Rattle.std.proofs.Common.{◌≡◌, ◌+◌, ◌++◌, ◌∙◌, ℕ, List, [], ◌∷◌, Option, Some, None}
use Rattle.std.proofs.Common.{append_assoc, length-append, arith, refl, sym, ap, subst, inl, inr}
use Rattle.std.proofs.lemmas.Grind.{flat_map-append}
use Rattle.std.proofs.lemmas.List.{append-nil}
use Rattle.std.specs.Io.KnownBytes.{prepend_known, append_known}
use Rattle.std.specs.List.{AllByRecursion}
use mathlib.Core.List.{IsPrefix}
use Rattle.dict_io.proofs.Known.{append_known-none, append_known-twice, prepend_known-twice}
use Rattle.dict_io.specs.Links.{Ends}
use Rattle.dict_session.proofs.Acting.{all_append, moved_append, moved_none}
use Rattle.dict_session.proofs.Exchanging.{keeps_append, keeps_none}
use Rattle.dict_session.specs.Facts.{Facts}
use Rattle.dict_session.specs.Floors.{Moved}
use Rattle.dict_session.specs.Session.{AreRequests, SessionEnds, Exchange, IsServedIn, IsEnd, KeepsUp, LastQuits, NoneQuits, Place, SessionRun}
use Rattle.dict_session.specs.Session.{StaysIn, acts_of, all_acts, bytes, place, texts}
use Rattle.dict_session.specs.Turns.{Going, IsTurnEnd, WasWhole}
use Rattle.dict_session.specs.declared.session.SessionEnd.{SessionEnd}
use Rattle.dict_session.specs.declared.session.SessionEnd.TheVariants as end
use Rattle.line_reader.specs.Reading.{NothingLeft}
use Rattle.load_core.specs.declared.caller.CallerCore.{CallerCore}
use Rattle.version_slot.proofs.Views.{prefix-self}
use Rattle.wire_text.specs.Replies.{reply_text}
use Rattle.wire_text.specs.declared.lines.TheConstants.{MOST_REQUESTS}

-- ---- known bytes and fronts

pub prepend_none : (o : Option (List ℕ)) → prepend_known [] o ≡ o
prepend_none None = refl
prepend_none (Some xs) = refl

-- a front behind the same bytes
prefix_behind : (zs xs ys : List ℕ) → IsPrefix xs ys → IsPrefix (zs ++ xs) (zs ++ ys)
prefix_behind zs xs ys p = (p.0, append_assoc zs xs p.0 ∙ ap (λ (l : List ℕ). zs ++ l) p.1)

texts_append : (xs ys : List Exchange) → texts (xs ++ ys) ≡ texts xs ++ texts ys
texts_append xs ys = flat_map-append (λ (x : Exchange). reply_text x.reply) xs ys

bytes_append : (xs ys : List Exchange) → bytes (xs ++ ys) ≡ bytes xs ++ bytes ys
bytes_append xs ys = flat_map-append (λ (x : Exchange). x.text) xs ys

acts_append : (xs ys : List Exchange) → all_acts (xs ++ ys) ≡ all_acts xs ++ all_acts ys
acts_append xs ys = flat_map-append acts_of xs ys

-- ---- requests that ended well

requests_append : (closed : Type 0) (xs ys : List Exchange) → AllByRecursion WasWhole xs → AreRequests closed ys → AreRequests closed (xs ++ ys)
requests_append closed [] ys whole are = are
requests_append closed (x ∷ xs) ys whole are = inl (whole.0, requests_append closed xs ys whole.1 are)

requests_whole : (closed : Type 0) (xs : List Exchange) → AllByRecursion WasWhole xs → AreRequests closed xs
requests_whole closed [] whole = tt
requests_whole closed (x ∷ xs) whole = inl (whole.0, requests_whole closed xs whole.1)

none_append : (xs ys : List Exchange) → NoneQuits xs → NoneQuits ys → NoneQuits (xs ++ ys)
none_append xs ys a b = all_append StaysIn xs ys a b

last_append : (xs ys : List Exchange) → NoneQuits xs → LastQuits ys → LastQuits (xs ++ ys)
last_append xs ys a b = (
  xs ++ b.0,
  b.1,
  ap (λ (l : List Exchange). xs ++ l) b.2 ∙ sym (append_assoc xs b.0 (b.1 ∷ [])),
  none_append xs b.0 a b.3,
  b.4,
)

end_append : (ended : SessionEnd) (xs ys : List Exchange) (out closing tail : List ℕ) (left : Option (List ℕ)) → IsTurnEnd ended
    → NoneQuits xs → IsEnd ended ys out closing tail left → IsEnd ended (xs ++ ys) (texts xs ++ out) closing tail left
end_append end.Quit xs ys out closing tail left turn none is =
    (is.0, ap (λ (l : List ℕ). texts xs ++ l) is.1 ∙ sym (texts_append xs ys), last_append xs ys none is.2)
end_append end.Ended xs ys out closing tail left turn none is =
    (is.0, ap (λ (l : List ℕ). texts xs ++ l) is.1 ∙ sym (texts_append xs ys), none_append xs ys none is.2, is.3, is.4)
end_append end.ReadFault xs ys out closing tail left turn none is =
    (is.0, ap (λ (l : List ℕ). texts xs ++ l) is.1 ∙ sym (texts_append xs ys), none_append xs ys none is.2, is.3)
end_append end.LineTooLong xs ys out closing tail left turn none is = (
  is.0,
  ap (λ (l : List ℕ). texts xs ++ l) is.1 ∙ sym (append_assoc (texts xs) (texts ys) closing)
      ∙ ap (λ (l : List ℕ). l ++ closing) (sym (texts_append xs ys)),
  none_append xs ys none is.2,
  is.3,
)
end_append end.Spent xs ys out closing tail left turn none is = absurd turn
end_append end.NoMemory xs ys out closing tail left turn none is = absurd turn
end_append end.WriteFault xs ys out closing tail left turn none is = elim is [
  | inl other ↦ inl (other.0, elim other.1 [ inl stay ↦ inl (none_append xs ys none stay) | inr quit ↦ inr (last_append xs ys none quit) ])
  | inr closed ↦ inr (closed.0, none_append xs ys none closed.1, closed.2)
]

module _ {S : Type 0} (facts : Facts S) where
  -- nothing was taken or written
  abbrev pub run_still : (s : S) (p q : Place) → p.next ≡ q.next → q.written ≡ p.written → SessionRun facts s p s q
  run_still s p q e f = record {
    exchanges = [];
    out = [];
    closing = [];
    read = e ∙ sym (prepend_none q.next);
    wrote = f ∙ sym (append_known-none p.written);
    front = prefix-self [];
    moved = moved_none facts s;
    answered = tt;
  }

  -- requests that were answered behind others, each of which had its whole reply
  abbrev run_append : (s t u : S) (p q r : Place) (one : SessionRun facts s p t q) (two : SessionRun facts t q u r) → one.out ≡ texts one.exchanges
      → SessionRun facts s p u r
  run_append s t u p q r one two all = record {
    exchanges = one.exchanges ++ two.exchanges;
    out = texts one.exchanges ++ two.out;
    closing = two.closing;
    read = one.read ∙ ap (prepend_known (bytes one.exchanges)) two.read
        ∙ prepend_known-twice r.next (bytes one.exchanges) (bytes two.exchanges)
        ∙ ap (λ (l : List ℕ). prepend_known l r.next) (sym (bytes_append one.exchanges two.exchanges));
    wrote = two.wrote ∙ ap (λ o. append_known o two.out) one.wrote ∙ append_known-twice p.written one.out two.out
        ∙ ap (λ (l : List ℕ). append_known p.written (l ++ two.out)) all;
    front = subst (λ (l : List ℕ). IsPrefix (texts one.exchanges ++ two.out) l)
        (sym (append_assoc (texts one.exchanges) (texts two.exchanges) two.closing)
        ∙ ap (λ (l : List ℕ). l ++ two.closing) (sym (texts_append one.exchanges two.exchanges)))
        (prefix_behind (texts one.exchanges) two.out (texts two.exchanges ++ two.closing) two.front);
    moved = subst (λ acts. Moved facts s acts u) (sym (acts_append one.exchanges two.exchanges))
        (moved_append facts s t u (all_acts one.exchanges) (all_acts two.exchanges) one.moved two.moved);
    answered = all_append (IsServedIn (facts.items s)) one.exchanges two.exchanges one.answered
        (subst (λ items. AllByRecursion (IsServedIn items) two.exchanges) one.moved.grows.items two.answered);
  }

  -- one request, of whose reply a front was written
  abbrev pub run_one : (s t : S) (p q : Place) (x : Exchange) (out : List ℕ) → p.next ≡ prepend_known x.text q.next
      → q.written ≡ append_known p.written out → IsPrefix out (reply_text x.reply) → Moved facts s (acts_of x) t
      → IsServedIn (facts.items s) x → SessionRun facts s p t q
  run_one s t p q x out read wrote front moved answered = record {
    exchanges = x ∷ [];
    out = out;
    closing = [];
    read = read ∙ ap (λ (l : List ℕ). prepend_known l q.next) (sym (append-nil x.text));
    wrote = wrote;
    front = subst (λ (l : List ℕ). IsPrefix out l)
        (sym (append-nil ((reply_text x.reply) ++ []) ∙ append-nil (reply_text x.reply))) front;
    moved = subst (λ acts. Moved facts s acts t) (sym (append-nil (acts_of x))) moved;
    answered = (answered, tt);
  }

  -- no request, and a front of this text was written at the end
  abbrev pub run_closed : (s : S) (p q : Place) (text out : List ℕ) → p.next ≡ q.next → q.written ≡ append_known p.written out
      → IsPrefix out text → SessionRun facts s p s q
  run_closed s p q text out e wrote front = record {
    exchanges = [];
    out = out;
    closing = text;
    read = e ∙ sym (prepend_none q.next);
    wrote = wrote;
    front = front;
    moved = moved_none facts s;
    answered = tt;
  }

  pub going_none : (s : S) (p : Place) (cores : List CallerCore) → Going facts s p s p 0 cores cores
  going_none s p cores = record {
    run = run_still s p p refl refl;
    closing = refl;
    all = refl;
    whole = tt;
    stay = tt;
    counted = refl;
    kept = keeps_none cores;
  }

  pub going_more : (s t u : S) (p q r : Place) (count : ℕ) (a b c : List CallerCore) → Going facts s p t q count a b
      → Going facts t q u r 1 b c → Going facts s p u r (count + 1) a c
  going_more s t u p q r count a b c one two =
      record {
        run = run_append s t u p q r one.run two.run one.all;
        closing = two.closing;
        all = ap (λ (l : List ℕ). texts one.run.exchanges ++ l) two.all ∙ sym (texts_append one.run.exchanges two.run.exchanges);
        whole = all_append WasWhole one.run.exchanges two.run.exchanges one.whole two.whole;
        stay = none_append one.run.exchanges two.run.exchanges one.stay two.stay;
        counted = omega (arith, length-append one.run.exchanges two.run.exchanges, one.counted, two.counted);
        kept = subst (λ acts. KeepsUp a acts c) (sym (acts_append one.run.exchanges two.run.exchanges))
            (keeps_append a b c (all_acts one.run.exchanges) (all_acts two.run.exchanges) one.kept two.kept);
      }

  pub going_ends : (s t u : S) (p q : Place) (new : Ends) (ended : SessionEnd) (count : ℕ) (a b c : List CallerCore)
      → Going facts s p t q count a b → IsTurnEnd ended → SessionEnds facts t q ended u new b c → SessionEnds facts s p ended u new a c
  going_ends s t u p q new ended count a b c one turn last =
      record {
        tail = last.tail;
        run = run_append s t u p q (place last.tail new) one.run last.run one.all;
        requests = requests_append ((last.tail ≡ []) × NothingLeft new.reads.known) one.run.exchanges last.run.exchanges one.whole last.requests;
        is = end_append ended one.run.exchanges last.run.exchanges last.run.out last.run.closing last.tail new.reads.known turn one.stay last.is;
        kept = subst (λ acts. KeepsUp a acts c) (sym (acts_append one.run.exchanges last.run.exchanges))
            (keeps_append a b c (all_acts one.run.exchanges) (all_acts last.run.exchanges) one.kept last.kept);
      }

  pub going_spent : (s t : S) (p : Place) (ahead : List ℕ) (new : Ends) (count : ℕ) (a b : List CallerCore)
      → Going facts s p t (place ahead new) count a b → count ≡ MOST_REQUESTS → SessionEnds facts s p end.Spent t new a b
  going_spent s t p ahead new count a b one full = record {
    tail = ahead;
    run = one.run;
    requests = requests_whole ((ahead ≡ []) × NothingLeft new.reads.known) one.run.exchanges one.whole;
    is = (one.closing, one.all, one.stay, one.counted ∙ full);
    kept = one.kept;
  }

  -- memory was refused before the first read
  pub ending_none : (s : S) (old : Ends) (cores : List CallerCore) → SessionEnds facts s (place [] old) end.NoMemory s old cores cores
  ending_none s old cores = record {
    tail = [];
    run = run_still s (place [] old) (place [] old) refl refl;
    requests = tt;
    is = (refl, refl, refl, refl);
    kept = keeps_none cores;
  }
