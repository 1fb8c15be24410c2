-- What holds of a world after every list of events.
use Rattle.std.proofs.Common.{◌≡◌, ◌≢◌, ℕ, ◌+◌, ◌≤◌, zero, suc, List, [], ◌∷◌, ◌++◌, length, replicate, Option, Some, None, nat_eq, false, refl, sym, ◌∙◌, ap, subst, inl, inr, arith, append_assoc, length-append, option_map, unwrap_or, slice_get}
use Rattle.std.specs.List.{range_with_len}
use Rattle.std.proofs.lemmas.Bool.{cases_eq}
use Rattle.std.proofs.lemmas.Bool.Decides.{nat_tests}
use Rattle.std.proofs.lemmas.List.{append-nil}
use Rattle.std.proofs.lemmas.List.Elements.{All-nil}
use Rattle.std.proofs.lemmas.Option.{none-some, same_Some, slice_get-map}
use Rattle.load_core.specs.declared.dictionary.DictEffect.{DictEffect}
use Rattle.load_core.specs.declared.dictionary.DictEffect.TheVariants as effect
use Rattle.load_core.specs.declared.dictionary.DictEvent.{DictEvent}
use Rattle.load_core.specs.declared.world.WorldEvent.{WorldEvent}
use Rattle.load_core.specs.declared.world.WorldEvent.TheVariants.{Start, StartWith, Piece, Finish, Publish, Post, Enter, Learn}
use Rattle.load_core.specs.declared.world.WorldDict.{WorldDict}
use Rattle.load_core.specs.declared.world.WorldCaller.{WorldCaller}
use Rattle.load_core.specs.declared.world.World.{World}
use Rattle.load_core.specs.DictSteps.{stepped}
use Rattle.load_core.specs.WorldSteps.{Verdicts, TakesEvent, DictStep, DictEvents, NamingEvents, CallerEvents, WorldStep, Run, kept_after, dict_at, caller_at, entered, learnt, entry_of, empty_dict, empty_caller, empty_world}
use Rattle.load_core.specs.Laws.{with_piece, entries_in, entries_of}
use mathlib.Core.List.{IsPrefix}
use Rattle.load_core.proofs.Callers.{IsInformed, informed_same, informed_told, informed_shown, last_number_is}
use Rattle.load_core.proofs.Dictionaries.{IsSound, sound_same}
use Rattle.load_core.proofs.DictionarySteps.{sound_start, sound_start_with, sound_piece, sound_finish, sound_publish, sound_post}
use Rattle.load_core.proofs.Lists.{nil_split}
use Rattle.load_core.proofs.Places.{dict_at-with_same, dict_at-with_other}
use Rattle.load_core.proofs.Runs.{run_more, at_dict, caller_turn, CallerTurn, IsShown, IsTold}

-- what an answer keeps begins with the entries so far
kept_grows : (x : WorldDict) (event : WorldEvent) (answer : DictEffect) → IsPrefix x.entries (kept_after x event answer).entries
kept_grows x event (effect.Begun load) = ([], append-nil x.entries)
kept_grows x event effect.Taken = ([], append-nil x.entries)
kept_grows x event effect.Ready = ([], append-nil x.entries)
kept_grows x event effect.Failing = ([], append-nil x.entries)
kept_grows x event (effect.Published number) = (entry_of x number ∷ [], refl)
kept_grows x event effect.Posted = ([], append-nil x.entries)
kept_grows x event effect.Refused = ([], append-nil x.entries)

takes_grows : (x : WorldDict) (event : WorldEvent) (taken : DictEvent) (answer : DictEffect) (y : WorldDict) → TakesEvent x event taken answer y → IsPrefix x.entries y.entries
takes_grows x event taken answer y t =
    subst (λ (z : WorldDict). IsPrefix x.entries z.entries) (sym t.leaves) (kept_grows x event (stepped x.core taken).effect)

-- an event of callers leaves the dictionaries
pub caller_event_dicts : (old new : World) (c d : ℕ) (becomes : WorldCaller → WorldDict → WorldCaller) → CallerEvents old c d becomes new → (e : ℕ) → dict_at new e ≡ dict_at old e
caller_event_dicts old new c d becomes (inl i) e = ap (λ (w : World). dict_at w e) i.rest
caller_event_dicts old new c d becomes (inr s) e = ap (λ (w : World). dict_at w e) s.1

same_prefix : (old new : World) (d : ℕ) → dict_at new d ≡ dict_at old d → IsPrefix (entries_of old d) (entries_of new d)
same_prefix old new d e = ([], append-nil (entries_of old d) ∙ sym (ap entries_in e))

piece_elsewhere : (d e : ℕ) (bytes piece : List ℕ) → e ≢ d → with_piece d bytes (Piece e piece) ≡ bytes
piece_elsewhere d e bytes piece n = let k : nat_eq e d ≡ false = grind (arith, nat_tests) in rw k refl

module _ (judges : Verdicts) where
  step_grows : (x : WorldDict) (event : WorldEvent) (answer : DictEffect) (y : WorldDict) → DictStep judges x event answer y → IsPrefix x.entries y.entries
  step_grows x (Start d) answer y t = takes_grows x _ _ answer y t
  step_grows x (StartWith d definition) answer y t = takes_grows x _ _ answer y t
  step_grows x (Piece d piece) answer y t = takes_grows x _ _ answer y t
  step_grows x (Finish d ended) answer y t = takes_grows x _ _ answer y t.2
  step_grows x (Publish d) answer y t = takes_grows x _ _ answer y t
  step_grows x (Post d) answer y t = takes_grows x _ _ answer y t
  step_grows x (Enter c d) answer y t = absurd t
  step_grows x (Learn c d) answer y t = absurd t

  dict_event_grows : (old new : World) (e : ℕ) (event : WorldEvent) → DictEvents judges old e event new → (d : ℕ) → IsPrefix (entries_of old d) (entries_of new d)
  dict_event_grows old new e event (inr h) d = same_prefix old new d (ap (λ (w : World). dict_at w d) h.1)
  dict_event_grows old new e event (inl h) d = let a = h.1 in elim (cases_eq e d) [
    | inl p ↦ (let before : dict_at old d ≡ Some a.before = ap (dict_at old) (sym p) ∙ a.found in
        let after : dict_at new d ≡ Some a.after = ap (dict_at new) (sym p) ∙ (ap (λ (w : World). dict_at w e) a.rest ∙ dict_at-with_same old e a.before a.after a.found) in
        subst (λ (o : Option WorldDict). IsPrefix (entries_in o) (entries_of new d)) (sym before) (subst (λ (o : Option WorldDict). IsPrefix a.before.entries (entries_in o)) (sym after) (step_grows a.before event h.0 a.after a.step)))
    | inr n ↦ same_prefix old new d (ap (λ (w : World). dict_at w d) a.rest ∙ dict_at-with_other old e d a.after n)
  ]

  naming_grows : (old new : World) (e definition : ℕ) (event : WorldEvent) → NamingEvents judges old e definition event new → (d : ℕ) → IsPrefix (entries_of old d) (entries_of new d)
  naming_grows old new e definition event (inl h) d = dict_event_grows old new e event h.1 d
  naming_grows old new e definition event (inr h) d = same_prefix old new d (ap (λ (w : World). dict_at w d) h.1)

  -- no event takes an entry away
  pub event_grows : (now : World) (event : WorldEvent) (next : World) → WorldStep judges now event next → (d : ℕ) → IsPrefix (entries_of now d) (entries_of next d)
  event_grows now (Start e) next s d = dict_event_grows now next e (Start e) s d
  event_grows now (StartWith e definition) next s d = naming_grows now next e definition (StartWith e definition) s d
  event_grows now (Piece e piece) next s d = dict_event_grows now next e (Piece e piece) s d
  event_grows now (Finish e ended) next s d = dict_event_grows now next e (Finish e ended) s d
  event_grows now (Publish e) next s d = dict_event_grows now next e (Publish e) s d
  event_grows now (Post e) next s d = dict_event_grows now next e (Post e) s d
  event_grows now (Enter a b) next s d = same_prefix now next d (caller_event_dicts now next a b entered s d)
  event_grows now (Learn a b) next s d = same_prefix now next d (caller_event_dicts now next a b learnt s d)

  -- nor does a run
  pub run_grows : (now : World) (events : List WorldEvent) (end : World) → Run judges now events end → (d : ℕ) → IsPrefix (entries_of now d) (entries_of end d)
  run_grows now [] end r d = same_prefix now end d (ap (λ (w : World). dict_at w d) r)
  run_grows now (e ∷ es) end r d =
      let one = event_grows now e r.0 r.1 d in
      let more = run_grows r.0 es end r.2 d in
      (one.0 ++ more.0, sym (append_assoc (entries_of now d) one.0 more.0) ∙ ap (λ xs. xs ++ more.0) one.1 ∙ more.1)

  longer : (now : World) (event : WorldEvent) (next : World) → WorldStep judges now event next → (d : ℕ) → length (entries_of now d) ≤ length (entries_of next d)
  longer now event next s d =
      let g = event_grows now event next s d in
      omega (arith, ap length g.1, length-append (entries_of now d) g.0)

module _ (judges : Verdicts) (first : World) where
  pub record IsSoundWorld (past : List WorldEvent) (now : World) : Type 0 where
    pub run : Run judges first past now
    pub dicts : (d : ℕ) (x : WorldDict) → dict_at now d ≡ Some x → IsSound judges first past now d x
    pub callers : (c d : ℕ) (u : WorldCaller) → caller_at now c d ≡ Some u → IsInformed judges first past now c d u

module _ (judges : Verdicts) (first : World) (past : List WorldEvent) (now next : World) (w : IsSoundWorld judges first past now) where
  dict_next : (event : WorldEvent) → WorldStep judges now event next → (d : ℕ) (z : WorldDict) → dict_at next d ≡ Some z → IsSound judges first (past ++ event ∷ []) next d z
  dict_next (Start e) s d z found =
      at_dict judges now next (λ n. Start n) e d z (λ event y. IsSound judges first (past ++ event ∷ []) next d y)
      (λ x f n. sound_same judges first past now d x (Start e) next (w.dicts d x f) s (λ q. (tt, refl)) (λ q. tt))
      (λ x y answer f t a. sound_start judges first past now next d x (w.dicts d x f) w.run f y answer t a) s found
  dict_next (StartWith e definition) (inl h) d z found =
      at_dict judges now next (λ n. StartWith n definition) e d z (λ event y. IsSound judges first (past ++ event ∷ []) next d y)
      (λ x f n. sound_same judges first past now d x (StartWith e definition) next (w.dicts d x f) (inl h) (λ q. (tt, refl)) (λ q. tt))
      (λ x y answer f t a. sound_start_with judges first past now next d x (w.dicts d x f) w.run f definition y answer (inl (h.0, inl (answer, a))) t a) h.1 found
  dict_next (StartWith e definition) (inr h) d z found =
      sound_same judges first past now d z (StartWith e definition) next (w.dicts d z (ap (λ (v : World). dict_at v d) (sym h.1) ∙ found)) (inr h) (λ q. (tt, refl)) (λ q. tt)
  dict_next (Piece e piece) s d z found =
      at_dict judges now next (λ n. Piece n piece) e d z (λ event y. IsSound judges first (past ++ event ∷ []) next d y)
      (λ x f n. sound_same judges first past now d x (Piece e piece) next (w.dicts d x f) s (λ q. (tt, piece_elsewhere d e x.bytes piece n)) (λ q. tt))
      (λ x y answer f t a. sound_piece judges first past now next d x (w.dicts d x f) w.run f piece y answer t a) s found
  dict_next (Finish e ended) s d z found =
      at_dict judges now next (λ n. Finish n ended) e d z (λ event y. IsSound judges first (past ++ event ∷ []) next d y)
      (λ x f n. sound_same judges first past now d x (Finish e ended) next (w.dicts d x f) s (λ q. (n, refl)) (λ q. tt))
      (λ x y answer f t a. sound_finish judges first past now next d x (w.dicts d x f) w.run f ended y answer t a) s found
  dict_next (Publish e) s d z found =
      at_dict judges now next (λ n. Publish n) e d z (λ event y. IsSound judges first (past ++ event ∷ []) next d y)
      (λ x f n. sound_same judges first past now d x (Publish e) next (w.dicts d x f) s (λ q. (tt, refl)) (λ q. n))
      (λ x y answer f t a. sound_publish judges first past now next d x (w.dicts d x f) w.run f y answer t a) s found
  dict_next (Post e) s d z found =
      at_dict judges now next (λ n. Post n) e d z (λ event y. IsSound judges first (past ++ event ∷ []) next d y)
      (λ x f n. sound_same judges first past now d x (Post e) next (w.dicts d x f) s (λ q. (tt, refl)) (λ q. tt))
      (λ x y answer f t a. sound_post judges first past now next d x (w.dicts d x f) w.run f y answer t a) s found
  dict_next (Enter a b) s d z found =
      sound_same judges first past now d z (Enter a b) next (w.dicts d z (sym (caller_event_dicts now next a b entered s d) ∙ found)) s (λ q. (tt, refl)) (λ q. tt)
  dict_next (Learn a b) s d z found =
      sound_same judges first past now d z (Learn a b) next (w.dicts d z (sym (caller_event_dicts now next a b learnt s d) ∙ found)) s (λ q. (tt, refl)) (λ q. tt)

  caller_next : (event : WorldEvent) → WorldStep judges now event next → (c d : ℕ) (v : WorldCaller) → caller_at next c d ≡ Some v → IsInformed judges first (past ++ event ∷ []) next c d v
  caller_next event s c d v found = go (caller_turn judges now event next s c d)
    where
      l : length (entries_of now d) ≤ length (entries_of next d)
      l = longer judges now event next s d

      shown : IsShown now event next c d → IsInformed judges first (past ++ event ∷ []) next c d v
      shown t =
          let is : entered t.caller t.dictionary ≡ v = same_Some _ _ (sym t.becomes ∙ found) in
          let list : entries_of now d ≡ t.dictionary.entries = ap entries_in t.found in
          let number = last_number_is t.dictionary.entries (w.dicts d t.dictionary t.found).numbers in
          subst (IsInformed judges first (past ++ event ∷ []) next c d) is
          (subst (λ (e : WorldEvent). IsInformed judges first (past ++ e ∷ []) next c d (entered t.caller t.dictionary)) (sym t.event_is)
          (informed_shown judges first past now next c d t.caller t.dictionary w.run t.found_caller (w.callers c d t.caller t.found_caller) (subst (λ (e : WorldEvent). WorldStep judges now e next) t.event_is s) l (number ∙ ap length (sym list))))

      told : IsTold now next c d → IsInformed judges first (past ++ event ∷ []) next c d v
      told t =
          let is : learnt t.caller t.dictionary ≡ v = same_Some _ _ (sym t.becomes ∙ found) in
          let list : entries_of now d ≡ t.dictionary.entries = ap entries_in t.found in
          subst (IsInformed judges first (past ++ event ∷ []) next c d) is
          (informed_told judges first past now event next c d t.caller t.dictionary (w.callers c d t.caller t.found_caller) s l (rw list (w.dicts d t.dictionary t.found).posted))

      go : CallerTurn now event next c d → IsInformed judges first (past ++ event ∷ []) next c d v
      go (inl same) = informed_same judges first past now event next c d v (w.callers c d v (sym same ∙ found)) s l
      go (inr (inl t)) = shown t
      go (inr (inr t)) = told t

  pub sound_next : (event : WorldEvent) → WorldStep judges now event next → IsSoundWorld judges first (past ++ event ∷ []) next
  sound_next event s = record {
    run = run_more judges first past now event next w.run s;
    dicts = dict_next event s;
    callers = caller_next event s;
  }

-- each dictionary of the empty world is empty, and has its place as its definition
range_at : (a n d k : ℕ) → slice_get (range_with_len a n) d ≡ Some k → k ≡ a + d
range_at a zero d k h = absurd (none-some k h)
range_at a (suc n) zero k h = let e : a ≡ k = same_Some a k h in omega arith
range_at a (suc n) (suc d) k h = omega (arith, range_at (a + 1) n d k h)

mapped : (o : Option ℕ) (x : WorldDict) → option_map empty_dict o ≡ Some x → (k : ℕ) × (o ≡ Some k) × (x ≡ empty_dict k)
mapped None x h = absurd (none-some x h)
mapped (Some k) x h = (k, refl, sym (same_Some (empty_dict k) x h))

empty_dict_at : (n g m d : ℕ) (x : WorldDict) → dict_at (empty_world n g m) d ≡ Some x → x ≡ empty_dict d
empty_dict_at n g m d x h =
    let k = mapped (slice_get (range_with_len 0 n) d) x (sym (slice_get-map empty_dict (range_with_len 0 n) d) ∙ h) in
    k.2 ∙ ap empty_dict (range_at 0 n d k.0 k.1 ∙ omega arith)

-- each caller of the empty world knows nothing
replicate_at : {A : Type 0} (n : ℕ) (x : A) (k : ℕ) (y : A) → slice_get (replicate n x) k ≡ Some y → x ≡ y
replicate_at zero x k y h = absurd (none-some y h)
replicate_at (suc n) x zero y h = same_Some x y h
replicate_at (suc n) x (suc k) y h = replicate_at n x k y h

empty_caller_at : (n g m c d : ℕ) (u : WorldCaller) → caller_at (empty_world n g m) c d ≡ Some u → empty_caller ≡ u
empty_caller_at n g m c d u h = go (slice_get (replicate m (replicate n empty_caller)) c) refl h
  where
    go : (o : Option (List WorldCaller)) → slice_get (replicate m (replicate n empty_caller)) c ≡ o → slice_get (unwrap_or o []) d ≡ Some u → empty_caller ≡ u
    go None e k = absurd (none-some u k)
    go (Some us) e k =
        replicate_at n empty_caller d u (subst (λ (xs : List WorldCaller). slice_get xs d ≡ Some u) (sym (replicate_at m (replicate n empty_caller) c us e)) k)

module _ (judges : Verdicts) where
  sound_empty : (n g m : ℕ) → IsSoundWorld judges (empty_world n g m) [] (empty_world n g m)
  sound_empty n g m = record {
    run = refl;
    dicts = λ d x found. subst (IsSound judges (empty_world n g m) [] (empty_world n g m) d) (sym (empty_dict_at n g m d x found)) (record {
      current = refl;
      published = refl;
      oks = refl;
      loads = refl;
      bound = omega arith;
      posted = omega arith;
      numbers = refl;
      rising = λ k l. absurd (omega arith);
      below = All-nil _;
      one_load = λ before after entry e. absurd (nil_split before after entry e);
      short = omega arith;
      load = tt;
    });
    callers = λ c d u found. subst (IsInformed judges (empty_world n g m) [] (empty_world n g m) c d) (empty_caller_at n g m c d u found) (record {
      floor = omega arith;
      below = All-nil _;
      ordered = λ i j d e l. absurd (omega arith);
      at_enter = λ k answer h. absurd (none-some answer h);
    });
  }

  pub sound_run : (first : World) (past : List WorldEvent) (now : World) (events : List WorldEvent) (end : World) → IsSoundWorld judges first past now → Run judges now events end → IsSoundWorld judges first (past ++ events) end
  sound_run first past now [] end w r =
      subst (λ (es : List WorldEvent). IsSoundWorld judges first es end) (sym (append-nil past)) (subst (IsSoundWorld judges first past) (sym r) w)
  sound_run first past now (e ∷ es) end w r =
      subst (λ (xs : List WorldEvent). IsSoundWorld judges first xs end) (append_assoc past (e ∷ []) es)
      (sound_run first (past ++ e ∷ []) r.0 es end (sound_next judges first past now r.0 w e r.1) r.2)

  -- every world that events lead to from the empty one is sound
  pub sound_world : (n g m : ℕ) (events : List WorldEvent) (now : World) → Run judges (empty_world n g m) events now → IsSoundWorld judges (empty_world n g m) events now
  sound_world n g m events now r = sound_run (empty_world n g m) [] (empty_world n g m) events now (sound_empty n g m) r
