-- What holds of a dictionary after one more event of it.
use Rattle.std.proofs.Common.{◌≡◌, ℕ, ◌+◌, ◌<◌, ◌≤◌, zero, suc, List, [], ◌∷◌, ◌++◌, length, map, Some, None, pos, negsuc, nat_eq, nat_le, Bool, true, false, if◌then◌else◌, refl, sym, ◌∙◌, ap, subst, inl, inr, arith, length-append, All}
use Rattle.std.specs.List.{range_with_len}
use Rattle.std.specs.List.Sorted.{IsStrictlyIncreasing}
use Rattle.std.proofs.lemmas.Bool.Decides.{nat_tests}
use Rattle.std.proofs.lemmas.List.{append-nil, map-append, length_push, nil_from_length}
use Rattle.std.proofs.lemmas.List.Elements.{All-nil, All-push, All-weaker, All-map}
use Rattle.std.proofs.lemmas.Option.{same_Some}
use Rattle.dict_value.specs.declared.fault.Cause.{Cause}
use Rattle.dict_value.specs.declared.fault.Exit.TheVariants.{Code, Killed}
use Rattle.load_core.specs.declared.dictionary.DictEffect.{DictEffect}
use Rattle.load_core.specs.declared.dictionary.DictEffect.TheVariants as effect
use Rattle.load_core.specs.declared.dictionary.DictEvent.{DictEvent}
use Rattle.load_core.specs.declared.dictionary.DictEvent.TheVariants as core
use Rattle.load_core.specs.declared.dictionary.Ending.{Ending}
use Rattle.load_core.specs.declared.dictionary.Ending.TheVariants.{Rows, Failed}
use Rattle.load_core.specs.declared.dictionary.Phase.TheVariants.{Idle, Reading, Ready, ToPost}
use Rattle.load_core.specs.declared.world.Ended.{Ended}
use Rattle.load_core.specs.declared.world.Ended.TheVariants.{Whole, Broken, TimedOut, TooLong, NotStarted, NoMemory}
use Rattle.load_core.specs.declared.world.WorldEvent.{WorldEvent}
use Rattle.load_core.specs.declared.world.WorldEvent.TheVariants.{Start, StartWith, Piece, Finish, Publish, Post}
use Rattle.load_core.specs.declared.world.WorldEntry.{WorldEntry}
use Rattle.load_core.specs.declared.world.WorldDict.{WorldDict}
use Rattle.load_core.specs.declared.world.World.{World}
use Rattle.load_core.specs.DictSteps.{most_loads, DictStepped, risen, refused, stepped}
use Rattle.load_core.specs.WorldSteps.{most_bytes, Verdicts, Candidate, Finishes, FinishesIn, TakesEvent, DictStep, IsAnswered, WorldStep, Run, counted, definition_for, dict_at, entry_of, loaded}
use Rattle.load_core.specs.Laws.{running, entries_in, with_piece, IsNoFinish, IsNoPublish, BeginsWith, IsOfOneLoad, newest_definition}
use Rattle.load_core.proofs.Dictionaries.{IsReading, IsReady, LoadIs, OneLoadOf, IsSound, reading_more, loads_more, sound_same}
use Rattle.load_core.proofs.Lists.{range_push, rising_push, split_push}
use Rattle.load_core.proofs.Rows.{begun, taken, read, failed, published, posted, start_row, piece_row, rows_row, failed_row, publish_row, post_row, dict_refused, finishes_running, after_step}

-- only a whole output with status 0 that the judge accepts has rows
rows_finish : (judges : Verdicts) (load : Candidate) (ended : Ended) → Finishes judges load ended Rows → (ended ≡ Whole (Code (pos 0))) × judges load None
rows_finish judges load NotStarted h = cc
rows_finish judges load Broken h = cc
rows_finish judges load TimedOut h = cc
rows_finish judges load (TooLong limit) h = cc
rows_finish judges load (Whole (Code (pos zero))) h = (refl, h)
rows_finish judges load (Whole (Code (pos (suc n)))) h = cc
rows_finish judges load (Whole (Code (negsuc n))) h = cc
rows_finish judges load (Whole Killed) h = cc
rows_finish judges load NoMemory h = cc

-- the definition of one more entry is the newest
newest_push : (place : ℕ) (entries : List WorldEntry) (entry : WorldEntry) → newest_definition place (entries ++ entry ∷ []) ≡ entry.definition
newest_push place [] entry = refl
newest_push place (e ∷ entries) entry = newest_push e.definition entries entry

-- a count that can rise
risen_is : (n : ℕ) → n ≤ most_loads → risen n ≡ n + 1
risen_is n h = omega arith

-- what a piece joins to, by what it counts
piece_taken : (d : ℕ) (bytes piece : List ℕ) → 0 < counted bytes piece → with_piece d bytes (Piece d piece) ≡ bytes ++ piece
piece_taken d bytes piece h = go (nat_le (length bytes + length piece) most_bytes) refl (nat_eq d d) (grind (arith, nat_tests))
  where
    go : (b : Bool) → nat_le (length bytes + length piece) 4294967295 ≡ b → (s : Bool) → nat_eq d d ≡ true → with_piece d bytes (Piece d piece) ≡ bytes ++ piece
    go true e s same = rw (same, e) refl
    go false e s same = absurd (let k : 0 < 0 = subst (λ (n : ℕ). 0 < n) (ap (λ b. if b then length piece else 0) e) h in omega arith)

piece_short : (bytes piece : List ℕ) → 0 < counted bytes piece → length (bytes ++ piece) ≤ most_bytes
piece_short bytes piece h = go (nat_le (length bytes + length piece) most_bytes) refl
  where
    go : (b : Bool) → nat_le (length bytes + length piece) 4294967295 ≡ b → length (bytes ++ piece) ≤ most_bytes
    go true e = rw (length-append bytes piece) (grind (arith, nat_tests))
    go false e = absurd (let k : 0 < 0 = subst (λ (n : ℕ). 0 < n) (ap (λ b. if b then length piece else 0) e) h in omega arith)

piece_left : (d : ℕ) (bytes piece : List ℕ) → counted bytes piece ≡ 0 → with_piece d bytes (Piece d piece) ≡ bytes
piece_left d bytes piece h = go (nat_le (length bytes + length piece) most_bytes) refl (grind (arith, nat_tests))
  where
    go : (b : Bool) → nat_le (length bytes + length piece) 4294967295 ≡ b → nat_eq d d ≡ true → with_piece d bytes (Piece d piece) ≡ bytes
    go true e same =
        rw (same, e) (ap (λ xs. bytes ++ xs) (nil_from_length piece (sym (ap (λ b. if b then length piece else 0) e) ∙ h)) ∙ append-nil bytes)
    go false e same = rw (same, e) refl

module _ (judges : Verdicts) (first : World) (past : List WorldEvent) (now next : World) (d : ℕ) (x : WorldDict) (h : IsSound judges first past now d x) (run : Run judges first past now) (found : dict_at now d ≡ Some x) where
  -- the loads of the entries so far, after one more event
  still : (event : WorldEvent) → WorldStep judges now event next → OneLoadOf judges first (past ++ event ∷ []) next d x.entries
  still event s = loads_more judges first past now d event next s x.entries h.one_load

  sound_begun : (event : WorldEvent) → x.core.phase ≡ Idle → x.core.loads < most_loads → WorldStep judges now event next → (a : IsAnswered judges now d event (effect.Begun (x.core.loads + 1)) next) → BeginsWith d a.before event (definition_for x event) → IsSound judges first (past ++ event ∷ []) next d (after_step x event (begun x.core))
  sound_begun event e l s a begins =
      let idle : running x.core.phase ≡ 0 = ap running e in record {
        current = h.current;
        published = h.published;
        oks = h.oks;
        loads = omega (arith, h.loads);
        bound = omega arith;
        posted = h.posted;
        numbers = h.numbers;
        rising = h.rising;
        below = All-weaker (λ (entry : WorldEntry). entry.load + running x.core.phase ≤ x.core.loads) (λ entry. entry.load + 1 ≤ x.core.loads + 1) (λ entry k. omega arith) x.entries h.below;
        one_load = still event s;
        short = omega arith;
        load = record {
          opening = event;
          earlier = past;
          reading = [];
          idle = now;
          begun = next;
          order = refl;
          run = run;
          start = a;
          begins = begins;
          pieces = refl;
          one_finish = All-nil (IsNoFinish d);
          taken = refl;
        };
      }

  sound_taken : (piece : List ℕ) → x.core.phase ≡ Reading → 0 < counted x.bytes piece → WorldStep judges now (Piece d piece) next → IsSound judges first (past ++ Piece d piece ∷ []) next d (after_step x (Piece d piece) (taken x.core))
  sound_taken piece e l s = record {
    current = h.current;
    published = h.published;
    oks = h.oks;
    loads = h.loads;
    bound = h.bound;
    posted = h.posted;
    numbers = h.numbers;
    rising = h.rising;
    below = h.below;
    one_load = still (Piece d piece) s;
    short = piece_short x.bytes piece l;
    load = subst (LoadIs judges first (past ++ Piece d piece ∷ []) next d x.core.loads x.loading (x.bytes ++ piece) x.entries) (sym e)
        (reading_more judges first past now d x.core.loads x.loading x.bytes (x.bytes ++ piece) (Piece d piece) next (subst (LoadIs judges first past now d x.core.loads x.loading x.bytes x.entries) e h.load) s tt (piece_taken d x.bytes piece l));
  }

  sound_read : x.core.phase ≡ Reading → judges (loaded x) None → IsAnswered judges now d (Finish d (Whole (Code (pos 0)))) effect.Ready next → IsSound judges first (past ++ Finish d (Whole (Code (pos 0))) ∷ []) next d (after_step x (Finish d (Whole (Code (pos 0)))) (read x.core))
  sound_read e accepted a =
      let r : IsReading judges first past now d x.core.loads x.loading x.bytes = subst (LoadIs judges first past now d x.core.loads x.loading x.bytes x.entries) e h.load in
      let reading : running x.core.phase ≡ 1 = ap running e in record {
        current = h.current;
        published = h.published;
        oks = h.oks;
        loads = omega (arith, h.loads);
        bound = h.bound;
        posted = h.posted;
        numbers = h.numbers;
        rising = h.rising;
        below = All-weaker (λ (entry : WorldEntry). entry.load + running x.core.phase ≤ x.core.loads) (λ entry. entry.load + 1 ≤ x.core.loads) (λ entry k. omega arith) x.entries h.below;
        one_load = still (Finish d (Whole (Code (pos 0)))) (inl (effect.Ready, a));
        short = h.short;
        load = record {
          opening = r.opening;
          earlier = r.earlier;
          reading = r.reading;
          ready = [];
          idle = r.idle;
          begun = r.begun;
          read = now;
          finished = next;
          order = ap (λ xs. xs ++ Finish d (Whole (Code (pos 0))) ∷ []) r.order;
          run = r.run;
          start = r.start;
          begins = r.begins;
          pieces = r.pieces;
          one_finish = r.one_finish;
          taken = r.taken;
          finish = a;
          list = ap entries_in found;
          accepted = accepted;
          waiting = refl;
          one_publish = All-nil (IsNoPublish d);
        };
      }

  sound_failed : (why : Cause) (ended : Ended) → running x.core.phase ≡ 1 → WorldStep judges now (Finish d ended) next → IsSound judges first (past ++ Finish d ended ∷ []) next d (after_step x (Finish d ended) (failed x.core why))
  sound_failed why ended e s =
      let fails : risen x.core.fails ≡ x.core.fails + 1 = risen_is x.core.fails (omega (arith, h.loads, h.bound)) in record {
        current = h.current;
        published = h.published;
        oks = h.oks;
        loads = rw fails (omega (arith, h.loads));
        bound = h.bound;
        posted = h.posted;
        numbers = h.numbers;
        rising = h.rising;
        below = All-weaker (λ (entry : WorldEntry). entry.load + running x.core.phase ≤ x.core.loads) (λ entry. entry.load + 0 ≤ x.core.loads) (λ entry k. omega arith) x.entries h.below;
        one_load = still (Finish d ended) s;
        short = h.short;
        load = tt;
      }

  sound_published : x.core.phase ≡ Ready → IsAnswered judges now d (Publish d) (effect.Published (risen x.core.published)) next → IsSound judges first (past ++ Publish d ∷ []) next d (after_step x (Publish d) (published x.core))
  sound_published e a =
      let r : IsReady judges first past now d x.core.loads x.loading x.bytes x.entries = subst (LoadIs judges first past now d x.core.loads x.loading x.bytes x.entries) e h.load in
      let ready : running x.core.phase ≡ 1 = ap running e in
      let oks : risen x.core.oks ≡ x.core.oks + 1 = risen_is x.core.oks (omega (arith, h.loads, h.bound)) in
      let number : risen x.core.published ≡ x.core.published + 1 = risen_is x.core.published (omega (arith, h.loads, h.bound, h.oks, h.published)) in
      let entry : WorldEntry = entry_of x (risen x.core.published) in
      let next_number : risen x.core.published ≡ 1 + length x.entries = omega (arith, number, h.published) in
      let longer : suc (length x.entries) ≡ length (x.entries ++ entry ∷ []) = omega (arith, length_push x.entries entry) in record {
        current = sym (newest_push d x.entries entry);
        published = number ∙ ap (λ n. n + 1) h.published ∙ sym (length_push x.entries entry);
        oks = oks ∙ ap (λ n. n + 1) h.oks ∙ sym (length_push x.entries entry);
        loads = rw oks (omega (arith, h.loads));
        bound = h.bound;
        posted = omega (arith, h.posted, length_push x.entries entry);
        numbers = map-append (λ (e : WorldEntry). e.number) x.entries (entry ∷ []) ∙ ap (λ ks. ks ++ risen x.core.published ∷ []) h.numbers ∙ ap (λ k. range_with_len 1 (length x.entries) ++ k ∷ []) next_number ∙ sym (range_push 1 (length x.entries)) ∙ ap (range_with_len 1) longer;
        rising = subst IsStrictlyIncreasing (sym (map-append (λ (e : WorldEntry). e.load) x.entries (entry ∷ []))) (rising_push (map (λ e. e.load) x.entries) x.core.loads h.rising (All-map (λ n. n < x.core.loads) (λ (e : WorldEntry). e.load) x.entries (All-weaker (λ (e : WorldEntry). e.load + running x.core.phase ≤ x.core.loads) (λ e. e.load < x.core.loads) (λ e k. omega arith) x.entries h.below)));
        below = All-push (λ (e : WorldEntry). e.load + 0 ≤ x.core.loads) x.entries entry (All-weaker (λ (e : WorldEntry). e.load + running x.core.phase ≤ x.core.loads) (λ e. e.load + 0 ≤ x.core.loads) (λ e k. omega arith) x.entries h.below) (omega arith);
        one_load = λ before after other split. elim (split_push x.entries entry before after other split) [
          | inl old ↦ still (Publish d) (inl (effect.Published (risen x.core.published), a)) before old.0 other old.1
          | inr new ↦ rw (new.0, new.1) (record {
            opening = r.opening;
            earlier = r.earlier;
            reading = r.reading;
            ready = r.ready;
            later = [];
            idle = r.idle;
            begun = r.begun;
            read = r.read;
            finished = r.finished;
            unpublished = now;
            published = next;
            order = ap (λ xs. xs ++ Publish d ∷ []) r.order;
            run = r.run;
            start = r.start;
            definition = r.begins;
            pieces = r.pieces;
            one_finish = r.one_finish;
            bytes = r.taken;
            finish = r.finish;
            list = r.list;
            accepted = r.accepted;
            waiting = r.waiting;
            one_publish = r.one_publish;
            publish = a;
            after = refl;
          })
        ];
        short = h.short;
        load = tt;
      }

  sound_posted : x.core.phase ≡ ToPost → WorldStep judges now (Post d) next → IsSound judges first (past ++ Post d ∷ []) next d (after_step x (Post d) (posted x.core))
  sound_posted e s =
      let ended : running x.core.phase ≡ 0 = ap running e in record {
        current = h.current;
        published = h.published;
        oks = h.oks;
        loads = omega (arith, h.loads);
        bound = h.bound;
        posted = omega arith;
        numbers = h.numbers;
        rising = h.rising;
        below = All-weaker (λ (entry : WorldEntry). entry.load + running x.core.phase ≤ x.core.loads) (λ entry. entry.load + 0 ≤ x.core.loads) (λ entry k. omega arith) x.entries h.below;
        one_load = still (Post d) s;
        short = h.short;
        load = tt;
      }

  -- an event that is refused leaves the dictionary
  sound_refused : (event : WorldEvent) (y : WorldDict) → WorldStep judges now event next → y ≡ x → (x.core.phase ≡ Reading → IsNoFinish d event × (with_piece d x.bytes event ≡ x.bytes)) → (x.core.phase ≡ Ready → IsNoPublish d event) → IsSound judges first (past ++ event ∷ []) next d y
  sound_refused event y s e reads waits =
      subst (IsSound judges first (past ++ event ∷ []) next d) (sym e) (sound_same judges first past now d x event next h s reads waits)

  -- the dictionary is as a row of the table says
  sound_by : (event : WorldEvent) (taken : DictEvent) (answer : DictEffect) (y : WorldDict) (s : DictStepped) → TakesEvent x event taken answer y → stepped x.core taken ≡ s → (answer ≡ s.effect → IsSound judges first (past ++ event ∷ []) next d (after_step x event s)) → IsSound judges first (past ++ event ∷ []) next d y
  sound_by event taken answer y s t e k =
      subst (IsSound judges first (past ++ event ∷ []) next d) (sym (t.leaves ∙ ap (after_step x event) e)) (k (t.answers ∙ ap (λ s. s.effect) e))

  left_by : (event : WorldEvent) (taken : DictEvent) (answer : DictEffect) (y : WorldDict) → TakesEvent x event taken answer y → stepped x.core taken ≡ refused x.core → y ≡ x
  left_by event taken answer y t e = t.leaves ∙ dict_refused x event taken (ap (λ s. s.effect) e)

  -- a load begins, or the event is refused
  sound_opening : (event : WorldEvent) (y : WorldDict) (answer : DictEffect) → WorldStep judges now event next → TakesEvent x event core.Start answer y → IsAnswered judges now d event answer next → ((z : WorldDict) → z ≡ x → BeginsWith d z event (definition_for x event)) → IsNoFinish d event × (with_piece d x.bytes event ≡ x.bytes) → IsNoPublish d event → IsSound judges first (past ++ event ∷ []) next d y
  sound_opening event y answer s t a begins reads waits =
      elim (start_row x.core) [
        | inl r ↦ sound_by event core.Start answer y (begun x.core) t r.2 (λ e. let b : IsAnswered judges now d event (effect.Begun (x.core.loads + 1)) next = subst (λ (k : DictEffect). IsAnswered judges now d event k next) e a in
            sound_begun event r.0 r.1 s b (begins b.before (same_Some b.before x (sym b.found ∙ found))))
        | inr r ↦ sound_refused event y s (left_by event core.Start answer y t r) (λ e. reads) (λ e. waits)
      ]

  pub sound_start : (y : WorldDict) (answer : DictEffect) → DictStep judges x (Start d) answer y → IsAnswered judges now d (Start d) answer next → IsSound judges first (past ++ Start d ∷ []) next d y
  sound_start y answer t a =
      sound_opening (Start d) y answer (inl (answer, a)) t a (λ z e. (refl, ap (λ (w : WorldDict). w.definition) (sym e))) (tt, refl) tt

  pub sound_start_with : (definition : ℕ) (y : WorldDict) (answer : DictEffect) → WorldStep judges now (StartWith d definition) next → DictStep judges x (StartWith d definition) answer y → IsAnswered judges now d (StartWith d definition) answer next → IsSound judges first (past ++ StartWith d definition ∷ []) next d y
  sound_start_with definition y answer s t a =
      sound_opening (StartWith d definition) y answer s t a (λ z e. (refl, refl)) (tt, refl) tt

  pub sound_piece : (piece : List ℕ) (y : WorldDict) (answer : DictEffect) → DictStep judges x (Piece d piece) answer y → IsAnswered judges now d (Piece d piece) answer next → IsSound judges first (past ++ Piece d piece ∷ []) next d y
  sound_piece piece y answer t a =
      elim (piece_row x.core (counted x.bytes piece)) [
        | inl r ↦ sound_by (Piece d piece) (core.Piece (counted x.bytes piece)) answer y (taken x.core) t r.2 (λ e. sound_taken piece r.0 r.1 (inl (answer, a)))
        | inr r ↦ sound_refused (Piece d piece) y (inl (answer, a)) (left_by (Piece d piece) (core.Piece (counted x.bytes piece)) answer y t r.0) (λ e. (tt, piece_left d x.bytes piece (r.1 e))) (λ e. tt)
      ]

  pub sound_finish : (ended : Ended) (y : WorldDict) (answer : DictEffect) → DictStep judges x (Finish d ended) answer y → IsAnswered judges now d (Finish d ended) answer next → IsSound judges first (past ++ Finish d ended ∷ []) next d y
  sound_finish ended y answer t a = go t.0 t.1 t.2
    where
      rows : FinishesIn x.core.phase judges (loaded x) ended Rows → TakesEvent x (Finish d ended) (core.Finish Rows) answer y → IsSound judges first (past ++ Finish d ended ∷ []) next d y
      rows f u =
          elim (rows_row x.core) [
            | inl r ↦ (let k = rows_finish judges (loaded x) ended (finishes_running x.core.phase judges (loaded x) ended Rows (ap running r.0) f) in sound_by (Finish d ended) (core.Finish Rows) answer y (read x.core) u r.1 (λ e.
                subst (λ (n : Ended). IsSound judges first (past ++ Finish d n ∷ []) next d (after_step x (Finish d n) (read x.core))) (sym k.0)
                (sound_read r.0 k.1 (subst (λ (n : Ended). IsAnswered judges now d (Finish d n) effect.Ready next) k.0 (subst (λ (f : DictEffect). IsAnswered judges now d (Finish d ended) f next) e a)))))
            | inr r ↦ sound_refused (Finish d ended) y (inl (answer, a)) (left_by (Finish d ended) (core.Finish Rows) answer y u r.0) (λ e. absurd (r.1 e)) (λ e. tt)
          ]

      go : (ending : Ending) → FinishesIn x.core.phase judges (loaded x) ended ending → TakesEvent x (Finish d ended) (core.Finish ending) answer y → IsSound judges first (past ++ Finish d ended ∷ []) next d y
      go Rows f u = rows f u
      go (Failed why) f u =
          elim (failed_row x.core why) [
            | inl r ↦ sound_by (Finish d ended) (core.Finish (Failed why)) answer y (failed x.core why) u r.1 (λ e. sound_failed why ended r.0 (inl (answer, a)))
            | inr r ↦ sound_refused (Finish d ended) y (inl (answer, a)) (left_by (Finish d ended) (core.Finish (Failed why)) answer y u r.0) (λ e. absurd (r.1 e)) (λ e. tt)
          ]

  pub sound_publish : (y : WorldDict) (answer : DictEffect) → DictStep judges x (Publish d) answer y → IsAnswered judges now d (Publish d) answer next → IsSound judges first (past ++ Publish d ∷ []) next d y
  sound_publish y answer t a =
      elim (publish_row x.core) [
        | inl r ↦ sound_by (Publish d) core.Publish answer y (published x.core) t r.1 (λ e. sound_published r.0 (subst (λ (k : DictEffect). IsAnswered judges now d (Publish d) k next) e a))
        | inr r ↦ sound_refused (Publish d) y (inl (answer, a)) (left_by (Publish d) core.Publish answer y t r.0) (λ e. (tt, refl)) (λ e. absurd (r.1 e))
      ]

  pub sound_post : (y : WorldDict) (answer : DictEffect) → DictStep judges x (Post d) answer y → IsAnswered judges now d (Post d) answer next → IsSound judges first (past ++ Post d ∷ []) next d y
  sound_post y answer t a =
      elim (post_row x.core) [
        | inl r ↦ sound_by (Post d) core.Post answer y (posted x.core) t r.1 (λ e. sound_posted r.0 (inl (answer, a)))
        | inr r ↦ sound_refused (Post d) y (inl (answer, a)) (left_by (Post d) core.Post answer y t r) (λ e. (tt, refl)) (λ e. tt)
      ]
