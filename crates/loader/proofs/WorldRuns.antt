-- What a load does to its dictionary, as a run of the world.
use Rattle.std.proofs.Common.{◌≡◌, ◌<◌, ◌≤◌, ◌+◌, ◌∙◌, ◌⊎◌, ◌∷◌, ◌++◌, [], ℕ, zero, suc, List, Some, Ok, Err, Bool, true, false, length, map, refl, sym, ap, subst, inl, inr, arith, append_assoc, append-nil}
use Rattle.std.specs.Prelude.{pos, negsuc, nat_le, nat_lt, if◌then◌else◌}
use Rattle.std.specs.List.{All, AllByRecursion, concat}
use Rattle.std.proofs.lemmas.Bool.Decides.{nat_tests}
use Rattle.std.proofs.lemmas.List.{length-append, map-append}
use Rattle.std.proofs.lemmas.List.Elements.{recursion_from_All}
use Rattle.child_io.specs.Gathers.{outcome_of}
use Rattle.child_io.specs.declared.pieces.PieceEnd.{PieceEnd}
use Rattle.child_io.specs.declared.pieces.PieceEnd.TheVariants as piece_end
use Rattle.dict_schema.specs.declared.definition.Definition.{Definition}
use Rattle.dict_value.specs.declared.fault.Cause.{Cause}
use Rattle.dict_value.specs.declared.fault.Cause.TheVariants as cause
use Rattle.dict_value.specs.declared.fault.Exit.TheVariants.{Code, Killed}
use Rattle.dict_version.specs.Contents.{Contents}
use Rattle.load_core.proofs.Places.{dict_at-with_same}
use Rattle.load_core.proofs.Rows.{begun, failed, piece_row, posted, published, read, start_row, taken}
use Rattle.load_core.proofs.Runs.{run_more}
use Rattle.load_core.specs.DictSteps.{DictStepped, most_loads, refused, risen, row, stepped}
use Rattle.load_core.specs.WorldSteps.{Finishes, FinishesIn, Former, Run, TakesEvent, Verdicts, WorldStep, counted, dict_at, entry_of, formers, kept_after, loaded, most_bytes, with_dict}
use Rattle.load_core.specs.declared.dictionary.DictCore.{DictCore}
use Rattle.load_core.specs.declared.dictionary.DictEffect.TheVariants as effect
use Rattle.load_core.specs.declared.dictionary.DictEvent.{DictEvent}
use Rattle.load_core.specs.declared.dictionary.DictEvent.TheVariants as core
use Rattle.load_core.specs.declared.dictionary.Ending.TheVariants.{Rows, Failed}
use Rattle.load_core.specs.declared.dictionary.Phase.TheVariants.{Idle, Reading, Ready, ToPost}
use Rattle.load_core.specs.declared.world.Ended.{Ended as WorldEnded}
use Rattle.load_core.specs.declared.world.Ended.TheVariants as world
use Rattle.load_core.specs.declared.world.World.{World}
use Rattle.load_core.specs.declared.world.WorldDict.{WorldDict}
use Rattle.load_core.specs.declared.world.WorldEntry.{WorldEntry}
use Rattle.load_core.specs.declared.world.WorldEvent.{WorldEvent}
use Rattle.load_core.specs.declared.world.WorldEvent.TheVariants.{StartWith, Piece, Finish, Publish, Post}
use Rattle.packed_rows.specs.Columns.{RowList}
use Rattle.loader.proofs.CoreRuns.{past-pieces}
use Rattle.loader.specs.Events.{core_after, end_events, load_events, piece_events}
use Rattle.loader.specs.Loaders.{EndsLoad, version_of}
use Rattle.loader.specs.Origins.{Loads}
use Rattle.loader.specs.Worlds.{AreVersionsOf, LeadsTo, ended_of, load_verdicts, more, world_events}
use Rattle.loader.specs.declared.answers.LoadEnd.{LoadEnd}
use Rattle.loader.specs.declared.answers.LoadEnd.TheVariants as load

-- ---- one event after another, at one place

-- the events lead to a world where the dictionary at the place is this one
record Reaches (judges : Verdicts) (old : World) (place : ℕ) (events : List WorldEvent) (x : WorldDict) : Type 0 where
  now : World
  run : Run judges old events now
  found : dict_at now place ≡ Some x
  many : now.definitions ≡ old.definitions

-- what an event leaves whose effect is known
takes : (x : WorldDict) (event : WorldEvent) (by : DictEvent) (s : DictStepped) → stepped x.core by ≡ s → TakesEvent x event by (stepped x.core by).effect (record (kept_after x event s.effect) { core = s.core })
takes x event by s is = record {
  answers = refl;
  leaves = sym (ap (λ (t : DictStepped). record (kept_after x event t.effect) { core = t.core }) is);
}

module _ (judges : Verdicts) (old : World) (place : ℕ) where
  go-on : (events : List WorldEvent) (x y : WorldDict) (event : WorldEvent) → Reaches judges old place events x
      → ((now : World) → dict_at now place ≡ Some x → now.definitions ≡ old.definitions → WorldStep judges now event (with_dict now place y))
      → Reaches judges old place (events ++ event ∷ []) y
  go-on events x y event r step = record {
    now = with_dict r.now place y;
    run = run_more judges old events r.now event (with_dict r.now place y) r.run (step r.now r.found r.many);
    found = dict_at-with_same r.now place x y r.found;
    many = r.many;
  }

  -- a load begins
  abbrev started : WorldDict → ℕ → WorldDict
  started x number = record x { loading = number; bytes = []; core = (begun x.core).core }

  start : (x : WorldDict) (number : ℕ) → dict_at old place ≡ Some x → x.core.phase ≡ Idle → x.core.loads < most_loads → number < old.definitions → Reaches judges old place (StartWith place number ∷ []) (started x number)
  start x number found idle few low = go-on [] x (started x number) (StartWith place number) (record { now = old; run = refl; found = found; many = refl }) (λ now here many. inl (
    subst (λ (n : ℕ). number < n) (sym many) low,
    inl (
      (stepped x.core core.Start).effect,
      record {
        before = x;
        after = started x number;
        found = here;
        step = takes x (StartWith place number) core.Start (begun x.core) (is_begun (start_row x.core));
        rest = refl;
      },
    ),
  ))
    where
      by_test : (t : Bool) → nat_lt x.core.loads most_loads ≡ t → stepped x.core core.Start ≡ begun x.core
      by_test true is = ap (λ p. row p core.Start x.core) idle ∙ ap (λ b. if b then begun x.core else refused x.core) is
      by_test false is = absurd (let h : most_loads ≤ x.core.loads = grind (arith, nat_tests) in omega (arith, h, few))

      is_begun : ((x.core.phase ≡ Idle) × (x.core.loads < most_loads) × (stepped x.core core.Start ≡ begun x.core)) ⊎ (stepped x.core core.Start ≡ refused x.core) → stepped x.core core.Start ≡ begun x.core
      is_begun (inl h) = h.2
      is_begun (inr h) = absurd (
          let e : effect.Begun (x.core.loads + 1) ≡ effect.Refused = sym (ap (λ (s : DictStepped). s.effect) (by_test (nat_lt x.core.loads most_loads) refl)) ∙ ap (λ (s : DictStepped). s.effect) h in
          cc)

  -- a piece is read
  abbrev with_bytes : WorldDict → List ℕ → WorldDict
  with_bytes x bytes = record x { bytes = bytes }

  counted-is : (bytes piece : List ℕ) → length bytes + length piece ≤ most_bytes → counted bytes piece ≡ length piece
  counted-is bytes piece within = by_test (nat_le (length bytes + length piece) most_bytes) refl where
    by_test : (t : Bool) → nat_le (length bytes + length piece) most_bytes ≡ t → (if t then length piece else 0) ≡ length piece
    by_test true is = refl
    by_test false is = absurd (let h : most_bytes < length bytes + length piece = grind (arith, nat_tests) in omega (arith, h, within))

  piece : (events : List WorldEvent) (x : WorldDict) (bytes : List ℕ) → Reaches judges old place events x → x.core.phase ≡ Reading → 0 < length bytes → length x.bytes + length bytes ≤ most_bytes → Reaches judges old place (events ++ Piece place bytes ∷ []) (with_bytes x (x.bytes ++ bytes))
  piece events x bytes r reading some within = go-on events x (with_bytes x (x.bytes ++ bytes)) (Piece place bytes) r (λ now here many. inl (
    (stepped x.core (core.Piece (counted x.bytes bytes))).effect,
    record {
      before = x;
      after = with_bytes x (x.bytes ++ bytes);
      found = here;
      step = takes x (Piece place bytes) (core.Piece (counted x.bytes bytes)) (taken x.core) (is_taken (piece_row x.core (counted x.bytes bytes)));
      rest = refl;
    },
  ))
    where
      is_taken : ((x.core.phase ≡ Reading) × (0 < counted x.bytes bytes) × (stepped x.core (core.Piece (counted x.bytes bytes)) ≡ taken x.core)) ⊎ ((stepped x.core (core.Piece (counted x.bytes bytes)) ≡ refused x.core) × (x.core.phase ≡ Reading → counted x.bytes bytes ≡ 0)) → stepped x.core (core.Piece (counted x.bytes bytes)) ≡ taken x.core
      is_taken (inl h) = h.2
      is_taken (inr h) = absurd (let e = counted-is x.bytes bytes within in let z = h.1 reading in omega (arith, e, z, some))

  pieces : (events : List WorldEvent) (x : WorldDict) (list : List (List ℕ)) → Reaches judges old place events x → x.core.phase ≡ Reading → AllByRecursion (λ piece. 0 < length piece) list → length x.bytes + length (concat list) ≤ most_bytes → Reaches judges old place (events ++ map (Piece place) list) (with_bytes x (x.bytes ++ concat list))
  pieces events x [] r reading some within =
      subst (λ (es : List WorldEvent). Reaches judges old place es (with_bytes x (x.bytes ++ []))) (sym (append-nil events))
      (subst (λ (bytes : List ℕ). Reaches judges old place events (with_bytes x bytes)) (sym (append-nil x.bytes)) r)
  pieces events x (bytes ∷ list) r reading some within =
      let long : length (concat (bytes ∷ list)) ≡ length bytes + length (concat list) = length-append bytes (concat list) in
      let first = piece events x bytes r reading some.0 (omega (arith, within, long)) in
      let grown : length (x.bytes ++ bytes) ≡ length x.bytes + length bytes = length-append x.bytes bytes in
      let rest = pieces (events ++ Piece place bytes ∷ []) (with_bytes x (x.bytes ++ bytes)) list first reading some.1 (omega (arith, within, long, grown)) in
      subst (λ (es : List WorldEvent). Reaches judges old place es (with_bytes x (x.bytes ++ concat (bytes ∷ list)))) (append_assoc events (Piece place bytes ∷ []) (map (Piece place) list))
      (subst (λ (all : List ℕ). Reaches judges old place ((events ++ Piece place bytes ∷ []) ++ map (Piece place) list) (with_bytes x all)) (append_assoc x.bytes bytes (concat list)) rest)

  -- the child ends
  abbrev with_core : WorldDict → DictCore → WorldDict
  with_core x c = record x { core = c }

  finish_rows : (events : List WorldEvent) (x : WorldDict) (ended : WorldEnded) → Reaches judges old place events x → x.core.phase ≡ Reading → Finishes judges (loaded x) ended Rows → Reaches judges old place (events ++ Finish place ended ∷ []) (with_core x (read x.core).core)
  finish_rows events x ended r reading by = go-on events x (with_core x (read x.core).core) (Finish place ended) r (λ now here many. inl (
    (stepped x.core (core.Finish Rows)).effect,
    record {
      before = x;
      after = with_core x (read x.core).core;
      found = here;
      step = (Rows, subst (λ p. FinishesIn p judges (loaded x) ended Rows) (sym reading) by, takes x (Finish place ended) (core.Finish Rows) (read x.core) (ap (λ p. row p (core.Finish Rows) x.core) reading));
      rest = refl;
    },
  ))

  finish_failed : (events : List WorldEvent) (x : WorldDict) (ended : WorldEnded) (why : Cause) → Reaches judges old place events x → x.core.phase ≡ Reading → Finishes judges (loaded x) ended (Failed why) → Reaches judges old place (events ++ Finish place ended ∷ []) (with_core x (failed x.core why).core)
  finish_failed events x ended why r reading by = go-on events x (with_core x (failed x.core why).core) (Finish place ended) r (λ now here many. inl (
    (stepped x.core (core.Finish (Failed why))).effect,
    record {
      before = x;
      after = with_core x (failed x.core why).core;
      found = here;
      step = (Failed why, subst (λ p. FinishesIn p judges (loaded x) ended (Failed why)) (sym reading) by, takes x (Finish place ended) (core.Finish (Failed why)) (failed x.core why) (ap (λ p. row p (core.Finish (Failed why)) x.core) reading));
      rest = refl;
    },
  ))

  -- a version is published
  abbrev with_entry : WorldDict → WorldDict
  with_entry x = record x { definition = x.loading; entries = x.entries ++ entry_of x (risen x.core.published) ∷ []; core = (published x.core).core }

  publish : (events : List WorldEvent) (x : WorldDict) → Reaches judges old place events x → x.core.phase ≡ Ready → Reaches judges old place (events ++ Publish place ∷ []) (with_entry x)
  publish events x r ready = go-on events x (with_entry x) (Publish place) r (λ now here many. inl (
    (stepped x.core core.Publish).effect,
    record {
      before = x;
      after = with_entry x;
      found = here;
      step = takes x (Publish place) core.Publish (published x.core) (ap (λ p. row p core.Publish x.core) ready);
      rest = refl;
    },
  ))

  -- and told
  abbrev told : WorldDict → WorldDict
  told x = record x { posted = length x.entries; core = (posted x.core).core }

  post : (events : List WorldEvent) (x : WorldDict) → Reaches judges old place events x → x.core.phase ≡ ToPost → Reaches judges old place (events ++ Post place ∷ []) (told x)
  post events x r to_post = go-on events x (told x) (Post place) r (λ now here many. inl (
    (stepped x.core core.Post).effect,
    record {
      before = x;
      after = told x;
      found = here;
      step = takes x (Post place) core.Post (posted x.core) (ap (λ p. row p core.Post x.core) to_post);
      rest = refl;
    },
  ))

-- ---- how a load's child ends in the world

only-done : (d : Definition) (list : List Contents) (output : List ℕ) (ending : PieceEnd) (rows : RowList) → Loads d list (outcome_of ending output) (Ok rows) → ending ≡ piece_end.Ended (Code (pos zero))
only-done d list output piece_end.NotStarted rows (former, is, h) = cc
only-done d list output piece_end.WriteFailed rows (former, is, h) = absurd h
only-done d list output (piece_end.Cut timed_out) rows (former, is, h) = cc
only-done d list output piece_end.TooLong rows (former, is, h) = cc
only-done d list output piece_end.WaitFailed rows (former, is, h) = cc
only-done d list output (piece_end.Ended Killed) rows (former, is, h) = cc
only-done d list output (piece_end.Ended (Code (pos zero))) rows h = refl
only-done d list output (piece_end.Ended (Code (pos (suc n)))) rows (former, is, h) = cc
only-done d list output (piece_end.Ended (Code (negsuc n))) rows (former, is, h) = cc
only-done d list output piece_end.NoMemory rows (former, is, h) = absurd h

module _ (definition_of : ℕ → Definition) (x : WorldDict) (list : List Contents) (versions : AreVersionsOf definition_of (formers x.entries) list) where
  finishes-rows : (limit : ℕ) (ending : PieceEnd) (rows : RowList) → Loads (definition_of x.loading) list (outcome_of ending x.bytes) (Ok rows) → Finishes (load_verdicts definition_of) (loaded x) (ended_of limit ending) Rows
  finishes-rows limit ending rows h =
      let done = only-done (definition_of x.loading) list x.bytes ending rows h in
      subst (λ (e : PieceEnd). Finishes (load_verdicts definition_of) (loaded x) (ended_of limit e) Rows) (sym done)
      (list, versions, (rows, subst (λ (e : PieceEnd). Loads (definition_of x.loading) list (outcome_of e x.bytes) (Ok rows)) done h))

  finishes-failed : (ending : PieceEnd) (why : Cause) → Loads (definition_of x.loading) list (outcome_of ending x.bytes) (Err why) → Finishes (load_verdicts definition_of) (loaded x) (ended_of (definition_of x.loading).max_output ending) (Failed why)
  finishes-failed piece_end.NotStarted why (former, is, h) = let e : why ≡ cause.Start = cc in ap Failed e
  finishes-failed piece_end.WriteFailed why (former, is, h) = absurd h
  finishes-failed (piece_end.Cut true) why (former, is, h) = let e : why ≡ cause.TimedOut = cc in ap Failed e
  finishes-failed (piece_end.Cut false) why (former, is, h) = let e : why ≡ cause.Read = cc in ap Failed e
  finishes-failed piece_end.TooLong why (former, is, h) = let e : why ≡ cause.Longer (definition_of x.loading).max_output = cc in ap Failed e
  finishes-failed piece_end.WaitFailed why (former, is, h) = let e : why ≡ cause.Read = cc in ap Failed e
  finishes-failed (piece_end.Ended Killed) why (former, is, h) = let e : why ≡ cause.Killed = cc in ap Failed e
  finishes-failed (piece_end.Ended (Code (pos zero))) why h = (list, versions, h)
  finishes-failed (piece_end.Ended (Code (pos (suc n)))) why (former, is, h) = let e : why ≡ cause.Status (pos (suc n)) = cc in ap Failed e
  finishes-failed (piece_end.Ended (Code (negsuc n))) why (former, is, h) = let e : why ≡ cause.Status (negsuc n) = cc in ap Failed e
  finishes-failed piece_end.NoMemory why (former, is, h) = absurd h

-- ---- a whole load

four : (a : WorldEvent) (m : List WorldEvent) (f p : WorldEvent) → ((a ∷ m) ++ f ∷ []) ++ p ∷ [] ≡ a ∷ (m ++ f ∷ p ∷ [])
four a m f p = ap (λ (l : List WorldEvent). a ∷ l) (append_assoc m (f ∷ []) (p ∷ []))

five : (a : WorldEvent) (m : List WorldEvent) (f p q : WorldEvent) → (((a ∷ m) ++ f ∷ []) ++ p ∷ []) ++ q ∷ [] ≡ a ∷ (m ++ f ∷ p ∷ q ∷ [])
five a m f p q =
    ap (λ (l : List WorldEvent). l ++ q ∷ []) (four a m f p) ∙ ap (λ (l : List WorldEvent). a ∷ l) (append_assoc m (f ∷ p ∷ []) (q ∷ []))

module _ (definition_of : ℕ → Definition) (old : World) (place number : ℕ) (x : WorldDict) (list after : List Contents) (now : ℕ) (new : DictCore) (ending : PieceEnd) (bytes : List (List ℕ))
    (found : dict_at old place ≡ Some x) (idle : x.core.phase ≡ Idle) (few : x.core.loads < most_loads) (low : number < old.definitions) (versions : AreVersionsOf definition_of (formers x.entries) list)
    (some : All (λ piece. 0 < length piece) bytes) (within : length (concat bytes) ≤ most_bytes) where
  judges : Verdicts
  judges = load_verdicts definition_of

  abbrev was_read : WorldDict
  was_read = record x { loading = number; bytes = concat bytes; core = (begun x.core).core }

  reading : Reaches (load_verdicts definition_of) old place (StartWith place number ∷ map (Piece place) bytes) was_read
  reading =
      let first = start (load_verdicts definition_of) old place x number found idle few low in
      pieces (load_verdicts definition_of) old place (StartWith place number ∷ []) (started (load_verdicts definition_of) old place x number) bytes first refl (recursion_from_All (λ piece. 0 < length piece) bytes some) (omega (arith, within))

  begun-core : (stepped x.core core.Start).core ≡ (begun x.core).core
  begun-core = by_test (nat_lt x.core.loads most_loads) refl where
    by_test : (t : Bool) → nat_lt x.core.loads most_loads ≡ t → (stepped x.core core.Start).core ≡ (begun x.core).core
    by_test true is = ap (λ p. (row p core.Start x.core).core) idle ∙ ap (λ b. (if b then begun x.core else refused x.core).core) is
    by_test false is = absurd (let h : most_loads ≤ x.core.loads = grind (arith, nat_tests) in omega (arith, h, few))

  core-at : (end : LoadEnd) → new ≡ core_after x.core (load_events bytes end) → new ≡ core_after (begun x.core).core (end_events end)
  core-at end is =
      is ∙ ap (λ (c : DictCore). core_after c (piece_events bytes ++ end_events end)) begun-core ∙ past-pieces (begun x.core).core bytes (end_events end) refl

  failing : (why : Cause) (ended : WorldEnded) → Finishes (load_verdicts definition_of) (loaded was_read) ended (Failed why) → new ≡ core_after x.core (load_events bytes (load.Failed why)) → after ≡ list
      → LeadsTo definition_of old place (StartWith place number ∷ (map (Piece place) bytes ++ Finish place ended ∷ Post place ∷ [])) new after
  failing why ended by is same =
      let ended_so = finish_failed (load_verdicts definition_of) old place (StartWith place number ∷ map (Piece place) bytes) was_read ended why reading refl by in
      let done = post (load_verdicts definition_of) old place _ (with_core (load_verdicts definition_of) old place was_read (failed was_read.core why).core) ended_so refl in
      record {
        now = done.now;
        run = subst (λ (es : List WorldEvent). Run (load_verdicts definition_of) old es done.now) (four (StartWith place number) (map (Piece place) bytes) (Finish place ended) (Post place)) done.run;
        dictionary = _;
        found = done.found;
        core_is = sym (core-at (load.Failed why) is);
        stands = subst (AreVersionsOf definition_of (formers x.entries)) (sym same) versions;
      }

  publishing : (count : ℕ) → EndsLoad (definition_of number) now list (outcome_of ending (concat bytes)) (load.Published count) after → new ≡ core_after x.core (load_events bytes (load.Published count))
      → LeadsTo definition_of old place (world_events place number (definition_of number).max_output bytes ending (load.Published count)) new after
  publishing count (rows, loads, list_is, count_is) is =
      let ended = ended_of (definition_of number).max_output ending in
      let ended_so = finish_rows (load_verdicts definition_of) old place (StartWith place number ∷ map (Piece place) bytes) was_read ended reading refl (finishes-rows definition_of was_read list versions (definition_of number).max_output ending rows loads) in
      let ready : WorldDict = with_core (load_verdicts definition_of) old place was_read (read was_read.core).core in
      let shown = publish (load_verdicts definition_of) old place _ ready ended_so refl in
      let done = post (load_verdicts definition_of) old place _ (with_entry (load_verdicts definition_of) old place ready) shown refl in
      let last : WorldEntry = entry_of ready (risen ready.core.published) in
      let done_is = only-done (definition_of number) list (concat bytes) ending rows loads in
      let own = subst (λ (e : PieceEnd). Loads (definition_of number) list (outcome_of e (concat bytes)) (Ok rows)) done_is loads in
      let grown = more (formers x.entries) list (record { definition = number; bytes = concat bytes }) (version_of (definition_of number) rows now) versions refl own in
      record {
        now = done.now;
        run = subst (λ (es : List WorldEvent). Run (load_verdicts definition_of) old es done.now) (five (StartWith place number) (map (Piece place) bytes) (Finish place ended) (Publish place) (Post place)) done.run;
        dictionary = _;
        found = done.found;
        core_is = sym (core-at (load.Published count) is);
        stands =
            subst (AreVersionsOf definition_of (formers (x.entries ++ last ∷ []))) (sym list_is)
            (subst (λ (fs : List Former). AreVersionsOf definition_of fs (list ++ version_of (definition_of number) rows now ∷ [])) (sym (map-append (λ (e : WorldEntry). former e) x.entries (last ∷ []))) grown);
      }
    where
      former : WorldEntry → Former
      former e = record { definition = e.definition; bytes = e.bytes }

  pub load-leads : (end : LoadEnd) → EndsLoad (definition_of number) now list (outcome_of ending (concat bytes)) end after → new ≡ core_after x.core (load_events bytes end)
      → LeadsTo definition_of old place (world_events place number (definition_of number).max_output bytes ending end) new after
  load-leads (load.Published count) ends is = publishing count ends is
  load-leads (load.Failed why) ends is =
      failing why (ended_of (definition_of number).max_output ending) (finishes-failed definition_of was_read list versions ending why ends.0) is ends.1
  load-leads load.NoMemory ends is = failing cause.NoMemory world.NoMemory refl is ends
