-- The laws over every list of events, from what holds of each world.
use Rattle.std.proofs.Common.{◌≡◌, ℕ, ◌≤◌, max, List, [], ◌∷◌, ◌++◌, length, Option, Some, None, refl, sym, ◌∙◌, ap, subst, inl, inr, arith, append_assoc, slice_get, All, nat_lt, false, if◌then◌else◌}
use Rattle.std.specs.List.Sorted.{IsNonDecreasing}
use Rattle.std.proofs.lemmas.List.{append-nil}
use Rattle.std.proofs.lemmas.List.Elements.{All-nil, All-cons, All-append}
use Rattle.std.proofs.lemmas.Option.{none-some}
use Rattle.std.proofs.lemmas.Bool.Decides.{nat_tests}
use Rattle.dict_value.specs.declared.fault.Cause.{Cause}
use Rattle.load_core.specs.declared.caller.CallerEffect.TheVariants.{Kept, Older}
use Rattle.load_core.specs.declared.dictionary.DictEffect.{DictEffect}
use Rattle.load_core.specs.declared.dictionary.DictEffect.TheVariants as effect
use Rattle.load_core.specs.declared.dictionary.DictEvent.TheVariants as core
use Rattle.load_core.specs.declared.dictionary.Ending.{Ending}
use Rattle.load_core.specs.declared.dictionary.Ending.TheVariants.{Rows, Failed}
use Rattle.load_core.specs.declared.world.WorldEvent.{WorldEvent}
use Rattle.load_core.specs.declared.world.WorldEvent.TheVariants.{Start, StartWith, Piece, Finish, Publish, Post, Enter, Learn}
use Rattle.load_core.specs.declared.world.WorldEntry.{WorldEntry}
use Rattle.load_core.specs.declared.world.WorldDict.{WorldDict}
use Rattle.load_core.specs.declared.world.WorldCaller.{WorldCaller}
use Rattle.load_core.specs.declared.world.World.{World}
use Rattle.load_core.specs.WorldSteps.{Verdicts, Finishes, FinishesIn, TakesEvent, loaded, DictStep, IsAnswered, CallerEvents, WorldStep, Run, last_number, dict_at, with_dict, caller_at, learnt, empty_world}
use Rattle.load_core.specs.Laws.{entries_in, posted_in, posted_of, cause_in, answers_in, answers_of, EachDict, KeepsFronts, HasNumbersInOrder, IsRising, IsBalanced, IsPostedOnlyOf, OneLoadEach, IsOfOneLoad, definition_in, CurrentIsNewest, FailsFor, FailingKeeps, PublishedClears, RefusedKeeps, IsLengthAtEnter, LengthsAtEnter, NeverFall, NeverOlder, NeverBelowLearnt}
use Rattle.load_core.specs.steps.WorldTurns.{IsShort}
use Rattle.load_core.proofs.Callers.{last_number_is}
use Rattle.load_core.proofs.Dictionaries.{IsSound}
use Rattle.load_core.proofs.Lists.{All-from_slice_get, nil_split}
use Rattle.load_core.proofs.Places.{dict_at-with_same, with_dict_same}
use Rattle.load_core.proofs.Rows.{failed, rows_row, failed_row, publish_row, dict_refused, finishes_running, after_step}
use Rattle.load_core.proofs.Runs.{caller_turn, informs_same, CallerTurn, IsShown, IsTold}
use Rattle.load_core.proofs.Worlds.{IsSoundWorld, sound_world, sound_next, run_grows}

-- the floor of a caller for the dictionary at a place
abbrev floor_in : Option WorldCaller → ℕ
floor_in None = 0
floor_in (Some u) = u.core.floor

-- a refused event leaves its dictionary
step_refused : (judges : Verdicts) (x : WorldDict) (event : WorldEvent) (y : WorldDict) → DictStep judges x event effect.Refused y → y ≡ x
step_refused judges x (Start d) y t = t.leaves ∙ dict_refused x (Start d) _ (sym t.answers)
step_refused judges x (StartWith d definition) y t = t.leaves ∙ dict_refused x (StartWith d definition) _ (sym t.answers)
step_refused judges x (Piece d piece) y t = t.leaves ∙ dict_refused x (Piece d piece) _ (sym t.answers)
step_refused judges x (Finish d ended) y t = t.2.leaves ∙ dict_refused x (Finish d ended) _ (sym t.2.answers)
step_refused judges x (Publish d) y t = t.leaves ∙ dict_refused x (Publish d) _ (sym t.answers)
step_refused judges x (Post d) y t = t.leaves ∙ dict_refused x (Post d) _ (sym t.answers)
step_refused judges x (Enter c d) y t = absurd t
step_refused judges x (Learn c d) y t = absurd t

module _ (judges : Verdicts) where
  pub each_dict : (P : WorldDict → Type 0) → ((first now : World) (past : List WorldEvent) (d : ℕ) (x : WorldDict) → IsSound judges first past now d x → P x) → EachDict judges P
  each_dict P h n g m events now r =
      All-from_slice_get P now.dictionaries (λ d x found. h (empty_world n g m) now events d x ((sound_world judges n g m events now r).dicts d x found))

  pub grows : KeepsFronts judges
  grows n g m early mid r late now s d = run_grows judges mid late now s d

  pub numbers : EachDict judges HasNumbersInOrder
  numbers = each_dict HasNumbersInOrder (λ first now past d x h. h.numbers)

  pub loads_rise : EachDict judges IsRising
  loads_rise = each_dict IsRising (λ first now past d x h. h.rising)

  pub counts : EachDict judges IsBalanced
  counts = each_dict IsBalanced (λ first now past d x h. (h.oks, h.loads))

  pub short : EachDict judges IsShort
  short = each_dict IsShort (λ first now past d x h. h.short)

  pub posted_is : EachDict judges IsPostedOnlyOf
  posted_is = each_dict IsPostedOnlyOf (λ first now past d x h. h.posted)

  pub one_load_each : OneLoadEach judges
  one_load_each n g m events now r d before after entry h = go (dict_at now d) refl h
    where
      go : (o : Option WorldDict) → dict_at now d ≡ o → entries_in o ≡ before ++ entry ∷ after → IsOfOneLoad judges (empty_world n g m) events now d before entry
      go None e split = absurd (nil_split before after entry split)
      go (Some x) e split = ((sound_world judges n g m events now r).dicts d x e).one_load before after entry split

  pub current_is_newest : CurrentIsNewest judges
  current_is_newest n g m events now r d x found = ((sound_world judges n g m events now r).dicts d x found).current

  -- the dictionary of an answer, after it
  after_answer : (old new : World) (d : ℕ) (event : WorldEvent) (answer : DictEffect) (a : IsAnswered judges old d event answer new) → dict_at new d ≡ Some a.after
  after_answer old new d event answer a =
      ap (λ (w : World). dict_at w d) a.rest ∙ dict_at-with_same old d a.before a.after a.found

  pub refused_keeps : RefusedKeeps judges
  refused_keeps old new d event a =
      a.rest ∙ ap (with_dict old d) (step_refused judges a.before event a.after a.step) ∙ with_dict_same old d a.before a.found

  pub published_clears : PublishedClears judges
  published_clears old new d number a =
      elim (publish_row a.before.core) [
        | inl r ↦ ap cause_in (after_answer old new d (Publish d) (effect.Published number) a ∙ ap (λ (y : WorldDict). Some y) (a.step.leaves ∙ ap (after_step a.before (Publish d)) r.1))
        | inr r ↦ let k : effect.Published number ≡ effect.Refused = a.step.answers ∙ ap (λ s. s.effect) r.0 in cc
      ]

  pub failing_keeps : FailingKeeps judges
  failing_keeps old new d ended a = go a.step.0 a.step.1 a.step.2
    where
      go : (ending : Ending) → FinishesIn a.before.core.phase judges (loaded a.before) ended ending → TakesEvent a.before (Finish d ended) (core.Finish ending) effect.Failing a.after → (why : Cause) × Finishes judges (loaded a.before) ended (Failed why) × FailsFor old new d why
      go Rows f t =
          elim (rows_row a.before.core) [
            | inl r ↦ let k : effect.Failing ≡ effect.Ready = t.answers ∙ ap (λ s. s.effect) r.1 in cc
            | inr r ↦ let k : effect.Failing ≡ effect.Refused = t.answers ∙ ap (λ s. s.effect) r.0 in cc
          ]
      go (Failed why) f t =
          elim (failed_row a.before.core why) [
            | inl r ↦ (let is : dict_at new d ≡ Some (after_step a.before (Finish d ended) (failed a.before.core why)) = after_answer old new d (Finish d ended) effect.Failing a ∙ ap (λ (y : WorldDict). Some y) (t.leaves ∙ ap (after_step a.before (Finish d ended)) r.1) in
                (why, finishes_running a.before.core.phase judges (loaded a.before) ended (Failed why) r.0 f, record { cause = ap cause_in is; entries = ap entries_in is ∙ sym (ap entries_in a.found); definition = ap definition_in is ∙ sym (ap definition_in a.found) }))
            | inr r ↦ let k : effect.Failing ≡ effect.Refused = t.answers ∙ ap (λ s. s.effect) r.0 in cc
          ]

  pub at_enter : LengthsAtEnter judges
  at_enter n g m events now r c d k answer h = go (caller_at now c d) refl h
    where
      go : (o : Option WorldCaller) → caller_at now c d ≡ o → slice_get (answers_in o) k ≡ Some answer → IsLengthAtEnter judges (empty_world n g m) events now c d k answer
      go None e q = absurd (none-some answer q)
      go (Some u) e q = ((sound_world judges n g m events now r).callers c d u e).at_enter k answer q

  pub never_fall : NeverFall judges
  never_fall n g m events now r c d = go (caller_at now c d) refl
    where
      go : (o : Option WorldCaller) → caller_at now c d ≡ o → IsNonDecreasing (answers_in o)
      go None e = λ i j k p l. absurd (omega arith)
      go (Some u) e = ((sound_world judges n g m events now r).callers c d u e).ordered

  pub never_older : NeverOlder judges
  never_older n g m events now r c d u x known found =
      let w = sound_world judges n g m events now r in
      let floor : u.core.floor ≤ length x.entries = subst (λ (es : List WorldEntry). u.core.floor ≤ length es) (ap entries_in found) (w.callers c d u known).floor in
      let number : last_number x.entries ≡ length x.entries = last_number_is x.entries (w.dicts d x found).numbers in
      let test : nat_lt (last_number x.entries) u.core.floor ≡ false = grind (arith, nat_tests) in
      ap (λ b. if b then Older u.core.floor else Kept) test

  -- what one event adds to the answers of a caller isn't below a number that its floor has reached
  abbrev Adds : World → World → ℕ → ℕ → ℕ → Type 0
  Adds now next c d least =
      (more : List ℕ) × (answers_of next c d ≡ answers_of now c d ++ more) × All (λ answer. least ≤ answer) more × (least ≤ floor_in (caller_at next c d))

  event_adds : (first : World) (past : List WorldEvent) (now : World) (event : WorldEvent) (next : World) (c d least : ℕ) → IsSoundWorld judges first past now → WorldStep judges now event next → least ≤ floor_in (caller_at now c d) → Adds now next c d least
  event_adds first past now event next c d least w s l = go (caller_turn judges now event next s c d)
    where
      shown : IsShown now event next c d → Adds now next c d least
      shown t =
          let floor : least ≤ t.caller.core.floor = subst (λ (k : ℕ). least ≤ k) (ap floor_in t.found_caller) l in
          let within : t.caller.core.floor ≤ length t.dictionary.entries = subst (λ (es : List WorldEntry). t.caller.core.floor ≤ length es) (ap entries_in t.found) ((w.callers c d t.caller t.found_caller).floor) in
          let number : last_number t.dictionary.entries ≡ length t.dictionary.entries = last_number_is t.dictionary.entries (w.dicts d t.dictionary t.found).numbers in
          (last_number t.dictionary.entries ∷ [], ap answers_in t.becomes ∙ ap (λ answers. answers ++ last_number t.dictionary.entries ∷ []) (sym (ap answers_in t.found_caller)), All-cons (λ answer. least ≤ answer) (last_number t.dictionary.entries) [] (omega arith) (All-nil _), rw (ap floor_in t.becomes) (omega arith))

      told : IsTold now next c d → Adds now next c d least
      told t =
          let floor : least ≤ t.caller.core.floor = subst (λ (k : ℕ). least ≤ k) (ap floor_in t.found_caller) l in
          ([], ap answers_in t.becomes ∙ sym (ap answers_in t.found_caller) ∙ sym (append-nil (answers_of now c d)), All-nil _, rw (ap floor_in t.becomes) (omega arith))

      go : CallerTurn now event next c d → Adds now next c d least
      go (inl same) = ([], ap answers_in same ∙ sym (append-nil (answers_of now c d)), All-nil _, rw (ap floor_in same) l)
      go (inr (inl t)) = shown t
      go (inr (inr t)) = told t

  run_adds : (first : World) (past : List WorldEvent) (now : World) (events : List WorldEvent) (end : World) (c d least : ℕ) → IsSoundWorld judges first past now → Run judges now events end → least ≤ floor_in (caller_at now c d) → Adds now end c d least
  run_adds first past now [] end c d least w r l =
      let same : caller_at end c d ≡ caller_at now c d = ap (λ (w : World). caller_at w c d) r in
      ([], ap answers_in same ∙ sym (append-nil (answers_of now c d)), All-nil _, rw (ap floor_in same) l)
  run_adds first past now (e ∷ es) end c d least w r l =
      let one = event_adds first past now e r.0 c d least w r.1 l in
      let rest = run_adds first (past ++ e ∷ []) r.0 es end c d least (sound_next judges first past now r.0 w e r.1) r.2 one.3 in
      (one.0 ++ rest.0, rest.1 ∙ ap (λ xs. xs ++ rest.0) one.1 ∙ append_assoc (answers_of now c d) one.0 rest.0, All-append (λ answer. least ≤ answer) one.0 rest.0 one.2 rest.2, rest.3)

  -- a caller that isn't there has no answers, whatever comes
  none_stays : (now : World) (events : List WorldEvent) (end : World) (c d : ℕ) → Run judges now events end → caller_at now c d ≡ None → caller_at end c d ≡ None
  none_stays now [] end c d r e = ap (λ (w : World). caller_at w c d) r ∙ e
  none_stays now (event ∷ events) end c d r e = none_stays r.0 events end c d r.2 (go (caller_turn judges now event r.0 r.1 c d))
    where
      go : CallerTurn now event r.0 c d → caller_at r.0 c d ≡ None
      go (inl same) = same ∙ e
      go (inr (inl t)) = absurd (none-some t.caller (sym e ∙ t.found_caller))
      go (inr (inr t)) = absurd (none-some t.caller (sym e ∙ t.found_caller))

  pub never_below : NeverBelowLearnt judges
  never_below n g m early untold r c d late told now s q = go s
    where
      w : IsSoundWorld judges (empty_world n g m) (early ++ Learn c d ∷ []) told
      w = sound_next judges (empty_world n g m) early untold told (sound_world judges n g m early untold r) (Learn c d) s

      from_floor : posted_of untold d ≤ floor_in (caller_at told c d) → (later : List ℕ) × (answers_of now c d ≡ answers_of told c d ++ later) × All (λ answer. posted_of untold d ≤ answer) later
      from_floor l =
          let a = run_adds (empty_world n g m) (early ++ Learn c d ∷ []) told late now c d (posted_of untold d) w q l in (a.0, a.1, a.2)

      go : CallerEvents untold c d learnt told → (later : List ℕ) × (answers_of now c d ≡ answers_of told c d ++ later) × All (λ answer. posted_of untold d ≤ answer) later
      go (inl i) =
          let is : floor_in (caller_at told c d) ≡ max i.caller.core.floor i.dictionary.posted = ap floor_in (informs_same untold c d learnt told i) in
          from_floor (rw (is, ap posted_in i.found) (omega arith))
      go (inr (inr none, same)) = from_floor (rw (ap posted_in none) (omega arith))
      go (inr (inl none, same)) =
          let gone : caller_at told c d ≡ None = ap (λ (w : World). caller_at w c d) same ∙ none in
          ([], ap answers_in (none_stays told late now c d q gone) ∙ sym (ap (λ answers. answers ++ []) (ap answers_in gone)), All-nil _)
