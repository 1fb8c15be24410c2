-- What holds of a caller after every list of events.
use Rattle.std.proofs.Common.{◌≡◌, ℕ, ◌+◌, ◌-◌, ◌≤◌, max, List, [], ◌∷◌, ◌++◌, length, map, Option, Some, refl, sym, ◌∙◌, ap, inl, inr, arith, append_assoc, get_or, slice_get, All}
use Rattle.std.specs.List.{range_with_len}
use Rattle.std.specs.List.Sorted.{IsNonDecreasing}
use Rattle.std.proofs.lemmas.List.Elements.{All-push, All-weaker, All-get_or}
use Rattle.std.proofs.lemmas.List.Sorted.{IsNonDecreasingBy-push}
use Rattle.load_core.specs.declared.world.WorldEvent.{WorldEvent}
use Rattle.load_core.specs.declared.world.WorldEvent.TheVariants.{Enter}
use Rattle.load_core.specs.declared.world.WorldEntry.{WorldEntry}
use Rattle.load_core.specs.declared.world.WorldDict.{WorldDict}
use Rattle.load_core.specs.declared.world.WorldCaller.{WorldCaller}
use Rattle.load_core.specs.declared.world.World.{World}
use Rattle.load_core.specs.WorldSteps.{Verdicts, WorldStep, Run, last_number, caller_at, entered, learnt}
use Rattle.load_core.specs.Laws.{entries_of, answers_in, IsLengthAtEnter}
use Rattle.load_core.proofs.Lists.{slice_get-push}
use Rattle.load_core.proofs.Runs.{run_more}

-- the last of the numbers from a on
last_number_from : (a : ℕ) (entry : WorldEntry) (entries : List WorldEntry) → map (λ (e : WorldEntry). e.number) (entry ∷ entries) ≡ range_with_len a (length (entry ∷ entries)) → last_number (entry ∷ entries) ≡ a + length entries
last_number_from a entry [] h = let k : entry.number ≡ a = cc in omega arith
last_number_from a entry (e ∷ es) h =
    let k : map (λ (e : WorldEntry). e.number) (e ∷ es) ≡ range_with_len (a + 1) (length (e ∷ es)) = cc in
    omega (arith, last_number_from (a + 1) e es k)

-- the last number is the length of the list
pub last_number_is : (entries : List WorldEntry) → map (λ (e : WorldEntry). e.number) entries ≡ range_with_len 1 (length entries) → last_number entries ≡ length entries
last_number_is [] h = refl
last_number_is (e ∷ es) h = omega (arith, last_number_from 1 e es h)

module _ (judges : Verdicts) (first : World) where
  pub record IsInformed (past : List WorldEvent) (now : World) (c d : ℕ) (u : WorldCaller) : Type 0 where
    pub floor : u.core.floor ≤ length (entries_of now d)
    pub below : All (λ a. a ≤ u.core.floor) u.answers
    pub ordered : IsNonDecreasing u.answers
    pub at_enter : (k answer : ℕ) → slice_get u.answers k ≡ Some answer → IsLengthAtEnter judges first past now c d k answer

  -- one more event after an answer
  at_enter_more : (past : List WorldEvent) (now : World) (event : WorldEvent) (next : World) (c d k answer : ℕ) → WorldStep judges now event next → IsLengthAtEnter judges first past now c d k answer → IsLengthAtEnter judges first (past ++ event ∷ []) next c d k answer
  at_enter_more past now event next c d k answer s h = record {
    earlier = h.earlier;
    later = h.later ++ event ∷ [];
    unshown = h.unshown;
    shown = h.shown;
    order = ap (λ xs. xs ++ event ∷ []) h.order ∙ append_assoc h.earlier (Enter c d ∷ h.later) (event ∷ []);
    before = h.before;
    enter = h.enter;
    place = h.place;
    is_length = h.is_length;
    after = run_more judges h.shown h.later now event next h.after s;
  }

  pub informed_same : (past : List WorldEvent) (now : World) (event : WorldEvent) (next : World) (c d : ℕ) (u : WorldCaller) → IsInformed past now c d u → WorldStep judges now event next → length (entries_of now d) ≤ length (entries_of next d) → IsInformed (past ++ event ∷ []) next c d u
  informed_same past now event next c d u h s l = record {
    floor = omega (arith, h.floor);
    below = h.below;
    ordered = h.ordered;
    at_enter = λ k answer found. at_enter_more past now event next c d k answer s (h.at_enter k answer found);
  }

  pub informed_told : (past : List WorldEvent) (now : World) (event : WorldEvent) (next : World) (c d : ℕ) (u : WorldCaller) (x : WorldDict) → IsInformed past now c d u → WorldStep judges now event next → length (entries_of now d) ≤ length (entries_of next d) → x.posted ≤ length (entries_of now d) → IsInformed (past ++ event ∷ []) next c d (learnt u x)
  informed_told past now event next c d u x h s l p = record {
    floor = omega (arith, h.floor);
    below = All-weaker (λ a. a ≤ u.core.floor) (λ a. a ≤ max u.core.floor x.posted) (λ a k. omega arith) u.answers h.below;
    ordered = h.ordered;
    at_enter = λ k answer found. at_enter_more past now event next c d k answer s (h.at_enter k answer found);
  }

  pub informed_shown : (past : List WorldEvent) (now : World) (next : World) (c d : ℕ) (u : WorldCaller) (x : WorldDict) → Run judges first past now → caller_at now c d ≡ Some u → IsInformed past now c d u → WorldStep judges now (Enter c d) next → length (entries_of now d) ≤ length (entries_of next d) → last_number x.entries ≡ length (entries_of now d) → IsInformed (past ++ Enter c d ∷ []) next c d (entered u x)
  informed_shown past now next c d u x run found h s l e = record {
    floor = omega (arith, h.floor);
    below = All-push (λ a. a ≤ max u.core.floor (last_number x.entries)) u.answers (last_number x.entries) (All-weaker (λ a. a ≤ u.core.floor) (λ a. a ≤ max u.core.floor (last_number x.entries)) (λ a k. omega arith) u.answers h.below) (omega arith);
    ordered = IsNonDecreasingBy-push (λ n. n) u.answers (last_number x.entries) h.ordered (λ n k. let b : get_or u.answers (length u.answers - 1) n ≤ u.core.floor = All-get_or (λ a. a ≤ u.core.floor) u.answers (length u.answers - 1) n (omega arith) h.below in omega (arith, h.floor));
    at_enter = λ k answer got. elim (slice_get-push u.answers (last_number x.entries) k answer got) [
      | inl before ↦ at_enter_more past now (Enter c d) next c d k answer s (h.at_enter k answer before)
      | inr new ↦ record {
        earlier = past;
        later = [];
        unshown = now;
        shown = next;
        order = refl;
        before = run;
        enter = s;
        place = new.0 ∙ sym (ap (λ (o : Option WorldCaller). length (answers_in o)) found);
        is_length = sym new.1 ∙ e;
        after = refl;
      }
    ];
  }
