-- A run that goes on by one event, and what it does at one place.
use Rattle.std.proofs.Common.{◌≡◌, ◌≢◌, ℕ, ◌⊎◌, List, [], ◌∷◌, ◌++◌, Some, refl, sym, ◌∙◌, ap, subst, inl, inr}
use Rattle.std.proofs.lemmas.Bool.{cases_eq}
use Rattle.std.proofs.lemmas.Option.{none-some, same_Some}
use Rattle.load_core.specs.declared.dictionary.DictEffect.{DictEffect}
use Rattle.load_core.specs.declared.world.WorldEvent.{WorldEvent}
use Rattle.load_core.specs.declared.world.WorldEvent.TheVariants.{Start, StartWith, Piece, Finish, Publish, Post, Enter, Learn}
use Rattle.load_core.specs.declared.world.WorldDict.{WorldDict}
use Rattle.load_core.specs.declared.world.WorldCaller.{WorldCaller}
use Rattle.load_core.specs.declared.world.World.{World}
use Rattle.load_core.specs.WorldSteps.{Verdicts, DictStep, IsAnswered, Informs, DictEvents, NamingEvents, CallerEvents, WorldStep, Run, dict_at, caller_at, with_caller, entered, learnt}
use Rattle.load_core.specs.Laws.{with_piece, bytes_joined}
use Rattle.load_core.proofs.Places.{dict_at-with_same, dict_at-with_other, caller_at-with_same, caller_at-with_other_dict, caller_at-with_other}

-- the pieces of one more event join to those so far
pub joined_more : (d : ℕ) (bytes : List ℕ) (events : List WorldEvent) (event : WorldEvent) → bytes_joined d bytes (events ++ event ∷ []) ≡ with_piece d (bytes_joined d bytes events) event
joined_more d bytes [] event = refl
joined_more d bytes (e ∷ events) event = joined_more d (with_piece d bytes e) events event

module _ (judges : Verdicts) where
  pub run_more : (old : World) (events : List WorldEvent) (now : World) (event : WorldEvent) (next : World) → Run judges old events now → WorldStep judges now event next → Run judges old (events ++ event ∷ []) next
  run_more old [] now event next r s = (next, subst (λ (w : World). WorldStep judges w event next) r s, refl)
  run_more old (e ∷ events) now event next r s = (r.0, r.1, run_more r.0 events now event next r.2 s)

  -- an event of the dictionary at one place leaves the others, and steps that one
  pub at_dict : (old new : World) (make : ℕ → WorldEvent) (e d : ℕ) (z : WorldDict) (Goal : WorldEvent → WorldDict → Type 0) →
      ((x : WorldDict) → dict_at old d ≡ Some x → e ≢ d → Goal (make e) x) →
      ((x y : WorldDict) (answer : DictEffect) → dict_at old d ≡ Some x → DictStep judges x (make d) answer y → IsAnswered judges old d (make d) answer new → Goal (make d) y) →
      DictEvents judges old e (make e) new → dict_at new d ≡ Some z → Goal (make e) z
  at_dict old new make e d z Goal others this step found = elim step [
    | inl h ↦ elim (cases_eq e d) [
      | inl p ↦ (let Back : ℕ → Type 0 = λ n. IsAnswered judges old n (make n) h.0 new → Goal (make n) z in subst Back (sym p) (taken h.0) h.1)
      | inr n ↦ others z (sym (left h.0 h.1 n) ∙ found) n
    ]
    | inr h ↦ others z (ap (λ (w : World). dict_at w d) (sym h.1) ∙ found) (λ p. none-some z (sym (ap (dict_at old) (sym p) ∙ h.0) ∙ (ap (λ (w : World). dict_at w d) (sym h.1) ∙ found)))
  ]
    where
      left : (answer : DictEffect) → IsAnswered judges old e (make e) answer new → e ≢ d → dict_at new d ≡ dict_at old d
      left answer a n = ap (λ (w : World). dict_at w d) a.rest ∙ dict_at-with_other old e d a.after n

      taken : (answer : DictEffect) → IsAnswered judges old d (make d) answer new → Goal (make d) z
      taken answer a =
          let is : a.after ≡ z = same_Some a.after z (sym (ap (λ (w : World). dict_at w d) a.rest ∙ dict_at-with_same old d a.before a.after a.found) ∙ found) in
          this a.before z answer a.found (subst (λ (y : WorldDict). DictStep judges a.before (make d) answer y) is a.step) a

-- What an event does to what a caller knows of a dictionary: nothing, or it is shown the last entry, or it is told.
pub record IsShown (now : World) (event : WorldEvent) (next : World) (c d : ℕ) : Type 0 where
  pub caller : WorldCaller
  pub dictionary : WorldDict
  pub found_caller : caller_at now c d ≡ Some caller
  pub found : dict_at now d ≡ Some dictionary
  pub event_is : event ≡ Enter c d
  pub becomes : caller_at next c d ≡ Some (entered caller dictionary)

pub record IsTold (now next : World) (c d : ℕ) : Type 0 where
  pub caller : WorldCaller
  pub dictionary : WorldDict
  pub found_caller : caller_at now c d ≡ Some caller
  pub found : dict_at now d ≡ Some dictionary
  pub becomes : caller_at next c d ≡ Some (learnt caller dictionary)

abbrev pub CallerTurn : World → WorldEvent → World → ℕ → ℕ → Type 0
CallerTurn now event next c d = (caller_at next c d ≡ caller_at now c d) ⊎ (IsShown now event next c d ⊎ IsTold now next c d)

-- an event that informs a caller of a dictionary leaves all that it and the others know besides
informs_other : (old : World) (c d b e : ℕ) (becomes : WorldCaller → WorldDict → WorldCaller) (new : World) → Informs old c d becomes new → (c ≢ b) ⊎ (d ≢ e) → caller_at new b e ≡ caller_at old b e
informs_other old c d b e becomes new i (inl n) =
    ap (λ (w : World). caller_at w b e) i.rest ∙ caller_at-with_other old c d b e (becomes i.caller i.dictionary) n
informs_other old c d b e becomes new i (inr n) = elim (cases_eq c b) [
  | inl p ↦ ap (λ (w : World). caller_at w b e) i.rest ∙ subst (λ (k : ℕ). caller_at (with_caller old c d (becomes i.caller i.dictionary)) k e ≡ caller_at old k e) p (caller_at-with_other_dict old c d e i.caller (becomes i.caller i.dictionary) i.found_caller n)
  | inr m ↦ ap (λ (w : World). caller_at w b e) i.rest ∙ caller_at-with_other old c d b e (becomes i.caller i.dictionary) m
]

pub informs_same : (old : World) (c d : ℕ) (becomes : WorldCaller → WorldDict → WorldCaller) (new : World) (i : Informs old c d becomes new) → caller_at new c d ≡ Some (becomes i.caller i.dictionary)
informs_same old c d becomes new i =
    ap (λ (w : World). caller_at w c d) i.rest ∙ caller_at-with_same old c d i.caller (becomes i.caller i.dictionary) i.found_caller

-- the place that an event informs is this one, or another
place_cases : (c d b e : ℕ) → ((c ≡ b) × (d ≡ e)) ⊎ ((c ≢ b) ⊎ (d ≢ e))
place_cases c d b e = elim (cases_eq c b) [
  | inl p ↦ elim (cases_eq d e) [ inl q ↦ inl (p, q) | inr n ↦ inr (inr n) ]
  | inr n ↦ inr (inl n)
]

enter_turn : (old : World) (a b c d : ℕ) (new : World) → CallerEvents old a b entered new → CallerTurn old (Enter a b) new c d
enter_turn old a b c d new (inr s) = inl (ap (λ (w : World). caller_at w c d) s.1)
enter_turn old a b c d new (inl i) = elim (place_cases a b c d) [
  | inl p ↦ inr (inl (here p.0 p.1))
  | inr n ↦ inl (informs_other old a b c d entered new i n)
]
  where
    here : a ≡ c → b ≡ d → IsShown old (Enter a b) new c d
    here p q = subst (λ (k : ℕ). IsShown old (Enter a b) new k d) p (subst (λ (k : ℕ). IsShown old (Enter a b) new a k) q (record {
      caller = i.caller;
      dictionary = i.dictionary;
      found_caller = i.found_caller;
      found = i.found;
      event_is = refl;
      becomes = informs_same old a b entered new i;
    }))

learn_turn : (old : World) (a b c d : ℕ) (new : World) → CallerEvents old a b learnt new → CallerTurn old (Learn a b) new c d
learn_turn old a b c d new (inr s) = inl (ap (λ (w : World). caller_at w c d) s.1)
learn_turn old a b c d new (inl i) = elim (place_cases a b c d) [
  | inl p ↦ inr (inr (here p.0 p.1))
  | inr n ↦ inl (informs_other old a b c d learnt new i n)
]
  where
    here : a ≡ c → b ≡ d → IsTold old new c d
    here p q = subst (λ (k : ℕ). IsTold old new k d) p (subst (λ (k : ℕ). IsTold old new a k) q (record {
      caller = i.caller;
      dictionary = i.dictionary;
      found_caller = i.found_caller;
      found = i.found;
      becomes = informs_same old a b learnt new i;
    }))

module _ (judges : Verdicts) where
  -- events of dictionaries leave the callers
  dict_event_callers : (old new : World) (d : ℕ) (event : WorldEvent) → DictEvents judges old d event new → (c e : ℕ) → caller_at new c e ≡ caller_at old c e
  dict_event_callers old new d event (inl h) c e = ap (λ (w : World). caller_at w c e) h.1.rest
  dict_event_callers old new d event (inr h) c e = ap (λ (w : World). caller_at w c e) h.1

  naming_callers : (old new : World) (d definition : ℕ) (event : WorldEvent) → NamingEvents judges old d definition event new → (c e : ℕ) → caller_at new c e ≡ caller_at old c e
  naming_callers old new d definition event (inl h) c e = dict_event_callers old new d event h.1 c e
  naming_callers old new d definition event (inr h) c e = ap (λ (w : World). caller_at w c e) h.1

  pub caller_turn : (now : World) (event : WorldEvent) (next : World) → WorldStep judges now event next → (c d : ℕ) → CallerTurn now event next c d
  caller_turn now (Start e) next s c d = inl (dict_event_callers now next e (Start e) s c d)
  caller_turn now (StartWith e definition) next s c d = inl (naming_callers now next e definition (StartWith e definition) s c d)
  caller_turn now (Piece e piece) next s c d = inl (dict_event_callers now next e (Piece e piece) s c d)
  caller_turn now (Finish e ended) next s c d = inl (dict_event_callers now next e (Finish e ended) s c d)
  caller_turn now (Publish e) next s c d = inl (dict_event_callers now next e (Publish e) s c d)
  caller_turn now (Post e) next s c d = inl (dict_event_callers now next e (Post e) s c d)
  caller_turn now (Enter a b) next s c d = enter_turn now a b c d next s
  caller_turn now (Learn a b) next s c d = learn_turn now a b c d next s
