-- A list with a sign between its items keeps the laws.
use Rattle.std.proofs.Common.{◌≡◌, ℕ, true, false, List, [], ◌∷◌, ◌++◌, length, Option, Some, Result, Ok, Err, refl, sym, ap, subst, ◌∙◌, inl, inr, arith, append_assoc}
use Rattle.std.proofs.lemmas.Bool.{cond-true, cond-false, cases_Bool}
use Rattle.std.proofs.lemmas.List.{append-nil}
use Rattle.ddl_tokens.specs.declared.fault.SyntaxFault.{SyntaxFault}
use Rattle.ddl_tokens.specs.Tokens.{Token}
use Rattle.ddl_tokens.specs.Reading.{◌>>=◌, Read, passes, is_the_sign, sign_at}
use Rattle.ddl_tokens.specs.Laws.{first, Lawful}
use Rattle.ddl_tokens.specs.Lists.{More, go, stop, Many, none, more, next_item, separated_at, Tail, ended, another, Separated, LastStops}
use Rattle.ddl_tokens.proofs.Laws.{bind_ok, bind_err, ok_is, said, knowing, then_after, passes_first}
use Rattle.ddl_tokens.proofs.Repeats.{Goes, Stopped, StepFaults, Steps, repeats, starts}

-- the sign is the token in hand
pub sign_taken : (sign : ℕ) (t : Token) (ts : List Token) → is_the_sign sign t ≡ true → sign_at sign (t ∷ ts) ≡ Ok (tt, ts)
unfolding sign_at passes
sign_taken sign t ts e = cond-true (is_the_sign sign t) _ _ e

pub last_is : {A : Type 0} (Stops : A → Option Token → Type 0) (before : List A) (a : A) (o : Option Token) → LastStops Stops (before ++ a ∷ []) o ≡ Stops a o
last_is Stops [] a o = refl
last_is Stops (b ∷ []) a o = refl
last_is Stops (b ∷ c ∷ before) a o = last_is Stops (c ∷ before) a o

-- where each item of a list stops, the list does
pub all_stop : {A : Type 0} (Stops : A → Option Token → Type 0) (o : Option Token) (items : List A) → ((a : A) → Stops a o) → LastStops Stops items o
all_stop Stops o [] h = tt
all_stop Stops o (b ∷ []) h = h b
all_stop Stops o (b ∷ c ∷ items) h = all_stop Stops o (c ∷ items) h

module _ {A : Type 0} (sign : ℕ) {item : List Token → Read A} {Own : A → List Token → Type 0} {Stops : A → Option Token → Type 0}
    (I : Lawful (λ _. Unit {0}) item Own Stops)
    (at_sign : (a : A) (t : Token) → is_the_sign sign t ≡ true → Stops a (Some t)) where
  abbrev step : List A → List Token → Result (More (List A)) SyntaxFault
  step = next_item sign item

  -- the sign and one more item
  record Adds (a b : List A) (own : List Token) : Type 0 where
    value : A
    token : Token
    behind : List Token
    parts : own ≡ token ∷ behind
    is_sign : is_the_sign sign token ≡ true
    fits : Own value behind
    new : b ≡ a ++ value ∷ []

  abbrev Behind : List A → Option Token → Type 0
  Behind a o = LastStops Stops a o

  abbrev Halts : List A → Option Token → Type 0
  Halts a o = passes_first (is_the_sign sign) o ≡ false

  abbrev read_item : List A → List Token → Result (More (List A)) SyntaxFault
  read_item a ts = item ts >>= λ x. Ok (go (a ++ x.0 ∷ []) x.1)

  step_sign : (a : List A) (t : Token) (ts : List Token) → is_the_sign sign t ≡ true → step a (t ∷ ts) ≡ read_item a ts
  unfolding next_item passes
  step_sign a t ts e = cond-true (is_the_sign sign t) _ _ e ∙ ap (λ (r : Read (Unit {0})). r >>= λ s. read_item a s.1) (sign_taken sign t ts e)

  step_stop : (a : List A) (ts : List Token) → Halts a (first ts) → step a ts ≡ Ok (stop a ts)
  unfolding next_item passes
  step_stop a [] e = refl
  step_stop a (t ∷ ts) e = cond-false (is_the_sign sign t) _ _ e

  goes : (a : List A) (ts : List Token) (b : List A) (rest : List Token) → step a ts ≡ Ok (go b rest) → Goes Adds Behind a ts b rest
  goes a [] b rest e = absurd (let k = sym (step_stop a [] refl) ∙ e in cc)
  goes a (t ∷ ts) b rest e = elim (cases_Bool (is_the_sign sign t)) [
    | inr f ↦ absurd (let k = sym (step_stop a (t ∷ ts) f) ∙ e in cc)
    | inl f ↦
        let x = bind_ok (item ts) (λ x. Ok (go (a ++ x.0 ∷ []) x.1)) (go b rest) (sym (step_sign a t ts f) ∙ e) in
        let p = I.found ts x.0.0 x.0.1 tt x.1 in
        let z = x.2 in
        let new : a ++ x.0.0 ∷ [] ≡ b = cc in
        let left : x.0.1 ≡ rest = cc in
        record {
          own = t ∷ p.own;
          parts = ap (λ us. t ∷ us) (p.parts ∙ ap (λ us. p.own ++ us) left);
          adds = record { value = x.0.0; token = t; behind = p.own; parts = refl; is_sign = f; fits = p.fits; new = sym new };
          behind = subst (λ (c : List A). Behind c (first rest)) new (subst (λ T. T) (sym (last_is Stops a x.0.0 (first rest))) (subst (λ us. Stops x.0.0 (first us)) left p.stops));
        }
  ]

  stops : (a : List A) (ts : List Token) (b : List A) (rest : List Token) → step a ts ≡ Ok (stop b rest) → Stopped (λ _. Unit {0}) Halts a ts b rest
  stops a ts b rest e = at ts e where
    stopped : (us : List Token) → Halts a (first us) → step a us ≡ Ok (stop b rest) → Stopped (λ _. Unit {0}) Halts a us b rest
    stopped us f h =
        let k = ok_is (stop a us) (stop b rest) (sym (step_stop a us f) ∙ h) in
        let same : a ≡ b = cc in
        let left : us ≡ rest = cc in
        record { same = same; left = left; whole = tt; halts = subst (λ vs. Halts b (first vs)) left f }

    at : (us : List Token) → step a us ≡ Ok (stop b rest) → Stopped (λ _. Unit {0}) Halts a us b rest
    at [] h = stopped [] refl h
    at (t ∷ us) h = elim (cases_Bool (is_the_sign sign t)) [
      | inr f ↦ stopped (t ∷ us) f h
      | inl f ↦ let x = bind_ok (item us) (λ x. Ok (go (a ++ x.0 ∷ []) x.1)) (stop b rest) (sym (step_sign a t us f) ∙ h) in absurd (let z = x.2 in cc)
    ]

  failed : (a : List A) (ts : List Token) (e : SyntaxFault) → step a ts ≡ Err e → StepFaults step Adds a ts e
  failed a [] e h = absurd (let k = sym (step_stop a [] refl) ∙ h in cc)
  failed a (t ∷ ts) e h = elim (cases_Bool (is_the_sign sign t)) [
    | inr f ↦ absurd (let k = sym (step_stop a (t ∷ ts) f) ∙ h in cc)
    | inl f ↦ elim (bind_err (item ts) (λ x. Ok (go (a ++ x.0 ∷ []) x.1)) e (sym (step_sign a t ts f) ∙ h)) [
      | inr x ↦ absurd (let z = x.2 in cc)
      | inl k ↦
          let p = I.least ts e tt k in
          record {
            front = t ∷ p.before;
            rest = p.rest;
            parts = ap (λ us. t ∷ us) p.parts;
            place = p.place;
            viable = inr (a ++ p.value ∷ [], p.more, record { value = p.value; token = t; behind = p.before ++ p.more; parts = refl; is_sign = f; fits = p.can_go_on; new = refl });
            stuck = λ others o. step_sign a t (p.before ++ others) f ∙ ap (λ (r : Read A). r >>= λ x. Ok (go (a ++ x.0 ∷ []) x.1)) (p.again others o);
          }
    ]
  ]

  item_steps : Steps step (λ _. Unit {0}) (λ _. Unit {0}) Adds Behind Halts
  item_steps = record {
    goes = λ a ts b rest _ e. goes a ts b rest e;
    stops = λ a ts b rest _ e. stops a ts b rest e;
    goes_again = λ a b own rest _ h s.
        ap (λ us. step a (us ++ rest)) h.parts ∙ step_sign a h.token (h.behind ++ rest) h.is_sign
        ∙ ap (λ (r : Read A). r >>= λ x. Ok (go (a ++ x.0 ∷ []) x.1)) (I.only h.value h.behind rest h.fits (subst (λ T. T) (last_is Stops a h.value (first rest)) (subst (λ (c : List A). Behind c (first rest)) h.new s)))
        ∙ ap (λ (c : List A). Ok (go c rest)) (sym h.new);
    stops_again = λ a rest _ w h. step_stop a rest h;
    err = λ a ts e _ h. failed a ts e h;
    good = λ a b own _ h. tt;
    some = λ a b own h. let e = ap length h.parts in omega (arith, e);
    follows = λ a b own rest h. subst (λ us. Behind a (first (us ++ rest))) (sym h.parts) (all_stop Stops (Some h.token) a (λ b. at_sign b h.token h.is_sign));
    finish = λ a _. (a, [], none refl refl, tt);
  }

  tail_from : (a b : List A) (ts : List Token) → Many Adds a b ts → (items : List A) × (b ≡ a ++ items) × Tail sign Own items ts
  tail_from a b ts (none e h) = ([], sym (append-nil a ∙ e), subst (λ us. Tail sign Own [] us) (sym h) ended)
  tail_from a b ts (more {b = c} {own = own} {rest = rest} e x m) =
      let p = tail_from c b rest m in
      (x.value ∷ p.0, p.1 ∙ ap (λ d. d ++ p.0) x.new ∙ append_assoc a (x.value ∷ []) p.0, another {own = x.behind} (e ∙ ap (λ us. us ++ rest) x.parts) x.is_sign x.fits p.2)

  from_tail : (a items : List A) (ts : List Token) → Tail sign Own items ts → Many Adds a (a ++ items) ts
  from_tail a items ts ended = none (sym (append-nil a)) refl
  from_tail a items ts (another {a = x} {t = t} {others = xs} {own = own} {rest = rest} e s f m) =
      more {own = t ∷ own} e (record { value = x; token = t; behind = own; parts = refl; is_sign = s; fits = f; new = refl })
      (subst (λ c. Many Adds (a ++ x ∷ []) c rest) (append_assoc a (x ∷ []) xs) (from_tail (a ++ x ∷ []) xs rest m))

  -- the list stops where its last item does and no sign follows
  pub separated : {Before : Option Token → Type 0} → Lawful Before (separated_at sign item) (Separated sign Own) (λ items o. LastStops Stops items o × (passes_first (is_the_sign sign) o ≡ false))
  unfolding separated_at
  separated =
      said (λ items ts h. record { value = h.value; front = h.front; back = h.back; parts = h.parts; before = h.before; behind = tail_from (h.value ∷ []) items h.back h.behind.0 })
      (λ items ts h. record { value = h.value; front = h.front; back = h.back; parts = h.parts; before = h.before; behind = (subst (λ c. Many Adds (h.value ∷ []) c h.back) (sym h.behind.1) (from_tail (h.value ∷ []) h.behind.0 h.back h.behind.2), tt) })
      (then_after (knowing (λ o b. tt) I) (λ a. repeats item_steps (a ∷ []) tt) (λ a b ts rest h s. starts item_steps (a ∷ []) b ts rest h.0 s))
