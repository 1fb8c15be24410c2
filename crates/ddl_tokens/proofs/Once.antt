-- Items in any order, each kind at most once, keep the laws.
use Rattle.std.proofs.Common.{◌≡◌, ℕ, ◌<◌, Bool, true, false, cond, List, [], ◌∷◌, ◌++◌, length, Option, Some, None, Result, Ok, Err, refl, sym, ap, subst, ◌∙◌, ◌⊎◌, inl, inr, arith}
use Rattle.std.specs.Prelude.{◌==◌, map}
use Rattle.std.proofs.lemmas.Bool.{eq-eqb, cond-true, cond-false, cases_Bool}
use Rattle.ddl_tokens.specs.declared.fault.SyntaxFault.{SyntaxFault}
use Rattle.ddl_tokens.specs.declared.fault.SyntaxFault.TheVariants.{Unexpected, Twice}
use Rattle.ddl_tokens.specs.Tokens.{Token}
use Rattle.ddl_tokens.specs.Reading.{◌>>=◌, Read, place_ahead, unexpected}
use Rattle.ddl_tokens.specs.Laws.{first, place_of, Anyhow, Lawful}
use Rattle.ddl_tokens.specs.Lists.{More, go, stop, repeat, Many, none, more, has_number, has_all, kind_at, once_of, next_once, AddsOnce, InAnyOrder, BeginsNone}
use Rattle.ddl_tokens.proofs.Laws.{bind_ok, bind_err, first_front, test_cases, knowing, stopping}
use Rattle.ddl_tokens.proofs.Repeats.{many_then, Goes, Stopped, StepFaults, Steps, repeats}

pub place_same : (ts us : List Token) → first ts ≡ first us → place_ahead ts ≡ place_ahead us
place_same [] [] e = refl
place_same [] (u ∷ us) e = absurd cc
place_same (t ∷ ts) [] e = absurd cc
place_same (t ∷ ts) (u ∷ us) e = let k : t ≡ u = cc in ap (λ (x : Token). x.place) k

kind_same : {K : Type 0} (kind_of : Token → Result (Option K) SyntaxFault) (ts us : List Token) → first ts ≡ first us → kind_at kind_of ts ≡ kind_at kind_of us
unfolding kind_at
kind_same kind_of [] [] e = refl
kind_same kind_of [] (u ∷ us) e = absurd cc
kind_same kind_of (t ∷ ts) [] e = absurd cc
kind_same kind_of (t ∷ ts) (u ∷ us) e = let k : t ≡ u = cc in ap kind_of k

-- where an item is lacking
lack : {A : Type 0} (x : Bool) (n m : ℕ) (a : A) (ts us : List Token) (e : SyntaxFault) → cond {A = Result (More A) SyntaxFault} x (Ok (stop a ts)) (Err (Unexpected n)) ≡ Err e
    → (n ≡ place_of e) × (m ≡ n → cond {A = Result (More A) SyntaxFault} x (Ok (stop a us)) (Err (Unexpected m)) ≡ Err e)
lack true n m a ts us e h = absurd cc
lack false n m a ts us e h = let k : Unexpected n ≡ e = cc in (ap place_of k, λ s. ap (λ (l : ℕ). Err (Unexpected l)) s ∙ ap (λ (f : SyntaxFault). Err f) k)

-- ---- numbers that are there

pub there : {A : Type 0} (number : A → ℕ) (n : ℕ) (a : List A) (x : A) → number x ≡ n → has_number number n (a ++ x ∷ []) ≡ true
unfolding has_number
there number n [] x e = cond-true (number x == n) _ _ (eq-eqb (number x) n e)
there number n (y ∷ a) x e = elim (cases_Bool (number y == n)) [ inl h ↦ cond-true (number y == n) _ _ h | inr h ↦ cond-false (number y == n) _ _ h ∙ there number n a x e ]

pub stays : {A : Type 0} (number : A → ℕ) (n : ℕ) (a : List A) (x : A) → has_number number n a ≡ true → has_number number n (a ++ x ∷ []) ≡ true
unfolding has_number
stays number n [] x e = absurd cc
stays number n (y ∷ a) x e = elim (cases_Bool (number y == n)) [
  | inl h ↦ cond-true (number y == n) _ _ h
  | inr h ↦ cond-false (number y == n) _ _ h ∙ stays number n a x (sym (cond-false (number y == n) true (has_number number n a) h) ∙ e)
]

-- the reader of the items of each kind keeps the laws; they begin with a token of their kind, and have its number
module _ {K A : Type 0} {kind_of : Token → Result (Option K) SyntaxFault} {item_at : K → List Token → Read A} {kind_number : K → ℕ} {number : A → ℕ} {Own : K → A → List Token → Type 0}
    (wanted : List K)
    (placed : (t : Token) (e : SyntaxFault) → kind_of t ≡ Err e → t.place ≡ place_of e)
    (C : (k : K) → Lawful (λ _. Unit {0}) (item_at k) (Own k) Anyhow)
    (headed : (k : K) (a : A) (own : List Token) → Own k a own → (t : Token) × (rest : List Token) × (own ≡ t ∷ rest) × (kind_of t ≡ Ok (Some k)))
    (numbered : (k : K) (a : A) (own : List Token) → Own k a own → number a ≡ kind_number k) where
  abbrev numbers : List ℕ
  numbers = map kind_number wanted

  abbrev step : List A → List Token → Result (More (List A)) SyntaxFault
  step = next_once kind_of item_at kind_number number numbers

  abbrev judge : List A → List Token → Option K → Result (More (List A)) SyntaxFault
  judge = once_of item_at kind_number number numbers

  abbrev Adds : List A → List A → List Token → Type 0
  Adds = AddsOnce kind_number number Own

  abbrev Whole : List A → Type 0
  Whole a = has_all number numbers a ≡ true

  abbrev Halts : List A → Option Token → Type 0
  Halts a o = BeginsNone kind_of a o

  step-is : (a : List A) (ts : List Token) (o : Option K) → kind_at kind_of ts ≡ Ok o → step a ts ≡ judge a ts o
  unfolding next_once
  step-is a ts o k = ap (λ (r : Result (Option K) SyntaxFault). r >>= λ x. judge a ts x) k

  step-err : (a : List A) (ts : List Token) (e : SyntaxFault) → kind_at kind_of ts ≡ Err e → step a ts ≡ Err e
  unfolding next_once
  step-err a ts e k = ap (λ (r : Result (Option K) SyntaxFault). r >>= λ x. judge a ts x) k

  step_ok : (a : List A) (ts : List Token) (m : More (List A)) → step a ts ≡ Ok m → (o : Option K) × (kind_at kind_of ts ≡ Ok o) × (judge a ts o ≡ Ok m)
  unfolding next_once
  step_ok a ts m e = bind_ok (kind_at kind_of ts) (λ o. judge a ts o) m e

  step_failed : (a : List A) (ts : List Token) (e : SyntaxFault) → step a ts ≡ Err e → (kind_at kind_of ts ≡ Err e) ⊎ ((o : Option K) × (kind_at kind_of ts ≡ Ok o) × (judge a ts o ≡ Err e))
  unfolding next_once
  step_failed a ts e h = bind_err (kind_at kind_of ts) (λ o. judge a ts o) e h

  halts_from : (a : List A) (ts : List Token) → kind_at kind_of ts ≡ Ok None → Halts a (first ts)
  unfolding kind_at
  halts_from a [] e = tt
  halts_from a (t ∷ ts) e = e

  from_halts : (a : List A) (ts : List Token) → Halts a (first ts) → kind_at kind_of ts ≡ Ok None
  unfolding kind_at
  from_halts a [] e = refl
  from_halts a (t ∷ ts) e = e

  kind_placed : (ts : List Token) (e : SyntaxFault) → kind_at kind_of ts ≡ Err e → place_ahead ts ≡ place_of e
  unfolding kind_at
  kind_placed [] e h = absurd cc
  kind_placed (t ∷ ts) e h = placed t e h

  kind_headed : (k : K) (a : A) (own rest : List Token) → Own k a own → kind_at kind_of (own ++ rest) ≡ Ok (Some k)
  unfolding kind_at
  kind_headed k a own rest h = let p = headed k a own h in ap (λ (ts : List Token). kind_at kind_of (ts ++ rest)) p.2 ∙ p.3

  goes_at : (a : List A) (ts : List Token) (b : List A) (rest : List Token) (o : Option K) → judge a ts o ≡ Ok (go b rest) → Goes Adds Anyhow a ts b rest
  goes_at a ts b rest None e = elim (test_cases (has_all number numbers a) _ _ _ e) [ inl x ↦ absurd (let z = x.1 in cc) | inr x ↦ absurd (let z = x.1 in cc) ]
  goes_at a ts b rest (Some kind) e = elim (test_cases (has_number number (kind_number kind) a) _ _ _ e) [
    | inl x ↦ absurd (let z = x.1 in cc)
    | inr x ↦
        let y = bind_ok (item_at kind ts) (λ p. Ok (go (a ++ p.0 ∷ []) p.1)) (go b rest) x.1 in
        let p = (C kind).found ts y.0.0 y.0.1 tt y.1 in
        let z = y.2 in
        let new : a ++ y.0.0 ∷ [] ≡ b = cc in
        let left : y.0.1 ≡ rest = cc in
        record { own = p.own; parts = p.parts ∙ ap (λ (t : List Token). p.own ++ t) left; adds = record { kind = kind; item = y.0.0; new = sym new; once = x.0; fits = p.fits }; behind = tt }
  ]

  stops_at : (a : List A) (ts : List Token) (b : List A) (rest : List Token) (o : Option K) → kind_at kind_of ts ≡ Ok o → judge a ts o ≡ Ok (stop b rest) → Stopped Whole Halts a ts b rest
  stops_at a ts b rest None k e = elim (test_cases (has_all number numbers a) _ _ _ e) [
    | inl x ↦
        let z = x.1 in
        let same : a ≡ b = cc in
        let left : ts ≡ rest = cc in
        record { same = same; left = left; whole = subst (λ (c : List A). Whole c) same x.0; halts = halts_from b rest (ap (kind_at kind_of) (sym left) ∙ k) }
    | inr x ↦ absurd (let z = x.1 in cc)
  ]
  stops_at a ts b rest (Some kind) k e = elim (test_cases (has_number number (kind_number kind) a) _ _ _ e) [
    | inl x ↦ absurd (let z = x.1 in cc)
    | inr x ↦
        let y = bind_ok (item_at kind ts) (λ p. Ok (go (a ++ p.0 ∷ []) p.1)) (stop b rest) x.1 in
        let z = y.2 in
        absurd cc
  ]

  err_at : (a : List A) (ts : List Token) (e : SyntaxFault) (o : Option K) → kind_at kind_of ts ≡ Ok o → judge a ts o ≡ Err e → StepFaults step Adds a ts e
  err_at a ts e None k h =
      record {
        front = [];
        rest = ts;
        parts = refl;
        place = (lack (has_all number numbers a) (place_ahead ts) (place_ahead ts) a ts ts e h).0;
        viable = inl refl;
        stuck = λ others o. step-is a others None (kind_same kind_of others ts o ∙ k) ∙ (lack (has_all number numbers a) (place_ahead ts) (place_ahead others) a ts others e h).1 (place_same others ts o);
      }
  err_at a ts e (Some kind) k h = elim (test_cases (has_number number (kind_number kind) a) _ _ _ h) [
    | inl x ↦
        let z = x.1 in
        let here : Twice (place_ahead ts) ≡ e = cc in
        record {
          front = [];
          rest = ts;
          parts = refl;
          place = ap place_of here;
          viable = inl refl;
          stuck = λ others o.
              step-is a others (Some kind) (kind_same kind_of others ts o ∙ k)
              ∙ cond-true (has_number number (kind_number kind) a) (Err (Twice (place_ahead others))) (item_at kind others >>= λ p. Ok (go (a ++ p.0 ∷ []) p.1)) x.0
              ∙ ap (λ (n : ℕ). Err (Twice n)) (place_same others ts o) ∙ ap (λ (f : SyntaxFault). Err f) here;
        }
    | inr x ↦ elim (bind_err (item_at kind ts) (λ p. Ok (go (a ++ p.0 ∷ []) p.1)) e x.1) [
      | inl y ↦
          let p = (C kind).least ts e tt y in
          record {
            front = p.before;
            rest = p.rest;
            parts = p.parts;
            place = p.place;
            viable = inr (a ++ p.value ∷ [], p.more, record { kind = kind; item = p.value; new = refl; once = x.0; fits = p.can_go_on });
            stuck = λ others o.
                let same : kind_at kind_of (p.before ++ others) ≡ Ok (Some kind) = kind_same kind_of (p.before ++ others) (p.before ++ p.rest) (first_front p.before others p.rest o) ∙ ap (kind_at kind_of) (sym p.parts) ∙ k in
                step-is a (p.before ++ others) (Some kind) same
                ∙ cond-false (has_number number (kind_number kind) a) (Err (Twice (place_ahead (p.before ++ others)))) (item_at kind (p.before ++ others) >>= λ q. Ok (go (a ++ q.0 ∷ []) q.1)) x.0
                ∙ ap (λ (r : Read A). r >>= λ q. Ok (go (a ++ q.0 ∷ []) q.1)) (p.again others o);
          }
      | inr y ↦ absurd (let z = y.2 in cc)
    ]
  ]

  step_err : (a : List A) (ts : List Token) (e : SyntaxFault) → step a ts ≡ Err e → StepFaults step Adds a ts e
  step_err a ts e h = elim (step_failed a ts e h) [
    | inl k ↦ record { front = []; rest = ts; parts = refl; place = kind_placed ts e k; viable = inl refl; stuck = λ others o. step-err a others e (kind_same kind_of others ts o ∙ k) }
    | inr x ↦ err_at a ts e x.0 x.1 x.2
  ]

  -- ---- what is lacking can be added

  -- some items more, after which there is one of each of these kinds
  record Filled (ks : List K) (a : List A) : Type 0 where
    all : List A
    tokens : List Token
    adds : Many Adds a all tokens
    whole : has_all number (map kind_number ks) all ≡ true
    keeps : (m : ℕ) → has_number number m a ≡ true → has_number number m all ≡ true

  record Added (k : K) (a : List A) : Type 0 where
    all : List A
    tokens : List Token
    adds : Many Adds a all tokens
    one : has_number number (kind_number k) all ≡ true
    keeps : (m : ℕ) → has_number number m a ≡ true → has_number number m all ≡ true

  added : (k : K) (a : List A) → Added k a
  added k a = elim (cases_Bool (has_number number (kind_number k) a)) [
    | inl e ↦ record { all = a; tokens = []; adds = none refl refl; one = e; keeps = λ m h. h }
    | inr e ↦
        let x = (C k).some in
        record {
          all = a ++ x.0 ∷ [];
          tokens = x.1 ++ [];
          adds = more refl (record { kind = k; item = x.0; new = refl; once = e; fits = x.2 }) (none refl refl);
          one = there number (kind_number k) a x.0 (numbered k x.0 x.1 x.2);
          keeps = λ m h. stays number m a x.0 h;
        }
  ]

  both_there : (n : ℕ) (ns : List ℕ) (a : List A) → has_number number n a ≡ true → has_all number ns a ≡ true → has_all number (n ∷ ns) a ≡ true
  unfolding has_all
  both_there n ns a e h = cond-true (has_number number n a) _ _ e ∙ h

  none_wanted : (a : List A) → has_all number [] a ≡ true
  unfolding has_all
  none_wanted a = refl

  filled : (ks : List K) (a : List A) → Filled ks a
  filled [] a = record { all = a; tokens = []; adds = none refl refl; whole = none_wanted a; keeps = λ m h. h }
  filled (k ∷ ks) a =
      let x = added k a in
      let y = filled ks x.all in
      record {
        all = y.all;
        tokens = x.tokens ++ y.tokens;
        adds = many_then Adds a x.all y.all x.tokens y.tokens x.adds y.adds;
        whole = both_there (kind_number k) (map kind_number ks) y.all (y.keeps (kind_number k) x.one) y.whole;
        keeps = λ m h. y.keeps m (x.keeps m h);
      }

  some_tokens : (k : K) (a : A) (own : List Token) → Own k a own → 0 < length own
  some_tokens k a own h = let p = headed k a own h in let e = ap length p.2 in omega (arith, e)

  once_steps : Steps step (λ _. Unit {0}) Whole Adds Anyhow Halts
  once_steps = record {
    goes = λ a ts b rest _ e. let x = step_ok a ts (go b rest) e in goes_at a ts b rest x.0 x.2;
    stops = λ a ts b rest _ e. let x = step_ok a ts (stop b rest) e in stops_at a ts b rest x.0 x.1 x.2;
    goes_again = λ a b own rest _ h _.
        step-is a (own ++ rest) (Some h.kind) (kind_headed h.kind h.item own rest h.fits)
        ∙ cond-false (has_number number (kind_number h.kind) a) (Err (Twice (place_ahead (own ++ rest)))) (item_at h.kind (own ++ rest) >>= λ p. Ok (go (a ++ p.0 ∷ []) p.1)) h.once
        ∙ ap (λ (r : Read A). r >>= λ p. Ok (go (a ++ p.0 ∷ []) p.1)) ((C h.kind).only h.item own rest h.fits tt)
        ∙ ap (λ (c : List A). Ok (go c rest)) (sym h.new);
    stops_again = λ a rest _ w h.
        step-is a rest None (from_halts a rest h) ∙ cond-true (has_all number numbers a) (Ok (stop a rest)) (unexpected rest) w;
    err = λ a ts e _ h. step_err a ts e h;
    good = λ a b own _ h. tt;
    some = λ a b own h. some_tokens h.kind h.item own h.fits;
    follows = λ a b own rest h. tt;
    finish = λ a _. let z = filled wanted a in (z.all, z.tokens, z.adds, z.whole);
  }

  pub in_any_order : {Before : Option Token → Type 0} → Lawful Before (repeat step []) (InAnyOrder kind_number number Own numbers) (BeginsNone kind_of)
  in_any_order = stopping (λ a own o h s. s.1) (λ a own o h s. (tt, s)) (knowing (λ o b. tt) (repeats once_steps [] tt))
