-- Steps that keep the laws make a list that keeps them.
use Rattle.std.proofs.Common.{◌≡◌, ℕ, zero, suc, ◌<◌, List, [], ◌++◌, length, Option, Result, Ok, Err, refl, sym, ap, subst, ◌∙◌, append_assoc, ◌⊎◌, inl, inr, arith, length-append}
use Rattle.ddl_tokens.specs.declared.fault.SyntaxFault.{SyntaxFault}
use Rattle.ddl_tokens.specs.Tokens.{Token}
use Rattle.ddl_tokens.specs.Reading.{◌>>=◌, Read, place_ahead}
use Rattle.ddl_tokens.specs.Laws.{first, place_of, Begins, Faults, Lawful}
use Rattle.ddl_tokens.specs.Lists.{More, go, stop, Step, steps, repeat, Many, none, more}
use Rattle.ddl_tokens.proofs.Laws.{bind_ok, bind_err, ok_is, first_front}

pub many_then : {A : Type 0} (Adds : A → A → List Token → Type 0) (a b c : A) (ts us : List Token) → Many Adds a b ts → Many Adds b c us → Many Adds a c (ts ++ us)
many_then Adds a b c ts us (none e h) n = subst (λ (t : List Token). Many Adds a c (t ++ us)) (sym h) (subst (λ x. Many Adds x c us) (sym e) n)
many_then Adds a b c ts us (more {b = d} {own = own} {rest = rest} e x m) n = more {ts = ts ++ us} (ap (λ (t : List Token). t ++ us) e ∙ append_assoc own rest us) x (many_then Adds d b c rest us m n)

pub record Goes {A : Type 0} (Adds : A → A → List Token → Type 0) (Behind : A → Option Token → Type 0) (a : A) (ts : List Token) (b : A) (rest : List Token) : Type 0 where
  pub own : List Token
  pub parts : ts ≡ own ++ rest
  pub adds : Adds a b own
  pub behind : Behind b (first rest)

pub record Stopped {A : Type 0} (Whole : A → Type 0) (Halts : A → Option Token → Type 0) (a : A) (ts : List Token) (b : A) (rest : List Token) : Type 0 where
  pub same : a ≡ b
  pub left : ts ≡ rest
  pub whole : Whole b
  pub halts : Halts b (first rest)

pub record StepFaults {A : Type 0} (step : Step A) (Adds : A → A → List Token → Type 0) (a : A) (ts : List Token) (e : SyntaxFault) : Type 0 where
  pub front : List Token
  pub rest : List Token
  pub parts : ts ≡ front ++ rest
  pub place : place_ahead rest ≡ place_of e
  pub viable : (front ≡ []) ⊎ ((b : A) × (more : List Token) × Adds a b (front ++ more))
  pub stuck : (others : List Token) → first others ≡ first rest → step a (front ++ others) ≡ Err e

pub record Steps {A : Type 0} (step : Step A) (Good Whole : A → Type 0) (Adds : A → A → List Token → Type 0) (Behind Halts : A → Option Token → Type 0) : Type 0 where
  pub goes : (a : A) (ts : List Token) (b : A) (rest : List Token) → Good a → step a ts ≡ Ok (go b rest) → Goes Adds Behind a ts b rest
  pub stops : (a : A) (ts : List Token) (b : A) (rest : List Token) → Good a → step a ts ≡ Ok (stop b rest) → Stopped Whole Halts a ts b rest
  pub goes_again : (a b : A) (own rest : List Token) → Good a → Adds a b own → Behind b (first rest) → step a (own ++ rest) ≡ Ok (go b rest)
  pub stops_again : (a : A) (rest : List Token) → Good a → Whole a → Halts a (first rest) → step a rest ≡ Ok (stop a rest)
  pub err : (a : A) (ts : List Token) (e : SyntaxFault) → Good a → step a ts ≡ Err e → StepFaults step Adds a ts e
  pub good : (a b : A) (own : List Token) → Good a → Adds a b own → Good b
  pub some : (a b : A) (own : List Token) → Adds a b own → 0 < length own
  -- a list can go on with another item, and it can be ended
  pub follows : (a b : A) (own rest : List Token) → Adds a b own → Behind a (first (own ++ rest))
  pub finish : (a : A) → Good a → (b : A) × (ts : List Token) × Many Adds a b ts × Whole b

pub record StepsFault {A : Type 0} (step : Step A) (Whole : A → Type 0) (Adds : A → A → List Token → Type 0) (a : A) (ts : List Token) (e : SyntaxFault) : Type 0 where
  pub front : List Token
  pub rest : List Token
  pub parts : ts ≡ front ++ rest
  pub place : place_ahead rest ≡ place_of e
  pub value : A
  pub more : List Token
  pub viable : Many Adds a value (front ++ more) × Whole value
  pub stuck : (m : ℕ) (others : List Token) → first others ≡ first rest → length (front ++ others) < m → steps step m a (front ++ others) ≡ Err e

module _ {A : Type 0} {step : Step A} {Good Whole : A → Type 0} {Adds : A → A → List Token → Type 0} {Behind Halts : A → Option Token → Type 0}
    (S : Steps step Good Whole Adds Behind Halts) where
  abbrev Ends : A → Option Token → Type 0
  Ends a o = Behind a o × Halts a o

  -- a whole list
  abbrev Listed : A → A → List Token → Type 0
  Listed a b ts = Many Adds a b ts × Whole b

  abbrev after_more : ℕ → More A → Read A
  after_more n (go c ts) = steps step n c ts
  after_more n (stop c ts) = Ok (c, ts)

  abbrev then_steps : ℕ → Result (More A) SyntaxFault → Read A
  then_steps n r = r >>= λ m. elim m [ go c ts' ↦ steps step n c ts' | stop c ts' ↦ Ok (c, ts') ]

  more_parts : (own ts rest : List Token) (all : List Token) → all ≡ own ++ ts → (back : List Token) → ts ≡ back ++ rest → all ≡ (own ++ back) ++ rest
  more_parts own ts rest all e back h = e ∙ ap (λ (t : List Token). own ++ t) h ∙ sym (append_assoc own back rest)

  steps_ok : (n : ℕ) (a : A) (ts : List Token) (b : A) (rest : List Token) → Good a → length ts < n → Behind a (first ts) → steps step n a ts ≡ Ok (b, rest) → Begins (λ c own. Listed a c own) Ends ts b rest
  unfolding steps
  steps_ok zero a ts b rest good lt behind e = absurd (omega arith)
  steps_ok (suc n) a ts b rest good lt behind e =
      let x = bind_ok (step a ts) (λ m. elim m [ go c ts' ↦ steps step n c ts' | stop c ts' ↦ Ok (c, ts') ]) (b, rest) e in
      elim x.0 as (λ m. step a ts ≡ Ok m → after_more n m ≡ Ok (b, rest) → Begins (λ c own. Listed a c own) Ends ts b rest) [
        | go c us ↦ λ p q.
            let g = S.goes a ts c us good p in
            let shorter : length us < n = omega (arith, S.some a c g.own g.adds, ap length g.parts, length-append g.own us) in
            let r = steps_ok n c us b rest (S.good a c g.own good g.adds) shorter g.behind q in
            record { own = g.own ++ r.own; parts = more_parts g.own us rest ts g.parts r.own r.parts; fits = (more refl g.adds r.fits.0, r.fits.1); stops = r.stops }
        | stop c us ↦ λ p q.
            let s = S.stops a ts c us good p in
            let k = ok_is (c, us) (b, rest) q in
            let c-is : c ≡ b = ap (λ (y : A × List Token). y.0) k in
            let us-is : us ≡ rest = ap (λ (y : A × List Token). y.1) k in
            let h : Halts b (first rest) = subst (λ (y : A × List Token). Halts y.0 (first y.1)) k s.halts in
            let w : Behind b (first rest) = subst (λ (y : A × List Token). Behind y.0 (first y.1)) k (subst (λ (t : List Token). Behind c (first t)) s.left (subst (λ (d : A). Behind d (first ts)) s.same behind)) in
            record { own = []; parts = s.left ∙ us-is; fits = (none (s.same ∙ c-is) refl, subst (λ (y : A). Whole y) c-is s.whole); stops = (w, h) }
      ] x.1 x.2

  pub starts : (c b : A) (others rest : List Token) → Many Adds c b others → Ends b (first rest) → Behind c (first (others ++ rest))
  starts c b others rest (none e h) s = subst (λ (t : List Token). Behind c (first (t ++ rest))) (sym h) (subst (λ (d : A). Behind d (first rest)) (sym e) s.0)
  starts c b others rest (more {b = d} {own = one} {rest = behind} e adds m) s =
      let split : others ++ rest ≡ one ++ (behind ++ rest) = ap (λ (t : List Token). t ++ rest) e ∙ append_assoc one behind rest in
      subst (λ (t : List Token). Behind c (first t)) (sym split) (S.follows c d one (behind ++ rest) adds)

  steps_again : (n : ℕ) (a b : A) (own rest : List Token) → Good a → length (own ++ rest) < n → Many Adds a b own → Whole b → Ends b (first rest) → steps step n a (own ++ rest) ≡ Ok (b, rest)
  unfolding steps
  steps_again zero a b own rest good lt m z s = absurd (omega arith)
  steps_again (suc n) a b own rest good lt (none e h) z s =
      let halts : Halts a (first rest) = subst (λ (c : A). Halts c (first rest)) (sym e) s.1 in
      ap (λ (t : List Token). then_steps n (step a (t ++ rest))) h ∙ ap (then_steps n) (S.stops_again a rest good (subst (λ (c : A). Whole c) (sym e) z) halts) ∙ ap (λ (c : A). Ok (c, rest)) e
  steps_again (suc n) a b own rest good lt (more {b = c} {own = one} {rest = others} e adds m) z s =
      let split : own ++ rest ≡ one ++ (others ++ rest) = ap (λ (t : List Token). t ++ rest) e ∙ append_assoc one others rest in
      let shorter : length (others ++ rest) < n = omega (arith, S.some a c one adds, ap length split, length-append one (others ++ rest)) in
      let behind : Behind c (first (others ++ rest)) = starts c b others rest m s in
      ap (λ (t : List Token). then_steps n (step a t)) split ∙ ap (then_steps n) (S.goes_again a c one (others ++ rest) good adds behind) ∙ steps_again n c b others rest (S.good a c one good adds) shorter m z s

  fails_once : (m : ℕ) (a : A) (ts : List Token) (e : SyntaxFault) → length ts < m → step a ts ≡ Err e → steps step m a ts ≡ Err e
  unfolding steps
  fails_once zero a ts e lt h = absurd (omega arith)
  fails_once (suc m) a ts e lt h = ap (then_steps m) h

  goes_once : (m : ℕ) (a : A) (all : List Token) (c : A) (own ts : List Token) (e : SyntaxFault) → length all < m → all ≡ own ++ ts → 0 < length own → step a (own ++ ts) ≡ Ok (go c ts)
      → ((k : ℕ) → length ts < k → steps step k c ts ≡ Err e) → steps step m a all ≡ Err e
  unfolding steps
  goes_once zero a all c own ts e lt split some h next = absurd (omega arith)
  goes_once (suc m) a all c own ts e lt split some h next =
      ap (λ (t : List Token). then_steps m (step a t)) split ∙ ap (then_steps m) h ∙ next m (omega (arith, ap length split, length-append own ts))

  steps_err : (n : ℕ) (a : A) (ts : List Token) (e : SyntaxFault) → Good a → length ts < n → Behind a (first ts) → steps step n a ts ≡ Err e → StepsFault step Whole Adds a ts e
  unfolding steps
  steps_err zero a ts e good lt w h = absurd (omega arith)
  steps_err (suc n) a ts e good lt w h = elim (bind_err (step a ts) (λ m. elim m [ go c ts' ↦ steps step n c ts' | stop c ts' ↦ Ok (c, ts') ]) e h) [
    | inl k ↦
        let p = S.err a ts e good k in
        let stuck : (m : ℕ) (others : List Token) → first others ≡ first p.rest → length (p.front ++ others) < m → steps step m a (p.front ++ others) ≡ Err e =
        λ m others o l. fails_once m a (p.front ++ others) e l (p.stuck others o) in
        elim p.viable [
          | inl none_before ↦
              let z = S.finish a good in
              record { front = p.front; rest = p.rest; parts = p.parts; place = p.place; value = z.0; more = z.1; viable = (subst (λ (t : List Token). Many Adds a z.0 (t ++ z.1)) (sym none_before) z.2, z.3); stuck = stuck }
          | inr v ↦
              let z = S.finish v.0 (S.good a v.0 (p.front ++ v.1) good v.2) in
              record { front = p.front; rest = p.rest; parts = p.parts; place = p.place; value = z.0; more = v.1 ++ z.1; viable = (more (sym (append_assoc p.front v.1 z.1)) v.2 z.2, z.3); stuck = stuck }
        ]
    | inr x ↦ elim x.0 as (λ m. step a ts ≡ Ok m → after_more n m ≡ Err e → StepsFault step Whole Adds a ts e) [
      | go c us ↦ λ p q.
          let g = S.goes a ts c us good p in
          let shorter : length us < n = omega (arith, S.some a c g.own g.adds, ap length g.parts, length-append g.own us) in
          let r = steps_err n c us e (S.good a c g.own good g.adds) shorter g.behind q in
          record {
            front = g.own ++ r.front;
            rest = r.rest;
            parts = more_parts g.own us r.rest ts g.parts r.front r.parts;
            place = r.place;
            value = r.value;
            more = r.more;
            viable = (more (append_assoc g.own r.front r.more) g.adds r.viable.0, r.viable.1);
            stuck = λ m others o l.
                let behind : Behind c (first (r.front ++ others)) = subst (λ (t : Option Token). Behind c t) (ap first r.parts ∙ sym (first_front r.front others r.rest o)) g.behind in
                goes_once m a (g.own ++ r.front ++ others) c g.own (r.front ++ others) e l (append_assoc g.own r.front others) (S.some a c g.own g.adds) (S.goes_again a c g.own (r.front ++ others) good g.adds behind) (λ k s. r.stuck k others o s);
          }
      | stop c us ↦ λ p q. absurd cc
    ] x.1 x.2
  ]

  repeat_ok : (a : A) (ts : List Token) (b : A) (rest : List Token) → Good a → Behind a (first ts) → repeat step a ts ≡ Ok (b, rest) → Begins (λ c own. Listed a c own) Ends ts b rest
  unfolding repeat
  repeat_ok a ts b rest good w e = steps_ok (suc (length ts)) a ts b rest good (omega arith) w e

  repeat_again : (a b : A) (own rest : List Token) → Good a → Listed a b own → Ends b (first rest) → repeat step a (own ++ rest) ≡ Ok (b, rest)
  unfolding repeat
  repeat_again a b own rest good m s = steps_again (suc (length (own ++ rest))) a b own rest good (omega arith) m.0 m.1 s

  repeat_err : (a : A) (ts : List Token) (e : SyntaxFault) → Good a → Behind a (first ts) → repeat step a ts ≡ Err e → Faults (repeat step a) (λ c own. Listed a c own) ts e
  unfolding repeat
  repeat_err a ts e good w h =
      let p = steps_err (suc (length ts)) a ts e good (omega arith) w h in
      record { before = p.front; rest = p.rest; parts = p.parts; place = p.place; value = p.value; more = p.more; can_go_on = p.viable; again = λ others o. p.stuck (suc (length (p.front ++ others))) others o (omega arith) }

  pub repeats : (a : A) → Good a → Lawful (Behind a) (repeat step a) (λ c own. Listed a c own) Ends
  repeats a good = record {
    found = λ ts b rest w e. repeat_ok a ts b rest good w e;
    only = λ b own rest m s. repeat_again a b own rest good m s;
    least = λ ts e w h. repeat_err a ts e good w h;
    some = (let z = S.finish a good in (z.0, z.1, (z.2, z.3)));
  }
