-- Readings that are put together from lawful ones are lawful.
use Rattle.std.proofs.Common.{◌≡◌, ℕ, List, [], ◌∷◌, ◌++◌, Option, Some, None, Result, Ok, Err, refl, sym, ap, subst, ◌∙◌, append_assoc, ◌⊎◌, inl, inr, Bool, true, false, cond}
use Rattle.ddl_tokens.specs.declared.token.TokenKind.{TokenKind}
use Rattle.ddl_tokens.specs.declared.fault.SyntaxFault.{SyntaxFault}
use Rattle.ddl_tokens.specs.declared.fault.SyntaxFault.TheVariants.{Unexpected}
use Rattle.ddl_tokens.specs.Tokens.{Token}
use Rattle.ddl_tokens.specs.Reading.{Gives, is_word, is_signed, ◌>>=◌, Read, passes, is_keyword, is_the_sign, keyword_at, sign_at, bytes_at, bytes_ahead}
pub use Rattle.ddl_tokens.specs.Laws.{passes_first}
use Rattle.ddl_tokens.specs.Laws.{Starts, IfSyntax, first, place_of, Anyhow, Begins, IsLeast, Faults, Lawful, IsOne, judged, IsKeyword, IsSign, IsBytes, IsNothing, Then, Either, Made, Optional, OptionalStops}
use Rattle.std.specs.Prelude.{◌==◌, IfOk}
use Rattle.dict_value.specs.Memory.{UnlessNoMemory}
use Rattle.std.proofs.lemmas.Bool.{eqb-true, eq-eqb, cond-true, cond-false, cases_Bool}
use Rattle.ddl_tokens.specs.declared.token.TokenKind.TheVariants.{Word, QuotedWord, Number, String, Sign, Broken, End}
use Rattle.ddl_tokens.specs.declared.letters.LetterCase.{LetterCase}
use Rattle.ddl_tokens.specs.declared.letters.LetterCase.TheVariants.{Any, AsWritten}
use Rattle.ddl_tokens.specs.declared.fault.ReadFault.{ReadFault}
use Rattle.ddl_tokens.specs.declared.fault.ReadFault.TheVariants as fault
use Rattle.ddl_tokens.specs.Letters.{folded, same_letters}

-- ---- readings in a row

pub bind_ok : {A B : Type 0} (r : Result A SyntaxFault) (f : A → Result B SyntaxFault) (y : B) → (r >>= f) ≡ Ok y → (x : A) × (r ≡ Ok x) × (f x ≡ Ok y)
bind_ok (Ok x) f y e = (x, refl, e)
bind_ok (Err d) f y e = absurd cc

pub bind_err : {A B : Type 0} (r : Result A SyntaxFault) (f : A → Result B SyntaxFault) (d : SyntaxFault) → (r >>= f) ≡ Err d → (r ≡ Err d) ⊎ ((x : A) × (r ≡ Ok x) × (f x ≡ Err d))
bind_err (Ok x) f d e = inr (x, refl, e)
bind_err (Err c) f d e = inl (let k : c ≡ d = cc in ap (λ (x : SyntaxFault). Err x) k)

abbrev pub ok_of : {A : Type 0} → A → Result A SyntaxFault
ok_of x = Ok x

pub ok_is : {A : Type 0} (x y : A) → ok_of x ≡ ok_of y → x ≡ y
ok_is x y e = cc

pub first_front : (front others rest : List Token) → first others ≡ first rest → first (front ++ others) ≡ first (front ++ rest)
first_front [] others rest e = e
first_front (t ∷ front) others rest e = refl

pub test_cases : {A : Type 0} (b : Bool) (x y z : A) → cond b x y ≡ z → ((b ≡ true) × (x ≡ z)) ⊎ ((b ≡ false) × (y ≡ z))
test_cases true x y z e = inl (refl, e)
test_cases false x y z e = inr (refl, e)

-- a law that holds knowing less holds knowing more
pub knowing : {A : Type 0} {Before More : Option Token → Type 0} {read : List Token → Read A} {Own : A → List Token → Type 0} {Stops : A → Option Token → Type 0}
    → ((o : Option Token) → More o → Before o) → Lawful Before read Own Stops → Lawful More read Own Stops
knowing less F = record {
  found = λ ts a rest z e. F.found ts a rest (less (first ts) z) e;
  only = F.only;
  least = λ ts e z h. F.least ts e (less (first ts) z) h;
  some = F.some;
}

-- the same tokens, said otherwise
pub said : {A : Type 0} {Before : Option Token → Type 0} {read : List Token → Read A} {Own Other : A → List Token → Type 0} {Stops : A → Option Token → Type 0}
    → ((a : A) (ts : List Token) → Own a ts → Other a ts) → ((a : A) (ts : List Token) → Other a ts → Own a ts) → Lawful Before read Own Stops → Lawful Before read Other Stops
said to from F = record {
  found = λ ts a rest z e. let p = F.found ts a rest z e in record { own = p.own; parts = p.parts; fits = to a p.own p.fits; stops = p.stops };
  only = λ a own rest h s. F.only a own rest (from a own h) s;
  least = λ ts e z h. let p = F.least ts e z h in record { before = p.before; rest = p.rest; parts = p.parts; place = p.place; value = p.value; more = p.more; can_go_on = to p.value (p.before ++ p.more) p.can_go_on; again = p.again };
  some = (F.some.0, F.some.1, to F.some.0 F.some.1 F.some.2);
}

-- the same tokens behind it, said otherwise
pub stopping : {A : Type 0} {Before : Option Token → Type 0} {read : List Token → Read A} {Own : A → List Token → Type 0} {Stops Ends : A → Option Token → Type 0}
    → ((a : A) (own : List Token) (o : Option Token) → Own a own → Stops a o → Ends a o) → ((a : A) (own : List Token) (o : Option Token) → Own a own → Ends a o → Stops a o)
    → Lawful Before read Own Stops → Lawful Before read Own Ends
stopping to from F = record {
  found = λ ts a rest z e. let p = F.found ts a rest z e in record { own = p.own; parts = p.parts; fits = p.fits; stops = to a p.own (first rest) p.fits p.stops };
  only = λ a own rest h s. F.only a own rest h (from a own (first rest) h s);
  least = F.least;
  some = F.some;
}

-- a lawful reading's fault has the least place, without a word on how it is read
pub is_least : {A : Type 0} {Before : Option Token → Type 0} {read : List Token → Read A} {Own : A → List Token → Type 0} {Stops : A → Option Token → Type 0} → Lawful Before read Own Stops
    → (ts : List Token) (e : SyntaxFault) → Before (first ts) → read ts ≡ Err e → IsLeast Own Stops ts e
is_least {read = read} F ts e z h =
    let p = F.least ts e z h in
    record {
      before = p.before;
      rest = p.rest;
      parts = p.parts;
      place = p.place;
      value = p.value;
      more = p.more;
      can_go_on = p.can_go_on;
      stuck = λ a others own tail o same fits s.
          let r = sym (p.again others o) ∙ ap read same ∙ F.only a own tail fits s in
          cc;
    }

-- ---- nothing

pub nothing : {A : Type 0} {Before : Option Token → Type 0} (value : A) (Stops : A → Option Token → Type 0) → ((o : Option Token) → Before o → Stops value o)
    → Lawful Before (λ ts. Ok (value, ts)) (IsNothing value) Stops
nothing {A = A} value Stops into = record {
  found = λ ts a rest z e.
      let k = ok_is (value, ts) (a, rest) e in
      record { own = []; parts = ap (λ (p : A × List Token). p.1) k; fits = (sym (ap (λ (p : A × List Token). p.0) k), refl); stops = subst (λ (p : A × List Token). Stops p.0 (first p.1)) k (into (first ts) z) };
  only = λ a own rest h s. ap (λ (t : List Token). Ok (value, t ++ rest)) h.1 ∙ ap (λ (w : A). Ok (w, rest)) (sym h.0);
  least = λ ts e _ h. absurd cc;
  some = (value, [], (refl, refl));
}

-- ---- one token

first_none : (ts : List Token) → first ts ≡ None → ts ≡ []
first_none [] e = refl
first_none (t ∷ ts) e = absurd cc

-- a reading that is one token's judge
module _ {A : Type 0} (read : List Token → Read A) (judge : Token → Result A SyntaxFault)
    (none : read [] ≡ Err (Unexpected 0))
    (more : (t : Token) (ts : List Token) → read (t ∷ ts) ≡ (judge t >>= λ a. Ok (a, ts)))
    (placed : (t : Token) (e : SyntaxFault) → judge t ≡ Err e → t.place ≡ place_of e)
    (example : (a : A) × (t : Token) × (judge t ≡ Ok a)) where
  one_found : (ts : List Token) (a : A) (rest : List Token) → read ts ≡ Ok (a, rest) → Begins (IsOne judge) Anyhow ts a rest
  one_found [] a rest e = absurd (let k = sym none ∙ e in cc)
  one_found (t ∷ ts) a rest e =
      let x = bind_ok (judge t) (λ a. Ok (a, ts)) (a, rest) (sym (more t ts) ∙ e) in
      let k = ok_is (x.0, ts) (a, rest) x.2 in
      record { own = t ∷ []; parts = ap (λ (p : A × List Token). t ∷ p.1) k; fits = record { token = t; parts = refl; fine = x.1 ∙ ap (λ (p : A × List Token). ok_of p.0) k }; stops = tt }

  one_again : (t : Token) (e : SyntaxFault) → judge t ≡ Err e → (others : List Token) → first others ≡ Some t → read others ≡ Err e
  one_again t e h [] o = absurd cc
  one_again t e h (u ∷ us) o =
      let k : u ≡ t = cc in
      more u us ∙ ap (λ (r : Result A SyntaxFault). r >>= λ a. Ok (a, us)) (ap judge k ∙ h)

  one_least : (ts : List Token) (e : SyntaxFault) → read ts ≡ Err e → Faults read (IsOne judge) ts e
  one_least [] e h =
      let k : Unexpected 0 ≡ e = let m = sym none ∙ h in cc in
      record {
        before = [];
        rest = [];
        parts = refl;
        place = ap place_of k;
        value = example.0;
        more = example.1 ∷ [];
        can_go_on = record { token = example.1; parts = refl; fine = example.2 };
        again = λ others o. ap read (first_none others o) ∙ h;
      }
  one_least (t ∷ ts) e h =
      let k : judge t ≡ Err e = elim (bind_err (judge t) (λ a. Ok (a, ts)) e (sym (more t ts) ∙ h)) [ inl k ↦ k | inr x ↦ absurd (let y = x.2 in cc) ] in
      record {
        before = [];
        rest = t ∷ ts;
        parts = refl;
        place = placed t e k;
        value = example.0;
        more = example.1 ∷ [];
        can_go_on = record { token = example.1; parts = refl; fine = example.2 };
        again = λ others o. one_again t e k others o;
      }

  pub one_token : {Before : Option Token → Type 0} → Lawful Before read (IsOne judge) Anyhow
  one_token = record {
    found = λ ts a rest _ e. one_found ts a rest e;
    only = λ a own rest h s. ap (λ (t : List Token). read (t ++ rest)) h.parts ∙ more h.token rest ∙ ap (λ (r : Result A SyntaxFault). r >>= λ a. Ok (a, rest)) h.fine;
    least = λ ts e _ h. one_least ts e h;
    some = (example.0, example.1 ∷ [], record { token = example.1; parts = refl; fine = example.2 });
  }

judged_bind : {A : Type 0} (b : Bool) (a : A) (e : SyntaxFault) (ts : List Token) → cond {A = Read A} b (Ok (a, ts)) (Err e) ≡ (cond b (Ok a) (Err e) >>= λ x. Ok (x, ts))
judged_bind true a e ts = refl
judged_bind false a e ts = refl

judged_place : {A : Type 0} (b : Bool) (a : A) (n : ℕ) (e : SyntaxFault) → cond b (Ok a) (Err (Unexpected n)) ≡ Err e → n ≡ place_of e
judged_place true a n e h = absurd cc
judged_place false a n e h = let k : Unexpected n ≡ e = cc in ap place_of k

pub judged_ok : {A : Type 0} (b : Bool) (a x : A) (e : SyntaxFault) → cond b (Ok a) (Err e) ≡ Ok x → (b ≡ true) × (a ≡ x)
judged_ok true a x e h = (refl, cc)
judged_ok false a x e h = absurd cc

pub same_itself : (case : LetterCase) (word : List ℕ) → same_letters case word word ≡ true
unfolding same_letters
same_itself case [] = refl
same_itself case (b ∷ word) = cond-true (folded case b == folded case b) _ _ (eq-eqb (folded case b) (folded case b) refl) ∙ same_itself case word

pub sign : {Before : Option Token → Type 0} (c : ℕ) → Lawful Before (sign_at c) (IsSign c) Anyhow
unfolding sign_at passes is_the_sign
sign c =
    let t : Token = record { place = 0; kind = Sign; bytes = c ∷ [] } in
    one_token (sign_at c) (judged (is_the_sign c) (λ _. tt {0})) refl
    (λ u ts. judged_bind (is_the_sign c u) (tt {0}) (Unexpected u.place) ts)
    (λ u e k. judged_place (is_the_sign c u) (tt {0}) u.place e k)
    (tt {0}, t, ap (λ (b : Bool). cond b (Ok (tt {0})) (Err (Unexpected 0))) (same_itself AsWritten (c ∷ [])))

pub keyword : {Before : Option Token → Type 0} (word : List ℕ) → Lawful Before (keyword_at word) (IsKeyword word) Anyhow
unfolding keyword_at passes is_keyword
keyword word =
    let t : Token = record { place = 0; kind = Word; bytes = word } in
    one_token (keyword_at word) (judged (is_keyword word) (λ _. tt {0})) refl
    (λ u ts. judged_bind (is_keyword word u) (tt {0}) (Unexpected u.place) ts)
    (λ u e k. judged_place (is_keyword word u) (tt {0}) u.place e k)
    (tt {0}, t, ap (λ (b : Bool). cond b (Ok (tt {0})) (Err (Unexpected 0))) (same_itself Any word))

-- a token of a kind that is given as an example
pub bytes : {Before : Option Token → Type 0} (test : TokenKind → Bool) (kind : TokenKind) → test kind ≡ true → Lawful Before (bytes_at test) (IsBytes test) Anyhow
unfolding bytes_at passes bytes_ahead
bytes test kind h =
    let t : Token = record { place = 0; kind = kind; bytes = [] } in
    one_token (bytes_at test) (judged (λ u. test u.kind) (λ u. u.bytes)) refl
    (λ u ts. judged_bind (test u.kind) u.bytes (Unexpected u.place) ts)
    (λ u e k. judged_place (test u.kind) u.bytes u.place e k)
    ([], t, ap (λ (b : Bool). cond b (Ok []) (Err (Unexpected 0))) h)

-- ---- one thing behind another

module _ {A B : Type 0} {Before : Option Token → Type 0} {f : List Token → Read A} {g : A → List Token → Read B} {Own : A → List Token → Type 0} {Next : A → B → List Token → Type 0} {Stops : A → Option Token → Type 0} {Ends : B → Option Token → Type 0}
    (F : Lawful Before f Own Stops) (G : (a : A) → Lawful (Stops a) (g a) (Next a) Ends)
    (follows : (a : A) (b : B) (ts rest : List Token) → Next a b ts → Ends b (first rest) → Stops a (first (ts ++ rest))) where
  abbrev both : List Token → Read B
  both ts = f ts >>= λ x. g x.0 x.1

  both_found : (ts : List Token) (b : B) (rest : List Token) → Before (first ts) → both ts ≡ Ok (b, rest) → Begins (Then Own Next) Ends ts b rest
  both_found ts b rest h e =
      let x = bind_ok (f ts) (λ x. g x.0 x.1) (b, rest) e in
      let p = F.found ts x.0.0 x.0.1 h x.1 in
      let q = (G x.0.0).found x.0.1 b rest p.stops x.2 in
      record {
        own = p.own ++ q.own;
        parts = p.parts ∙ ap (λ (t : List Token). p.own ++ t) q.parts ∙ sym (append_assoc p.own q.own rest);
        fits = record { value = x.0.0; front = p.own; back = q.own; parts = refl; before = p.fits; behind = q.fits };
        stops = q.stops;
      }

  both_only : (b : B) (own rest : List Token) → Then Own Next b own → Ends b (first rest) → both (own ++ rest) ≡ Ok (b, rest)
  both_only b own rest h s =
      let e : own ++ rest ≡ h.front ++ (h.back ++ rest) = ap (λ (t : List Token). t ++ rest) h.parts ∙ append_assoc h.front h.back rest in
      ap both e ∙ ap (λ (r : Read A). r >>= λ x. g x.0 x.1) (F.only h.value h.front (h.back ++ rest) h.before (follows h.value b h.back rest h.behind s)) ∙ (G h.value).only b h.back rest h.behind s

  both_least : (ts : List Token) (e : SyntaxFault) → Before (first ts) → both ts ≡ Err e → Faults both (Then Own Next) ts e
  both_least ts e z h = elim (bind_err (f ts) (λ x. g x.0 x.1) e h) [
    | inl k ↦
        let p = F.least ts e z k in
        let s = (G p.value).some in
        record {
          before = p.before;
          rest = p.rest;
          parts = p.parts;
          place = p.place;
          value = s.0;
          more = p.more ++ s.1;
          can_go_on = record { value = p.value; front = p.before ++ p.more; back = s.1; parts = sym (append_assoc p.before p.more s.1); before = p.can_go_on; behind = s.2 };
          again = λ others o. ap (λ (r : Read A). r >>= λ x. g x.0 x.1) (p.again others o);
        }
    | inr x ↦
        let p = F.found ts x.0.0 x.0.1 z x.1 in
        let q = (G x.0.0).least x.0.1 e p.stops x.2 in
        record {
          before = p.own ++ q.before;
          rest = q.rest;
          parts = p.parts ∙ ap (λ (t : List Token). p.own ++ t) q.parts ∙ sym (append_assoc p.own q.before q.rest);
          place = q.place;
          value = q.value;
          more = q.more;
          can_go_on = record { value = x.0.0; front = p.own; back = q.before ++ q.more; parts = append_assoc p.own q.before q.more; before = p.fits; behind = q.can_go_on };
          again = λ others o.
              let s : Stops x.0.0 (first (q.before ++ others)) = subst (λ (o : Option Token). Stops x.0.0 o) (ap first q.parts ∙ sym (first_front q.before others q.rest o)) p.stops in
              ap both (append_assoc p.own q.before others) ∙ ap (λ (r : Read A). r >>= λ y. g y.0 y.1) (F.only x.0.0 p.own (q.before ++ others) p.fits s) ∙ q.again others o;
        }
  ]

  -- where it matters what follows the first
  pub then_after : Lawful Before both (Then Own Next) Ends
  then_after = record {
    found = both_found;
    only = both_only;
    least = both_least;
    some = (let a = F.some in let b = (G a.0).some in (b.0, a.1 ++ b.1, record { value = a.0; front = a.1; back = b.1; parts = refl; before = a.2; behind = b.2 }));
  }

pub then : {A B : Type 0} {Before : Option Token → Type 0} {f : List Token → Read A} {g : A → List Token → Read B} {Own : A → List Token → Type 0} {Next : A → B → List Token → Type 0} {Ends : B → Option Token → Type 0}
    → Lawful Before f Own Anyhow → ((a : A) → Lawful (Anyhow a) (g a) (Next a) Ends) → Lawful Before (λ ts. f ts >>= λ x. g x.0 x.1) (Then Own Next) Ends
then F G = then_after F G (λ a b ts rest h s. tt)

-- ---- what is made of something

pub made : {A B : Type 0} {Before : Option Token → Type 0} {read : List Token → Read A} {Own : A → List Token → Type 0} {Stops : A → Option Token → Type 0} (make : A → B) (Ends : B → Option Token → Type 0)
    → ((a : A) (o : Option Token) → Stops a o → Ends (make a) o) → ((a : A) (o : Option Token) → Ends (make a) o → Stops a o)
    → Lawful Before read Own Stops → Lawful Before (λ ts. read ts >>= λ x. Ok (make x.0, x.1)) (Made make Own) Ends
made {A = A} {B = B} {read = read} {Own = Own} make Ends into out F = record {
  found = λ ts b rest z e.
      let x = bind_ok (read ts) (λ x. Ok (make x.0, x.1)) (b, rest) e in
      let k = ok_is (make x.0.0, x.0.1) (b, rest) x.2 in
      let p = F.found ts x.0.0 x.0.1 z x.1 in
      record {
        own = p.own;
        parts = p.parts ∙ ap (λ (y : B × List Token). p.own ++ y.1) k;
        fits = record { from = x.0.0; is = sym (ap (λ (y : B × List Token). y.0) k); fits = p.fits };
        stops = subst (λ (y : B × List Token). Ends y.0 (first y.1)) k (into x.0.0 (first x.0.1) p.stops);
      };
  only = λ b own rest h s.
      ap (λ (r : Read A). r >>= λ x. Ok (make x.0, x.1)) (F.only h.from own rest h.fits (out h.from (first rest) (subst (λ (y : B). Ends y (first rest)) h.is s)))
      ∙ ap (λ (y : B). Ok (y, rest)) (sym h.is);
  least = λ ts e z h. elim (bind_err (read ts) (λ x. Ok (make x.0, x.1)) e h) [
    | inl k ↦
        let p = F.least ts e z k in
        record {
          before = p.before;
          rest = p.rest;
          parts = p.parts;
          place = p.place;
          value = make p.value;
          more = p.more;
          can_go_on = record { from = p.value; is = refl; fits = p.can_go_on };
          again = λ others o. ap (λ (r : Read A). r >>= λ x. Ok (make x.0, x.1)) (p.again others o);
        }
    | inr x ↦ absurd (let y = x.2 in cc)
  ];
  some = (make F.some.0, F.some.1, record { from = F.some.0; is = refl; fits = F.some.2 });
}

-- ---- one or the other, by the token in hand

pub passes-first : (test : Token → Bool) (ts : List Token) → passes test ts ≡ passes_first test (first ts)
unfolding passes
passes-first test [] = refl
passes-first test (t ∷ ts) = refl

-- the token in hand passes the test
abbrev pub Passes : (Token → Bool) → Option Token → Type 0
Passes test o = passes_first test o ≡ true

abbrev pub Fails : (Token → Bool) → Option Token → Type 0
Fails test o = passes_first test o ≡ false

module _ {A : Type 0} (test : Token → Bool) {f g : List Token → Read A} {Own Other : A → List Token → Type 0} {Stops Ends : A → Option Token → Type 0} (Halts : A → Option Token → Type 0)
    (F : Lawful (Passes test) f Own Stops) (G : Lawful (Fails test) g Other Ends)
    (yes : (a : A) (own rest : List Token) → Own a own → Passes test (first (own ++ rest)))
    (no : (a : A) (own rest : List Token) → Other a own → Halts a (first rest) → Fails test (first (own ++ rest)))
    (into : (a : A) (own : List Token) (o : Option Token) → Own a own → Stops a o → Halts a o)
    (out : (a : A) (own : List Token) (o : Option Token) → Own a own → Halts a o → Stops a o)
    (into_other : (a : A) (own rest : List Token) → Other a own → Ends a (first rest) → Fails test (first (own ++ rest)) → Halts a (first rest))
    (out_other : (a : A) (own : List Token) (o : Option Token) → Other a own → Halts a o → Ends a o) where
  abbrev choice : List Token → Read A
  choice ts = cond (passes test ts) (f ts) (g ts)

  passes-at : (ts : List Token) (b : Bool) → passes test ts ≡ b → passes_first test (first ts) ≡ b
  passes-at ts b e = sym (passes-first test ts) ∙ e

  at-passes : (ts : List Token) (b : Bool) → passes_first test (first ts) ≡ b → passes test ts ≡ b
  at-passes ts b e = passes-first test ts ∙ e

  choice_found : (ts : List Token) (a : A) (rest : List Token) → choice ts ≡ Ok (a, rest) → Begins (Either Own Other) Halts ts a rest
  choice_found ts a rest e = elim (test_cases (passes test ts) (f ts) (g ts) (Ok (a, rest)) e) [
    | inl k ↦ let p = F.found ts a rest (passes-at ts true k.0) k.1 in record { own = p.own; parts = p.parts; fits = inl p.fits; stops = into a p.own (first rest) p.fits p.stops }
    | inr k ↦
        let p = G.found ts a rest (passes-at ts false k.0) k.1 in
        record { own = p.own; parts = p.parts; fits = inr p.fits; stops = into_other a p.own rest p.fits p.stops (passes-at (p.own ++ rest) false (ap (passes test) (sym p.parts) ∙ k.0)) }
  ]

  choice_only : (a : A) (own rest : List Token) → Either Own Other a own → Halts a (first rest) → choice (own ++ rest) ≡ Ok (a, rest)
  choice_only a own rest h s = elim h [
    | inl k ↦ ap (λ (b : Bool). cond b (f (own ++ rest)) (g (own ++ rest))) (at-passes (own ++ rest) true (yes a own rest k)) ∙ F.only a own rest k (out a own (first rest) k s)
    | inr k ↦ ap (λ (b : Bool). cond b (f (own ++ rest)) (g (own ++ rest))) (at-passes (own ++ rest) false (no a own rest k s)) ∙ G.only a own rest k (out_other a own (first rest) k s)
  ]

  same_test : (front others rest ts : List Token) (b : Bool) → first others ≡ first rest → ts ≡ front ++ rest → passes test ts ≡ b → passes test (front ++ others) ≡ b
  same_test front others rest ts b o p e =
      at-passes (front ++ others) b (ap (passes_first test) (first_front front others rest o) ∙ sym (passes-first test (front ++ rest)) ∙ ap (passes test) (sym p) ∙ e)

  choice_least : (ts : List Token) (e : SyntaxFault) → choice ts ≡ Err e → Faults choice (Either Own Other) ts e
  choice_least ts e h = elim (test_cases (passes test ts) (f ts) (g ts) (Err e) h) [
    | inl k ↦ let p = F.least ts e (passes-at ts true k.0) k.1 in record {
      before = p.before;
      rest = p.rest;
      parts = p.parts;
      place = p.place;
      value = p.value;
      more = p.more;
      can_go_on = inl p.can_go_on;
      again = λ others o. ap (λ (b : Bool). cond b (f (p.before ++ others)) (g (p.before ++ others))) (same_test p.before others p.rest ts true o p.parts k.0) ∙ p.again others o;
    }
    | inr k ↦ let p = G.least ts e (passes-at ts false k.0) k.1 in record {
      before = p.before;
      rest = p.rest;
      parts = p.parts;
      place = p.place;
      value = p.value;
      more = p.more;
      can_go_on = inr p.can_go_on;
      again = λ others o. ap (λ (b : Bool). cond b (f (p.before ++ others)) (g (p.before ++ others))) (same_test p.before others p.rest ts false o p.parts k.0) ∙ p.again others o;
    }
  ]

  pub by_token : {Before : Option Token → Type 0} → Lawful Before choice (Either Own Other) Halts
  by_token = record {
    found = λ ts a rest _ e. choice_found ts a rest e;
    only = choice_only;
    least = λ ts e _ h. choice_least ts e h;
    some = (F.some.0, F.some.1, inl F.some.2);
  }

-- ---- something or nothing

-- the tokens of an a begin with one that passes the test
abbrev pub Headed : {A : Type 0} → (Token → Bool) → (A → List Token → Type 0) → Type 0
Headed {A = A} test Own = (a : A) (own : List Token) → Own a own → (t : Token) × (rest : List Token) × (own ≡ t ∷ rest) × (test t ≡ true)

optional_ends : {A : Type 0} (test : Token → Bool) (Stops : A → Option Token → Type 0) (o : Option Token) → passes_first test o ≡ false → OptionalStops test Stops None o
optional_ends test Stops None e = tt
optional_ends test Stops (Some t) e = e

ends_optional : {A : Type 0} (test : Token → Bool) (Stops : A → Option Token → Type 0) (o : Option Token) → OptionalStops test Stops None o → passes_first test o ≡ false
ends_optional test Stops None e = refl
ends_optional test Stops (Some t) e = e

pub optional : {A : Type 0} {Before : Option Token → Type 0} (test : Token → Bool) {read : List Token → Read A} {Own : A → List Token → Type 0} {Stops : A → Option Token → Type 0}
    → Headed test Own → Lawful (Passes test) read Own Stops
    → Lawful Before (λ ts. cond (passes test ts) (read ts >>= λ x. Ok (Some x.0, x.1)) (Ok (None, ts))) (Optional Own) (OptionalStops test Stops)
optional {A = A} test {read = read} {Own = Own} {Stops = Stops} headed F =
    said to from
    (by_token test (OptionalStops test Stops) (made (λ a. Some a) (OptionalStops test Stops) (λ a o s. s) (λ a o s. s) F) (nothing None (λ a o. passes_first test o ≡ false) (λ o e. e))
    (λ a own rest h. head_passes h.from own rest h.fits) (λ a own rest h s. none_passes a own rest h s)
    (λ a own o h s. s) (λ a own o h s. s)
    (λ a own rest h s e. subst (λ (x : Option A). OptionalStops test Stops x (first rest)) (sym h.0) (optional_ends test Stops (first rest) s))
    (λ a own o h s. ends_optional test Stops o (subst (λ (x : Option A). OptionalStops test Stops x o) h.0 s))) where
      head_passes : (a : A) (own rest : List Token) → Own a own → Passes test (first (own ++ rest))
      head_passes a own rest h = let p = headed a own h in ap (λ (ts : List Token). passes_first test (first (ts ++ rest))) p.2 ∙ p.3

      none_passes : (a : Option A) (own rest : List Token) → IsNothing None a own → OptionalStops test Stops a (first rest) → Fails test (first (own ++ rest))
      none_passes a own rest h s = ap (λ (ts : List Token). passes_first test (first (ts ++ rest))) h.1 ∙ ends_optional test Stops (first rest) (subst (λ (x : Option A). OptionalStops test Stops x (first rest)) h.0 s)

      to : (a : Option A) (ts : List Token) → Either (Made (λ a. Some a) Own) (IsNothing None) a ts → Optional Own a ts
      to a ts (inl h) = subst (λ (x : Option A). Optional Own x ts) (sym h.is) h.fits
      to a ts (inr h) = subst (λ (x : Option A). Optional Own x ts) (sym h.0) h.1

      from : (a : Option A) (ts : List Token) → Optional Own a ts → Either (Made (λ a. Some a) Own) (IsNothing None) a ts
      from None ts h = inr (refl, h)
      from (Some a) ts h = inl (record { from = a; is = refl; fits = h })

-- what begins with a token that passes a test
pub headed : {A B : Type 0} (test : Token → Bool) (value : Token → A) (Next : A → B → List Token → Type 0) → Headed test (Then (IsOne (judged test value)) Next)
headed test value Next b own h =
    let one = h.before in
    (one.token, h.back, h.parts ∙ ap (λ (ts : List Token). ts ++ h.back) one.parts, (judged_ok (test one.token) (value one.token) h.value (Unexpected one.token.place) one.fine).0)

-- the first token of what begins with one that passes a test
pub first_passes : {A B : Type 0} (test : Token → Bool) (value : Token → A) (Next : A → B → List Token → Type 0) (b : B) (own rest : List Token) → Then (IsOne (judged test value)) Next b own
    → (t : Token) × (first (own ++ rest) ≡ Some t) × (test t ≡ true)
first_passes test value Next b own rest h = let p = headed test value Next b own h in (p.0, ap (λ (ts : List Token). first (ts ++ rest)) p.2, p.3)

-- ---- words and signs are apart

same_letters_first : (case : LetterCase) (text word other : List ℕ) → same_letters case text word ≡ true → same_letters case text other ≡ true → same_letters case word other ≡ true
unfolding same_letters
same_letters_first case [] [] other e f = f
same_letters_first case [] (k ∷ word) other e f = absurd cc
same_letters_first case (b ∷ text) [] other e f = absurd cc
same_letters_first case (b ∷ text) (k ∷ word) [] e f = absurd cc
same_letters_first case (b ∷ text) (k ∷ word) (m ∷ other) e f =
    elim (test_cases (folded case b == folded case k) (same_letters case text word) false true e) [
      | inr x ↦ absurd (let y = x.1 in cc)
      | inl x ↦ elim (test_cases (folded case b == folded case m) (same_letters case text other) false true f) [
        | inr y ↦ absurd (let z = y.1 in cc)
        | inl y ↦
            let same : folded case k ≡ folded case m = sym (eqb-true (folded case b) (folded case k) x.0) ∙ eqb-true (folded case b) (folded case m) y.0 in
            cond-true (folded case k == folded case m) _ _ (eq-eqb (folded case k) (folded case m) same) ∙ same_letters_first case text word other x.1 y.1
      ]
    ]

-- a token that is one keyword is no other
pub keywords_apart : (word other : List ℕ) (t : Token) → same_letters Any word other ≡ false → is_keyword word t ≡ true → is_keyword other t ≡ false
unfolding is_keyword
keywords_apart word other t apart e = elim (test_cases (is_word t.kind) (same_letters Any t.bytes word) false true e) [
  | inr x ↦ absurd (let y = x.1 in cc)
  | inl x ↦ elim (cases_Bool (same_letters Any t.bytes other)) [
    | inr y ↦ cond-true (is_word t.kind) _ _ x.0 ∙ y
    | inl y ↦ absurd (let z = sym (same_letters_first Any t.bytes word other x.1 y) ∙ apart in cc)
  ]
]

-- a token that is one sign is no other
pub signs_apart : (sign other : ℕ) (t : Token) → same_letters AsWritten (sign ∷ []) (other ∷ []) ≡ false → is_the_sign sign t ≡ true → is_the_sign other t ≡ false
unfolding is_the_sign
signs_apart sign other t apart e = elim (test_cases (is_signed t.kind) (same_letters AsWritten t.bytes (sign ∷ [])) false true e) [
  | inr x ↦ absurd (let y = x.1 in cc)
  | inl x ↦ elim (cases_Bool (same_letters AsWritten t.bytes (other ∷ []))) [
    | inr y ↦ cond-true (is_signed t.kind) _ _ x.0 ∙ y
    | inl y ↦ absurd (let z = sym (same_letters_first AsWritten t.bytes (sign ∷ []) (other ∷ []) x.1 y) ∙ apart in cc)
  ]
]

-- a sign is no word
pub sign_no_keyword : (sign : ℕ) (word : List ℕ) (t : Token) → is_the_sign sign t ≡ true → is_keyword word t ≡ false
unfolding is_the_sign is_keyword
sign_no_keyword sign word t e = elim (test_cases (is_signed t.kind) (same_letters AsWritten t.bytes (sign ∷ [])) false true e) [
  | inr x ↦ absurd (let y = x.1 in cc)
  | inl x ↦ cond-false (is_word t.kind) _ _ (no_word t.kind x.0)
] where
  no_word : (k : TokenKind) → is_signed k ≡ true → is_word k ≡ false
  no_word Word h = absurd cc
  no_word QuotedWord h = refl
  no_word Number h = refl
  no_word String h = refl
  no_word Sign h = refl
  no_word Broken h = refl
  no_word End h = refl

-- ---- what a call that gives a lawful reading answers

pub is_found : {A : Type 0} {read : List Token → Read A} {Own : A → List Token → Type 0} {Stops : A → Option Token → Type 0} → Lawful (λ _. Unit {0}) read Own Stops
    → (ts rest : List Token) (result : Result A ReadFault) → Gives (λ a. a) result rest (read ts) → IfOk result (λ a. Starts Own Stops ts a)
is_found F ts rest (Ok a) h = (rest, F.found ts a rest tt (h (λ e. absurd cc)))
is_found F ts rest (Err e) h = tt

pub is_only : {A : Type 0} {read : List Token → Read A} {Own : A → List Token → Type 0} {Stops : A → Option Token → Type 0} → Lawful (λ _. Unit {0}) read Own Stops
    → (ts rest : List Token) (result : Result A ReadFault) → Gives (λ a. a) result rest (read ts) → (own tail : List Token) (a : A) → ts ≡ own ++ tail → Own a own → Stops a (first tail)
    → UnlessNoMemory (Err fault.NoMemory) result (result ≡ Ok a)
is_only {read = read} F ts rest (Ok b) h own tail a e f s = λ n.
    let same = ok_is (b, rest) (a, tail) (sym (h n) ∙ ap read e ∙ F.only a own tail f s) in
    ap (λ (p : _ × List Token). Ok p.0) same
is_only {read = read} F ts rest (Err (fault.Syntax g)) h own tail a e f s = λ n. absurd (let same = sym (h n) ∙ ap read e ∙ F.only a own tail f s in cc)
is_only F ts rest (Err fault.NoMemory) h own tail a e f s = λ n. absurd (n refl)

pub is_told_least : {A : Type 0} {read : List Token → Read A} {Own : A → List Token → Type 0} {Stops : A → Option Token → Type 0} → Lawful (λ _. Unit {0}) read Own Stops
    → (ts rest : List Token) (result : Result A ReadFault) → Gives (λ a. a) result rest (read ts) → IfSyntax result (λ e. IsLeast Own Stops ts e)
is_told_least F ts rest (Ok a) h = tt
is_told_least F ts rest (Err (fault.Syntax e)) h = is_least F ts e tt (h (λ x. absurd cc))
is_told_least F ts rest (Err fault.NoMemory) h = tt
