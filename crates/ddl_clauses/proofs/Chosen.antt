-- Tokens that are judged by their bytes, and readings that have to pass a test, keep the laws.
use Rattle.std.proofs.Common.{◌≡◌, ℕ, Bool, true, false, cond, List, ◌++◌, Option, Some, None, Result, Ok, Err, refl, sym, ap, subst, ◌∙◌, inl, inr, append_assoc}
use Rattle.std.proofs.lemmas.Bool.{cond-true, cond-false}
use Rattle.ddl_tokens.specs.declared.token.TokenKind.{TokenKind}
use Rattle.ddl_tokens.specs.declared.token.TokenKind.TheVariants.{End}
use Rattle.ddl_tokens.specs.declared.fault.SyntaxFault.{SyntaxFault}
use Rattle.ddl_tokens.specs.declared.fault.SyntaxFault.TheVariants.{Unexpected}
use Rattle.ddl_tokens.specs.Tokens.{Token}
use Rattle.ddl_tokens.specs.Reading.{◌>>=◌, Read, kind_ahead, place_ahead, bytes_ahead, unexpected}
use Rattle.ddl_tokens.specs.Laws.{Grammar, place_of, Anyhow, Lawful}
use Rattle.ddl_tokens.proofs.Laws.{bind_ok, bind_err, ok_is, test_cases, one_token}
use Rattle.ddl_tokens.proofs.Once.{place_same}
use Rattle.ddl_clauses.specs.Choices.{Meaning, choice, chosen_at, or_fault, meant_by}
use Rattle.ddl_clauses.specs.SettingLists.{if_passing}
use Rattle.ddl_clauses.specs.Grammar.{IsChosen}

cond_bind : {A : Type 0} (b : Bool) (r : Result A SyntaxFault) (e : SyntaxFault) (ts : List Token) → cond {A = Read A} b (r >>= λ a. Ok (a, ts)) (Err e) ≡ (cond b r (Err e) >>= λ a. Ok (a, ts))
cond_bind true r e ts = refl
cond_bind false r e ts = refl

choice_placed : {A : Type 0} (test : TokenKind → Bool) (meaning : Meaning A) → ((p : ℕ) (b : List ℕ) (e : SyntaxFault) → meaning p b ≡ Err e → p ≡ place_of e)
    → (t : Token) (e : SyntaxFault) → choice test meaning t ≡ Err e → t.place ≡ place_of e
choice_placed test meaning placed t e h = elim (test_cases (test t.kind) _ _ _ h) [
  | inl x ↦ placed t.place t.bytes e x.1
  | inr x ↦ let k : Unexpected t.place ≡ e = let y = x.1 in cc in ap place_of k
]

-- faults are told at the token's place, and some bytes have a meaning
pub chosen : {A : Type 0} {Before : Option Token → Type 0} (test : TokenKind → Bool) (meaning : Meaning A) → test End ≡ false
    → ((p : ℕ) (b : List ℕ) (e : SyntaxFault) → meaning p b ≡ Err e → p ≡ place_of e)
    → (kind : TokenKind) (bytes : List ℕ) (a : A) → test kind ≡ true → meaning 0 bytes ≡ Ok a
    → Lawful Before (chosen_at test meaning) (IsChosen test meaning) Anyhow
unfolding chosen_at kind_ahead bytes_ahead
chosen test meaning end placed kind bytes a k m =
    let t : Token = record { place = 0; kind = kind; bytes = bytes } in
    one_token (chosen_at test meaning) (choice test meaning)
    (cond-false (test End) _ _ end)
    (λ u us. cond_bind (test u.kind) (meaning u.place u.bytes) (Unexpected u.place) us)
    (choice_placed test meaning placed)
    (a, t, cond-true (test kind) (meaning 0 bytes) (Err (Unexpected 0)) k ∙ m)

pub meant_placed : {A : Type 0} (fault : ℕ → SyntaxFault) (value : List ℕ → Option A) → ((p : ℕ) → p ≡ place_of (fault p))
    → (p : ℕ) (b : List ℕ) (e : SyntaxFault) → meant_by fault value p b ≡ Err e → p ≡ place_of e
meant_placed {A = A} fault value placed p b e h = at (value b) h where
  at : (o : Option A) → or_fault (fault p) o ≡ Err e → p ≡ place_of e
  at None h = let k : fault p ≡ e = cc in placed p ∙ ap place_of k
  at (Some a) h = absurd cc

-- what can go on to one that passes the test
abbrev pub Completes : {A : Type 0} → (A → Bool) → Grammar A → Type 0
Completes {A = A} test Own = (a : A) (own : List Token) → Own a own → (b : A) × (more : List Token) × Own b (own ++ more) × (test b ≡ true)

module _ {A : Type 0} {Before : Option Token → Type 0} {read : List Token → Read A} {Own : A → List Token → Type 0} {Stops : A → Option Token → Type 0}
    (test : A → Bool) (F : Lawful Before read Own Stops) (completes : Completes test Own) where
  abbrev tested : List Token → Read A
  tested ts = read ts >>= if_passing test

  abbrev Passing : A → List Token → Type 0
  Passing a own = Own a own × (test a ≡ true)

  pub tested_law : Lawful Before tested Passing Stops
  tested_law = record {
    found = λ ts a rest z e.
        let x = bind_ok (read ts) (if_passing test) (a, rest) e in
        elim (test_cases (test x.0.0) _ _ _ x.2) [
          | inl k ↦
              let same = ok_is (x.0.0, x.0.1) (a, rest) k.1 in
              let p = F.found ts a rest z (x.1 ∙ ap (λ (y : A × List Token). Ok y) same) in
              record { own = p.own; parts = p.parts; fits = (p.fits, subst (λ (y : A × List Token). test y.0 ≡ true) same k.0); stops = p.stops }
          | inr k ↦ absurd (let y = k.1 in cc)
        ];
    only = λ a own rest h s. ap (λ (r : Read A). r >>= if_passing test) (F.only a own rest h.0 s) ∙ cond-true (test a) (Ok (a, rest)) (unexpected rest) h.1;
    least = λ ts e z h. elim (bind_err (read ts) (if_passing test) e h) [
      | inl k ↦
          let p = F.least ts e z k in
          let c = completes p.value (p.before ++ p.more) p.can_go_on in
          record {
            before = p.before;
            rest = p.rest;
            parts = p.parts;
            place = p.place;
            value = c.0;
            more = p.more ++ c.1;
            can_go_on = (subst (λ (us : List Token). Own c.0 us) (append_assoc p.before p.more c.1) c.2, c.3);
            again = λ others o. ap (λ (r : Read A). r >>= if_passing test) (p.again others o);
          }
      | inr x ↦ elim (test_cases (test x.0.0) _ _ _ x.2) [
        | inl k ↦ absurd (let y = k.1 in cc)
        | inr k ↦
            let here : Unexpected (place_ahead x.0.1) ≡ e = let y = k.1 in cc in
            let p = F.found ts x.0.0 x.0.1 z x.1 in
            let c = completes x.0.0 p.own p.fits in
            record {
              before = p.own;
              rest = x.0.1;
              parts = p.parts;
              place = ap place_of here;
              value = c.0;
              more = c.1;
              can_go_on = (c.2, c.3);
              again = λ others o.
                  ap (λ (r : Read A). r >>= if_passing test) (F.only x.0.0 p.own others p.fits (subst (λ (y : Option Token). Stops x.0.0 y) (sym o) p.stops))
                  ∙ cond-false (test x.0.0) (Ok (x.0.0, others)) (unexpected others) k.0
                  ∙ ap (λ (n : ℕ). Err (Unexpected n)) (place_same others x.0.1 o) ∙ ap (λ (f : SyntaxFault). Err f) here;
            }
      ]
    ];
    some = (let c = completes F.some.0 F.some.1 F.some.2 in (c.0, F.some.1 ++ c.1, (c.2, c.3)));
  }
