-- Names are read by their grammar.
use Rattle.std.proofs.Common.{◌≡◌, ℕ, Bool, true, false, cond, List, [], ◌++◌, Option, Some, None, Result, Ok, Err, refl, sym, ap, subst, ◌∙◌, inl, inr}
use mathlib.Core.Path.{fun_ext}
use Rattle.std.specs.Prelude.{codes}
use Rattle.std.proofs.lemmas.Bool.{cond-true}
use Rattle.ddl_tokens.specs.declared.fault.SyntaxFault.{SyntaxFault}
use Rattle.ddl_tokens.specs.declared.fault.SyntaxFault.TheVariants.{Unexpected}
use Rattle.ddl_tokens.specs.declared.letters.LetterCase.TheVariants.{Any}
use Rattle.ddl_tokens.specs.declared.token.TokenKind.{TokenKind}
use Rattle.ddl_tokens.specs.declared.token.TokenKind.TheVariants.{Word, QuotedWord, Number, String, Sign, Broken, End}
use Rattle.ddl_tokens.specs.Letters.{same_letters}
use Rattle.ddl_tokens.specs.Tokens.{Token}
use Rattle.ddl_tokens.specs.Reading.{◌>>=◌, Read, bytes_ahead, is_keyword, is_name, is_the_sign, is_word, passes, unexpected}
use Rattle.ddl_tokens.specs.Laws.{first, passes_first, place_of, Anyhow, Either, IsBytes, IsKeyword, IsNothing, IsOne, Lawful, Made, Optional, OptionalStops, Then, judged}
use Rattle.ddl_tokens.proofs.Laws.{Fails, Passes, by_token, bytes, first_passes, headed, judged_ok, keyword, made, one_token, optional, passes-first, said, sign, sign_no_keyword, signs_apart, then, then_after}
use Rattle.ddl_tokens.proofs.Verdicts.{then_nothing, nothing_then}
use Rattle.ddl_text.specs.declared.statement.WrittenName.{WrittenName}
use Rattle.ddl_text.specs.Statements.{pointed}
use Rattle.ddl_text.specs.Grammar.{IsBehindPoint, IsName, IsNamed}
use Rattle.ddl_text.specs.Reading.{behind_point_at, behind_word_at, bracket_ahead_at, first_word_at, name_at, name_behind_at, written_name_at, not_exists_at}
use Rattle.ddl_text.proofs.Ahead.{asked, asks}

-- ---- a name, from its first word on

abbrev pub NameStops : WrittenName → Option Token → Type 0
NameStops name next = OptionalStops (is_the_sign 46) Anyhow name.second next

behind_point_law : {Before : Option Token → Type 0} → Lawful Before behind_point_at (Optional IsBehindPoint) (OptionalStops (is_the_sign 46) Anyhow)
unfolding behind_point_at
behind_point_law = optional (is_the_sign 46) (headed (is_the_sign 46) (λ _. tt {0}) (λ _. IsBytes is_name)) (then (sign 46) (λ _. bytes is_name Word refl))

-- what may stand behind a first word
abbrev Behind : List ℕ → WrittenName → List Token → Type 0
Behind word = Made (pointed word) (Optional IsBehindPoint)

name_behind_law : {Before : Option Token → Type 0} (word : List ℕ) → Lawful Before (name_behind_at word) (Behind word) NameStops
unfolding name_behind_at
name_behind_law word = made (pointed word) NameStops (λ a o s. s) (λ a o s. s) behind_point_law

name_law : {Before : Option Token → Type 0} → Lawful Before name_at IsName NameStops
unfolding name_at
name_law = then (bytes is_name Word refl) (λ word. name_behind_law word)

abbrev NotExists : WrittenName → List Token → Type 0
NotExists = Then (IsKeyword (codes "NOT")) (λ _. Then (IsKeyword (codes "EXISTS")) (λ _. IsName))

not_exists_law : {Before : Option Token → Type 0} → Lawful Before not_exists_at NotExists NameStops
unfolding not_exists_at
not_exists_law = then (keyword (codes "NOT")) (λ _. then (keyword (codes "EXISTS")) (λ _. name_law))

-- ---- where the bracket of the columns follows

abbrev is_bracket : Option Token → Bool
is_bracket = passes_first (is_the_sign 40)

bracket_is : (ts : List Token) → bracket_ahead_at ts ≡ asked is_bracket ts
unfolding bracket_ahead_at
bracket_is ts = ap (λ (b : Bool). cond b (Ok (tt, ts)) (unexpected ts)) (passes-first (is_the_sign 40) ts)

abbrev BracketStops : WrittenName → Option Token → Type 0
BracketStops name next = is_bracket next ≡ true

bracket_law : {Before : Option Token → Type 0} → Lawful Before bracket_ahead_at (IsNothing (tt {0})) (λ _ o. is_bracket o ≡ true)
bracket_law {Before = Before} = subst (λ (read : List Token → Read (Unit {0})). Lawful Before read (IsNothing (tt {0})) (λ _ o. is_bracket o ≡ true)) (fun_ext (λ ts. sym (bracket_is ts))) (asks is_bracket)

-- a name stops at the bracket
stops_at_bracket : (name : WrittenName) (o : Option Token) → is_bracket o ≡ true → NameStops name o
unfolding same_letters
stops_at_bracket name o e = at name.second o e where
  at : (second : Option (List ℕ)) (p : Option Token) → is_bracket p ≡ true → OptionalStops (is_the_sign 46) Anyhow second p
  at None None h = tt
  at None (Some t) h = signs_apart 40 46 t refl h
  at (Some word) p h = tt

abbrev bracketed : (List Token → Read WrittenName) → List Token → Read WrittenName
bracketed read ts = read ts >>= λ name. bracket_ahead_at name.1 >>= λ bracket. Ok (name.0, bracket.1)

before_bracket : {Before : Option Token → Type 0} {read : List Token → Read WrittenName} {Own : WrittenName → List Token → Type 0} → Lawful Before read Own NameStops → Lawful Before (bracketed read) Own BracketStops
before_bracket {Own = Own} F =
    said (λ name ts h. let m = then_nothing (λ x. x) Own name ts h in subst (λ (n : WrittenName). Own n ts) (sym m.is) m.fits)
    (λ name ts h. nothing_then (λ x. x) Own name ts (record { from = name; is = refl; fits = h }))
    (then_after F (λ name. said (λ n ts h. (h.is, h.fits.1)) (λ n ts h. record { from = tt {0}; is = h.0; fits = (refl, h.1) }) (made (λ _. name) BracketStops (λ a o s. s) (λ a o s. s) bracket_law))
    (λ name n ts rest h s. subst (λ (us : List Token). NameStops name (first (us ++ rest))) (sym h.1) (stops_at_bracket name (first rest) s)))

-- ---- behind the first word

abbrev BehindWord : Bool → List ℕ → WrittenName → List Token → Type 0
BehindWord true word = Either NotExists (Behind word)
BehindWord false word = Behind word

abbrev is_not : Token → Bool
is_not = is_keyword (codes "NOT")

not_first : (name : WrittenName) (own rest : List Token) → NotExists name own → Passes is_not (first (own ++ rest))
not_first name own rest h =
    let p = first_passes is_not (λ _. tt {0}) (λ _. Then (IsKeyword (codes "EXISTS")) (λ _. IsName)) name own rest h in
    ap (passes_first is_not) p.1 ∙ p.2

no_not_first : (word : List ℕ) (name : WrittenName) (own rest : List Token) → Behind word name own → BracketStops name (first rest) → Fails is_not (first (own ++ rest))
no_not_first word name own rest h s = at h.from h.fits where
  behind : (o : Option Token) → is_bracket o ≡ true → Fails is_not o
  behind None e = refl
  behind (Some t) e = sign_no_keyword 40 (codes "NOT") t e

  at : (second : Option (List ℕ)) → Optional IsBehindPoint second own → Fails is_not (first (own ++ rest))
  at None e = ap (λ (us : List Token). passes_first is_not (first (us ++ rest))) e ∙ behind (first rest) s
  at (Some x) e =
      let p = first_passes (is_the_sign 46) (λ _. tt {0}) (λ _. IsBytes is_name) x own rest e in
      ap (passes_first is_not) p.1 ∙ sign_no_keyword 46 (codes "NOT") p.0 p.2

pub cond_bind : {A B : Type 0} (b : Bool) (x y : Result A SyntaxFault) (f : A → Result B SyntaxFault) → (cond b x y >>= f) ≡ cond b (x >>= f) (y >>= f)
cond_bind true x y f = refl
cond_bind false x y f = refl

either_is : (word : List ℕ) (ts : List Token) → cond (passes is_not ts) (bracketed not_exists_at ts) (bracketed (name_behind_at word) ts) ≡ bracketed (behind_word_at true word) ts
unfolding behind_word_at
either_is word ts = sym (cond_bind (passes is_not ts) (not_exists_at ts) (name_behind_at word ts) (λ name. bracket_ahead_at name.1 >>= λ bracket. Ok (name.0, bracket.1)))

plain_is : (word : List ℕ) (ts : List Token) → bracketed (name_behind_at word) ts ≡ bracketed (behind_word_at false word) ts
unfolding behind_word_at
plain_is word ts = refl

behind_word_law : {Before : Option Token → Type 0} (is_if : Bool) (word : List ℕ) → Lawful Before (bracketed (behind_word_at is_if word)) (BehindWord is_if word) BracketStops
behind_word_law {Before = Before} true word =
    subst (λ (read : List Token → Read WrittenName). Lawful Before read (Either NotExists (Behind word)) BracketStops) (fun_ext (λ ts. either_is word ts))
    (by_token is_not BracketStops (before_bracket not_exists_law) (before_bracket (name_behind_law word))
    not_first (λ name own rest h s. no_not_first word name own rest h s)
    (λ name own o h s. s) (λ name own o h s. s) (λ name own rest h s e. s) (λ name own o h s. s))
behind_word_law {Before = Before} false word =
    subst (λ (read : List Token → Read WrittenName). Lawful Before read (Behind word) BracketStops) (fun_ext (λ ts. plain_is word ts)) (before_bracket (name_behind_law word))

-- ---- the first word

abbrev is_if : Token → Bool
is_if = is_keyword (codes "IF")

abbrev first_word : Token → Result (Bool × List ℕ) SyntaxFault
first_word = judged (λ t. is_name t.kind) (λ t. (is_if t, t.bytes))

pub placed : {A : Type 0} (b : Bool) (a : A) (n : ℕ) (e : SyntaxFault) → cond b (Ok a) (Err (Unexpected n)) ≡ Err e → n ≡ place_of e
placed true a n e h = absurd cc
placed false a n e h = let k : Unexpected n ≡ e = cc in ap place_of k

first_word_law : {Before : Option Token → Type 0} → Lawful Before first_word_at (IsOne first_word) Anyhow
unfolding first_word_at passes bytes_ahead
first_word_law =
    let t : Token = record { place = 0; kind = QuotedWord; bytes = [] } in
    one_token first_word_at first_word refl
    (λ u ts. sym (cond_bind (is_name u.kind) (Ok (is_if u, u.bytes)) (Err (Unexpected u.place)) (λ x. Ok (x, ts))))
    (λ u e k. placed (is_name u.kind) (is_if u, u.bytes) u.place e k)
    ((is_if t, []), t, refl)

keyword_named : (word : List ℕ) (t : Token) → is_keyword word t ≡ true → is_name t.kind ≡ true
unfolding is_keyword
keyword_named word t e = at t.kind e where
  at : (k : TokenKind) → cond (is_word k) (same_letters Any t.bytes word) false ≡ true → is_name k ≡ true
  at Word h = refl
  at QuotedWord h = absurd cc
  at Number h = absurd cc
  at String h = absurd cc
  at Sign h = absurd cc
  at Broken h = absurd cc
  at End h = absurd cc

-- ---- names

abbrev FromWord : WrittenName → List Token → Type 0
FromWord = Then (IsOne first_word) (λ word. BehindWord word.0 word.1)

to_named : (name : WrittenName) (ts : List Token) → FromWord name ts → IsNamed name ts
to_named name ts h = at (is_if t) refl (subst (λ (w : Bool × List ℕ). BehindWord w.0 w.1 name h.back) (sym fine.1) h.behind) where
  t : Token
  t = h.before.token

  fine : (is_name t.kind ≡ true) × ((is_if t, t.bytes) ≡ h.value)
  fine = judged_ok (is_name t.kind) (is_if t, t.bytes) h.value (Unexpected t.place) h.before.fine

  plain : Behind t.bytes name h.back → IsNamed name ts
  plain k = inr (record { value = t.bytes; front = h.front; back = h.back; parts = h.parts; before = record { token = t; parts = h.before.parts; fine = cond-true (is_name t.kind) _ _ fine.0 }; behind = k })

  at : (b : Bool) → is_if t ≡ b → BehindWord b t.bytes name h.back → IsNamed name ts
  at true e (inl k) = inl (record { value = tt {0}; front = h.front; back = h.back; parts = h.parts; before = record { token = t; parts = h.before.parts; fine = cond-true (is_if t) _ _ e }; behind = k })
  at true e (inr k) = plain k
  at false e k = plain k

from_named : (name : WrittenName) (ts : List Token) → IsNamed name ts → FromWord name ts
from_named name ts (inl h) =
    let t = h.before.token in
    let e = (judged_ok (is_if t) (tt {0}) h.value (Unexpected t.place) h.before.fine).0 in
    record {
      value = (is_if t, t.bytes);
      front = h.front;
      back = h.back;
      parts = h.parts;
      before = record { token = t; parts = h.before.parts; fine = cond-true (is_name t.kind) _ _ (keyword_named (codes "IF") t e) };
      behind = subst (λ (b : Bool). BehindWord b t.bytes name h.back) (sym e) (inl h.behind);
    }
from_named name ts (inr h) = record {
  value = (is_if t, t.bytes);
  front = h.front;
  back = h.back;
  parts = h.parts;
  before = record { token = t; parts = h.before.parts; fine = cond-true (is_name t.kind) _ _ fine.0 };
  behind = at (is_if t) (subst (λ (w : List ℕ). Behind w name h.back) (sym fine.1) h.behind);
} where
  t : Token
  t = h.before.token

  fine : (is_name t.kind ≡ true) × (t.bytes ≡ h.value)
  fine = judged_ok (is_name t.kind) t.bytes h.value (Unexpected t.place) h.before.fine

  at : (b : Bool) → Behind t.bytes name h.back → BehindWord b t.bytes name h.back
  at true k = inr k
  at false k = k

pub named_law : {Before : Option Token → Type 0} → Lawful Before written_name_at IsNamed BracketStops
unfolding written_name_at
named_law = said to_named from_named (then first_word_law (λ word. behind_word_law word.0 word.1))
