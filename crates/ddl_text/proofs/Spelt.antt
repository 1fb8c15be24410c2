-- Which tokens a text begins with, part by part.
use Rattle.std.proofs.Common.{◌≡◌, ℕ, ◌+◌, Bool, true, false, cond, List, [], ◌∷◌, ◌++◌, length, Result, Ok, Err, refl, sym, ap, subst, ◌∙◌, inl, inr, append_assoc, arith}
use Rattle.std.specs.Prelude.{◌==◌, ◌&&◌}
use Rattle.std.specs.List.{AllByRecursion, list_all}
use Rattle.std.proofs.lemmas.Bool.{and_parts}
use Rattle.ddl_tokens.specs.declared.fault.SyntaxFault.{SyntaxFault}
use Rattle.ddl_tokens.specs.declared.fault.SyntaxFault.TheVariants.{Unexpected}
use Rattle.ddl_tokens.specs.declared.letters.LetterCase.TheVariants.{Any, AsWritten}
use Rattle.ddl_tokens.specs.declared.token.TokenKind.{TokenKind}
use Rattle.ddl_tokens.specs.declared.token.TokenKind.TheVariants.{Word, Sign, Broken, End}
use Rattle.ddl_tokens.specs.Letters.{begins_with, is_word_start, is_word_byte, is_digit, is_sign, same_letters}
use Rattle.ddl_tokens.specs.Tokens.{Token, AreTokens, empty, blank, IsLastGap, IsToken, word as one_word, sign as one_sign, TokensFrom, ends, breaks, next, begins_with_fraction}
use Rattle.ddl_tokens.specs.Reading.{is_keyword, is_the_sign}
use Rattle.ddl_tokens.specs.Laws.{IsKeyword, IsOne, IsSign, Made, Then, judged}
use Rattle.ddl_tokens.specs.Lists.{AddsOnce, Many, Separated, Tail, another, ended, has_number, none, more}
use Rattle.ddl_tokens.proofs.Laws.{judged_ok, same_itself}

-- From this place on a text has tokens that fit, and the rest behind them.
pub record Spells (place : ℕ) (text : List ℕ) (Fits : List Token → Type 0) (rest : List ℕ) : Type 0 where
  pub own : List Token
  pub fits : Fits own
  pub behind : ℕ
  pub goes : (ts : List Token) → TokensFrom behind rest ts → TokensFrom place text (own ++ ts)

-- the same wherever it begins
abbrev pub Writes : List ℕ → (List Token → Type 0) → List ℕ → Type 0
Writes text Fits rest = (place : ℕ) → Spells place text Fits rest

-- ---- a blank first

blank_gap : (text : List ℕ) → IsLastGap text → IsLastGap (32 ∷ text)
blank_gap text (inl gap) = inl (blank refl gap)
blank_gap text (inr x) = inr (32 ∷ x.0, x.1, ap (λ (us : List ℕ). 32 ∷ us) x.2, blank refl x.3, x.4)

blank_tokens : (p q : ℕ) (text : List ℕ) (ts : List Token) → p ≡ q + 1 → TokensFrom p text ts → TokensFrom q (32 ∷ text) ts
blank_tokens p q text ts e (ends g) =
    let k : q + length (32 ∷ text) ≡ p + length text = omega (arith, e) in
    subst (λ (n : ℕ). TokensFrom q (32 ∷ text) (record { place = n; kind = End; bytes = [] } ∷ [])) k (ends (blank_gap text g))
blank_tokens p q text ts e (breaks {behind = behind} {gap = gap} {rest = rest} is g b) =
    let k : q + length (32 ∷ gap) + behind ≡ p + length gap + behind = omega (arith, e) in
    subst (λ (n : ℕ). TokensFrom q (32 ∷ text) (record { place = n; kind = Broken; bytes = [] } ∷ [])) k (breaks (ap (λ (us : List ℕ). 32 ∷ us) is) (blank refl g) b)
blank_tokens p q text ts e (next {kind = kind} {gap = gap} {own = own} {bytes = bytes} {rest = rest} {tokens = us} is g t h) =
    let k : q + length (32 ∷ gap) ≡ p + length gap = omega (arith, e) in
    subst (λ (n : ℕ). TokensFrom q (32 ∷ text) (record { place = n; kind = kind; bytes = bytes } ∷ us)) k
    (next {gap = 32 ∷ gap} (ap (λ (vs : List ℕ). 32 ∷ vs) is) (blank refl g) t (subst (λ (n : ℕ). TokensFrom (n + length own) rest us) (sym k) h))

pub blank_first : {text rest : List ℕ} {Fits : List Token → Type 0} → Writes text Fits rest → Writes (32 ∷ text) Fits rest
blank_first {text = text} h place = let x = h (place + 1) in record {
  own = x.own;
  fits = x.fits;
  behind = x.behind;
  goes = λ ts t. blank_tokens (place + 1) place text (x.own ++ ts) refl (x.goes ts t);
}

-- ---- parts

pub fit : {text rest : List ℕ} {Fits Other : List Token → Type 0} → ((own : List Token) → Fits own → Other own) → Writes text Fits rest → Writes text Other rest
fit make h place = let x = h place in record { own = x.own; fits = make x.own x.fits; behind = x.behind; goes = x.goes }

pub at_text : {a b rest : List ℕ} {Fits : List Token → Type 0} → a ≡ b → Writes b Fits rest → Writes a Fits rest
at_text {rest = rest} {Fits = Fits} same h = subst (λ (t : List ℕ). Writes t Fits rest) (sym same) h

-- no tokens
pub nothing_written : (rest : List ℕ) (Fits : List Token → Type 0) → Fits [] → Writes rest Fits rest
nothing_written rest Fits h place = record { own = []; fits = h; behind = place; goes = λ ts t. t }

pub then_at : {A B : Type 0} {Own : A → List Token → Type 0} {Next : A → B → List Token → Type 0} {b : B} {place : ℕ} {text mid rest : List ℕ} (a : A)
    → Spells place text (Own a) mid → Writes mid (Next a b) rest → Spells place text (Then Own Next b) rest
then_at {place = place} {text = text} a x k = let y = k x.behind in record {
  own = x.own ++ y.own;
  fits = record { value = a; front = x.own; back = y.own; parts = refl; before = x.fits; behind = y.fits };
  behind = y.behind;
  goes = λ ts t. subst (λ (us : List Token). TokensFrom place text us) (sym (append_assoc x.own y.own ts)) (x.goes (y.own ++ ts) (y.goes ts t));
}

pub then_written : {A B : Type 0} {Own : A → List Token → Type 0} {Next : A → B → List Token → Type 0} {b : B} {text mid rest : List ℕ} (a : A)
    → Writes text (Own a) mid → Writes mid (Next a b) rest → Writes text (Then Own Next b) rest
then_written a x k place = then_at a (x place) k

pub made_written : {A B : Type 0} {Own : A → List Token → Type 0} {text rest : List ℕ} (make : A → B) (b : B) (a : A) → b ≡ make a → Writes text (Own a) rest → Writes text (Made make Own b) rest
made_written make b a is h place = let x = h place in record { own = x.own; fits = record { from = a; is = is; fits = x.fits }; behind = x.behind; goes = x.goes }

-- ---- one token

abbrev pub token_of : ℕ → TokenKind → List ℕ → Token
token_of place kind bytes = record { place = place + length {A = ℕ} []; kind = kind; bytes = bytes }

pub one_at : {A : Type 0} (place : ℕ) (kind : TokenKind) (bytes own rest : List ℕ) (judge : Token → Result A SyntaxFault) (a : A) → IsToken kind bytes own rest → judge (token_of place kind bytes) ≡ Ok a
    → Spells place (own ++ rest) (IsOne judge a) rest
one_at place kind bytes own rest judge a t is = record {
  own = token_of place kind bytes ∷ [];
  fits = record { token = token_of place kind bytes; parts = refl; fine = is };
  behind = place + length {A = ℕ} [] + length own;
  goes = λ ts h. next {gap = []} refl empty t h;
}

-- ---- what may follow a word, a number or what is in quotes

pub record Apart (rest : List ℕ) : Type 0 where
  pub word : begins_with is_word_byte rest ≡ false
  pub digit : begins_with is_digit rest ≡ false
  pub fraction : begins_with_fraction rest ≡ false
  pub name : begins_with (λ b. b == 96) rest ≡ false
  pub text : begins_with (λ b. b == 39) rest ≡ false

pub apart_end : Apart []
apart_end = record { word = refl; digit = refl; fraction = refl; name = refl; text = refl }

pub apart_blank : (rest : List ℕ) → Apart (32 ∷ rest)
apart_blank rest = record { word = refl; digit = refl; fraction = refl; name = refl; text = refl }

pub apart_open : (rest : List ℕ) → Apart (40 ∷ rest)
apart_open rest = record { word = refl; digit = refl; fraction = refl; name = refl; text = refl }

pub apart_close : (rest : List ℕ) → Apart (41 ∷ rest)
apart_close rest = record { word = refl; digit = refl; fraction = refl; name = refl; text = refl }

pub apart_comma : (rest : List ℕ) → Apart (44 ∷ rest)
apart_comma rest = record { word = refl; digit = refl; fraction = refl; name = refl; text = refl }

-- ---- words and signs

each_passes : (test : ℕ → Bool) (bytes : List ℕ) → list_all test bytes ≡ true → AllByRecursion (λ b. test b ≡ true) bytes
each_passes test [] h = tt
each_passes test (b ∷ bytes) h = let p = and_parts (test b) (list_all test bytes) h in (p.0, each_passes test bytes p.1)

-- a letter or _, then letters, digits and _
abbrev pub is_bare : List ℕ → Bool
is_bare [] = false
is_bare (b ∷ bytes) = is_word_start b && list_all is_word_byte bytes

word_token : (own rest : List ℕ) → is_bare own ≡ true → begins_with is_word_byte rest ≡ false → IsToken Word own own rest
word_token [] rest h apart = absurd cc
word_token (b ∷ bytes) rest h apart = let p = and_parts (is_word_start b) (list_all is_word_byte bytes) h in one_word p.0 (each_passes is_word_byte bytes p.1) apart

pub word_at : {A : Type 0} (place : ℕ) (own rest : List ℕ) (judge : Token → Result A SyntaxFault) (a : A) → is_bare own ≡ true → Apart rest → judge (token_of place Word own) ≡ Ok a
    → Spells place (own ++ rest) (IsOne judge a) rest
word_at place own rest judge a h apart is = one_at place Word own own rest judge a (word_token own rest h apart.word) is

judged_is : (test : Token → Bool) (t : Token) → test t ≡ true → judged test (λ _. tt {0}) t ≡ Ok tt
judged_is test t h = ap (λ (b : Bool). cond b (Ok (tt {0})) (Err (Unexpected t.place))) h

pub keyword_written : (own rest word : List ℕ) → is_bare own ≡ true → same_letters Any own word ≡ true → Apart rest → Writes (own ++ rest) (IsKeyword word tt) rest
unfolding is_keyword
keyword_written own rest word h same apart place = word_at place own rest (judged (is_keyword word) (λ _. tt {0})) tt h apart (judged_is (is_keyword word) (token_of place Word own) same)

pub sign_written : (c : ℕ) (rest : List ℕ) → is_sign c ≡ true → Writes (c ∷ rest) (IsSign c tt) rest
unfolding is_the_sign
sign_written c rest h place = one_at place Sign (c ∷ []) (c ∷ []) rest (judged (is_the_sign c) (λ _. tt {0})) tt (one_sign h) (judged_is (is_the_sign c) (token_of place Sign (c ∷ [])) (same_itself AsWritten (c ∷ [])))

-- ---- lists of things, each kind at most once

pub last_of : {A : Type 0} {Adds : A → A → List Token → Type 0} (a : A) (rest : List ℕ) → Writes rest (Many Adds a a) rest
last_of {Adds = Adds} a rest = nothing_written rest (Many Adds a a) (none refl refl)

pub more_of : {A : Type 0} {Adds : A → A → List Token → Type 0} {a c : A} {text mid rest : List ℕ} (b : A) → Writes text (Adds a b) mid → Writes mid (Many Adds b c) rest → Writes text (Many Adds a c) rest
more_of {text = text} b h k place = let x = h place in let y = k x.behind in record {
  own = x.own ++ y.own;
  fits = more refl x.fits y.fits;
  behind = y.behind;
  goes = λ ts t. subst (λ (us : List Token). TokensFrom place text us) (sym (append_assoc x.own y.own ts)) (x.goes (y.own ++ ts) (y.goes ts t));
}

-- one more item of a kind that wasn't there
pub once_more : {K A : Type 0} {kind_number : K → ℕ} {number : A → ℕ} {Own : K → A → List Token → Type 0} {a c : List A} {text mid rest : List ℕ} (kind : K) (item : A)
    → has_number number (kind_number kind) a ≡ false → Writes text (Own kind item) mid → Writes mid (Many (AddsOnce kind_number number Own) (a ++ item ∷ []) c) rest
    → Writes text (Many (AddsOnce kind_number number Own) a c) rest
once_more {a = a} kind item once h k =
    more_of (a ++ item ∷ []) (fit (λ own f. record { kind = kind; item = item; new = refl; once = once; fits = f }) h) k

-- ---- lists with a comma between their items

pub no_more : {A : Type 0} {Own : A → List Token → Type 0} (rest : List ℕ) → Writes rest (Tail 44 Own []) rest
no_more {Own = Own} rest = nothing_written rest (Tail 44 Own []) ended

pub one_more : {A : Type 0} {Own : A → List Token → Type 0} {text mid rest : List ℕ} {a : A} {others : List A} → Writes text (Own a) mid → Writes mid (Tail 44 Own others) rest
    → Writes (44 ∷ 32 ∷ text) (Tail 44 Own (a ∷ others)) rest
one_more {text = text} h k place =
    let s = sign_written 44 (32 ∷ text) refl place in
    let x = blank_first h s.behind in
    let y = k x.behind in
    record {
      own = s.own ++ (x.own ++ y.own);
      fits =
          another (ap (λ (us : List Token). us ++ (x.own ++ y.own)) s.fits.parts) (judged_ok (is_the_sign 44 s.fits.token) (tt {0}) (tt {0}) (Unexpected s.fits.token.place) s.fits.fine).0
          x.fits y.fits;
      behind = y.behind;
      goes = λ ts t.
          subst (λ (us : List Token). TokensFrom place (44 ∷ 32 ∷ text) us) (sym (append_assoc s.own (x.own ++ y.own) ts ∙ ap (λ (us : List Token). s.own ++ us) (append_assoc x.own y.own ts)))
          (s.goes (x.own ++ (y.own ++ ts)) (x.goes (y.own ++ ts) (y.goes ts t)));
    }

pub separated_written : {A : Type 0} {Own : A → List Token → Type 0} {text mid rest : List ℕ} (a : A) (others : List A) → Writes text (Own a) mid → Writes mid (Tail 44 Own others) rest
    → Writes text (Separated 44 Own (a ∷ others)) rest
separated_written a others h k = then_written a h (fit (λ own f. (others, refl, f)) k)

-- ---- a whole text

pub record Spelt (text : List ℕ) (Fits : List Token → Type 0) : Type 0 where
  pub own : List Token
  pub fits : Fits own
  pub place : ℕ
  pub are : AreTokens text (own ++ record { place = place; kind = End; bytes = [] } ∷ [])

pub whole_text : (text : List ℕ) (Fits : List Token → Type 0) → Spells 0 text Fits [] → Spelt text Fits
whole_text text Fits x = record {
  own = x.own;
  fits = x.fits;
  place = x.behind + length {A = ℕ} [];
  are = x.goes (record { place = x.behind + length {A = ℕ} []; kind = End; bytes = [] } ∷ []) (ends (inl empty));
}
