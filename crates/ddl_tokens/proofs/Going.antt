-- What a test of the token in hand says: others follow it.
use Rattle.std.proofs.Common.{◌≡◌, ℕ, ◌<◌, Bool, true, false, cond, List, [], ◌∷◌, length, drop, refl, arith, ap, subst, sym, ◌∙◌}
use Rattle.ddl_tokens.specs.declared.token.TokenKind.{TokenKind}
use Rattle.ddl_tokens.specs.declared.token.TokenKind.TheVariants.{Word, QuotedWord, Number, String, Sign, Broken, End}
use Rattle.ddl_tokens.specs.declared.letters.LetterCase.TheVariants.{Any, AsWritten}
use Rattle.ddl_tokens.specs.Letters.{same_letters}
use Rattle.ddl_tokens.specs.Tokens.{Token}
use Rattle.ddl_tokens.specs.steps.Lexer.{is_last, tokens, ahead}
use Rattle.ddl_tokens.specs.Reading.{is_word, is_name, is_string, is_signed, goes_on, is_keyword, is_the_sign, passes, of_kind}

if_true : (b x : Bool) → cond b x false ≡ true → b ≡ true
if_true true x e = refl
if_true false x e = absurd cc

-- a test that neither the end nor a broken token passes
record Apart (test : TokenKind → Bool) : Type 0 where
  broken : test Broken ≡ false
  end : test End ≡ false

kind_goes_on : (test : TokenKind → Bool) → Apart test → (k : TokenKind) → test k ≡ true → goes_on k ≡ true
kind_goes_on test a Word e = refl
kind_goes_on test a QuotedWord e = refl
kind_goes_on test a Number e = refl
kind_goes_on test a String e = refl
kind_goes_on test a Sign e = refl
kind_goes_on test a Broken e = absurd (let x = sym a.broken ∙ e in cc)
kind_goes_on test a End e = absurd (let x = sym a.end ∙ e in cc)

token_goes_on : (test : TokenKind → Bool) → Apart test → (ts : List Token) → passes (of_kind test) ts ≡ true → passes (of_kind goes_on) ts ≡ true
unfolding passes
token_goes_on test a [] e = absurd cc
token_goes_on test a (t ∷ ts) e = kind_goes_on test a t.kind e

pub keyword_goes_on : (word : List ℕ) (ts : List Token) → passes (is_keyword word) ts ≡ true → passes (of_kind goes_on) ts ≡ true
unfolding is_keyword passes
keyword_goes_on word [] e = absurd cc
keyword_goes_on word (t ∷ ts) e = kind_goes_on is_word (record { broken = refl; end = refl }) t.kind (if_true (is_word t.kind) (same_letters Any t.bytes word) e)

pub sign_goes_on : (sign : ℕ) (ts : List Token) → passes (is_the_sign sign) ts ≡ true → passes (of_kind goes_on) ts ≡ true
unfolding is_the_sign passes
sign_goes_on sign [] e = absurd cc
sign_goes_on sign (t ∷ ts) e = kind_goes_on is_signed (record { broken = refl; end = refl }) t.kind (if_true (is_signed t.kind) (same_letters AsWritten t.bytes (sign ∷ [])) e)

pub name_goes_on : (ts : List Token) → passes (of_kind is_name) ts ≡ true → passes (of_kind goes_on) ts ≡ true
name_goes_on ts e = token_goes_on is_name (record { broken = refl; end = refl }) ts e

pub string_goes_on : (ts : List Token) → passes (of_kind is_string) ts ≡ true → passes (of_kind goes_on) ts ≡ true
string_goes_on ts e = token_goes_on is_string (record { broken = refl; end = refl }) ts e

pub shorter : (ts : List Token) → passes (of_kind goes_on) ts ≡ true → length (drop 1 ts) < length ts
unfolding passes
shorter [] e = absurd cc
shorter (t ∷ ts) e = omega arith

pub drop_ahead : (t : Token) (size : ℕ) (rest : List ℕ) (all : List Token) → ahead t size rest ≡ all → passes (of_kind goes_on) all ≡ true → drop 1 all ≡ tokens size rest
unfolding passes
drop_ahead t size rest all e g = elim (is_last t.kind) as (λ b. (goes_on t.kind ≡ true → b ≡ false) → t ∷ cond b [] (tokens size rest) ≡ all → drop 1 all ≡ tokens size rest) [
  | true ↦ λ k h. absurd (let x = k (let P : List Token → Type 0 = λ ts. passes (λ u. goes_on u.kind) ts ≡ true in subst P (sym h) g) in cc)
  | false ↦ λ k h. sym (ap (λ (ts : List Token). drop 1 ts) h)
] (not_last t.kind) e where
  not_last : (k : TokenKind) → goes_on k ≡ true → is_last k ≡ false
  not_last Word h = refl
  not_last QuotedWord h = refl
  not_last Number h = refl
  not_last String h = refl
  not_last Sign h = refl
  not_last Broken h = absurd cc
  not_last End h = absurd cc
