-- What the token in hand is, and readings that ask for it alone.
use Rattle.std.proofs.Common.{◌≡◌, ℕ, Bool, true, false, cond, List, [], ◌∷◌, ◌++◌, Option, Ok, Err, refl, sym, ap, ◌∙◌, inl, inr}
use Rattle.std.proofs.lemmas.Bool.{cond-true, cond-false, cases_Bool}
use Rattle.ddl_tokens.specs.declared.fault.SyntaxFault.{SyntaxFault}
use Rattle.ddl_tokens.specs.declared.fault.SyntaxFault.TheVariants.{Unexpected}
use Rattle.ddl_tokens.specs.declared.token.TokenKind.{TokenKind}
use Rattle.ddl_tokens.specs.declared.token.TokenKind.TheVariants.{Word, QuotedWord, Number, String, Sign, Broken, End}
use Rattle.ddl_tokens.specs.Tokens.{Token}
use Rattle.ddl_tokens.specs.Reading.{Read, is_keyword, is_signed, is_the_sign, is_word, kind_ahead, place_ahead, unexpected}
use Rattle.ddl_tokens.specs.Laws.{first, place_of, IsNothing, Lawful}
use Rattle.ddl_tokens.proofs.Laws.{ok_is, sign_no_keyword, test_cases}
use Rattle.ddl_tokens.proofs.Once.{place_same}
use Rattle.ddl_text.specs.Grammar.{is_at_end, is_last_token}

-- a keyword is no sign
pub keyword_no_sign : (word : List ℕ) (s : ℕ) (t : Token) → is_keyword word t ≡ true → is_the_sign s t ≡ false
keyword_no_sign word s t h = elim (cases_Bool (is_the_sign s t)) [ inr f ↦ f | inl f ↦ absurd (let k = sym h ∙ sign_no_keyword s word t f in cc) ]

-- the text's end is no keyword
pub end_no_keyword : (word : List ℕ) (t : Token) → is_last_token t.kind ≡ true → is_keyword word t ≡ false
unfolding is_keyword
end_no_keyword word t e = cond-false (is_word t.kind) _ _ (no_word t.kind e) where
  no_word : (k : TokenKind) → is_last_token k ≡ true → is_word k ≡ false
  no_word Word h = absurd cc
  no_word QuotedWord h = refl
  no_word Number h = refl
  no_word String h = refl
  no_word Sign h = refl
  no_word Broken h = refl
  no_word End h = refl

-- the text's end is no sign
pub end_no_sign : (s : ℕ) (t : Token) → is_last_token t.kind ≡ true → is_the_sign s t ≡ false
unfolding is_the_sign
end_no_sign s t e = cond-false (is_signed t.kind) _ _ (no_sign t.kind e) where
  no_sign : (k : TokenKind) → is_last_token k ≡ true → is_signed k ≡ false
  no_sign Word h = refl
  no_sign QuotedWord h = refl
  no_sign Number h = refl
  no_sign String h = refl
  no_sign Sign h = absurd cc
  no_sign Broken h = refl
  no_sign End h = refl

-- a keyword doesn't end the text
pub keyword_no_end : (word : List ℕ) (t : Token) → is_keyword word t ≡ true → is_last_token t.kind ≡ false
keyword_no_end word t h = elim (cases_Bool (is_last_token t.kind)) [ inr f ↦ f | inl f ↦ absurd (let k = sym h ∙ end_no_keyword word t f in cc) ]

pub end_ahead : (ts : List Token) → is_last_token (kind_ahead ts) ≡ is_at_end (first ts)
unfolding kind_ahead
end_ahead [] = refl
end_ahead (t ∷ ts) = refl

-- ---- nothing, where a token follows that passes a test

abbrev pub asked : (Option Token → Bool) → List Token → Read (Unit {0})
asked test ts = cond (test (first ts)) (Ok (tt, ts)) (unexpected ts)

pub asks : {Before : Option Token → Type 0} (test : Option Token → Bool) → Lawful Before (asked test) (IsNothing (tt {0})) (λ _ o. test o ≡ true)
asks test = record {
  found = λ ts a rest z e. elim (test_cases (test (first ts)) _ _ _ e) [
    | inr x ↦ absurd (let y = x.1 in cc)
    | inl x ↦
        let left = ap (λ (p : Unit {0} × List Token). p.1) (ok_is (tt {0}, ts) (a, rest) x.1) in
        record { own = []; parts = left; fits = (refl, refl); stops = ap (λ (us : List Token). test (first us)) (sym left) ∙ x.0 }
  ];
  only = λ a own rest h s. ap (λ (us : List Token). asked test (us ++ rest)) h.1 ∙ cond-true (test (first rest)) _ _ s;
  least = λ ts e z h. elim (test_cases (test (first ts)) _ _ _ h) [
    | inl x ↦ absurd (let y = x.1 in cc)
    | inr x ↦
        let y = x.1 in
        let k : Unexpected (place_ahead ts) ≡ e = cc in
        record {
          before = [];
          rest = ts;
          parts = refl;
          place = ap (λ (f : SyntaxFault). place_of f) k;
          value = tt {0};
          more = [];
          can_go_on = (refl, refl);
          again = λ others o.
              cond-false (test (first others)) _ _ (ap test o ∙ x.0)
              ∙ ap (λ (n : ℕ). Err (Unexpected n)) (place_same others ts o) ∙ ap (λ (f : SyntaxFault). Err f) k;
        }
  ];
  some = (tt {0}, [], (refl, refl));
}
