-- The tokens that the code finds are those of the text, and no others are.
use Rattle.std.proofs.Common.{◌≡◌, ℕ, zero, suc, ◌+◌, ◌-◌, ◌<◌, ◌≤◌, Bool, true, false, cond, List, [], ◌∷◌, ◌++◌, length, drop, Option, Some, None, Result, Ok, Err, refl, sym, ap, subst, ◌∙◌, append_assoc, arith, ◌⊎◌, inl, inr, length-append}
use Rattle.std.specs.Prelude.{◌==◌, ◌&&◌, ◌||◌, nat_le, is_some, codes}
use Rattle.std.specs.List.{prefix_len}
use Rattle.std.proofs.lemmas.Bool.{eqb-true, ne_eqb, cond-true, cond-false, cases_Bool, and_parts, and_left, or_parts, or_cases, or_from, leb-true, lt-leb}
use Rattle.std.proofs.lemmas.List.{append-nil, take_at, drop_at}
use Rattle.ddl_tokens.specs.declared.token.TokenKind.{TokenKind}
use Rattle.ddl_tokens.specs.declared.token.TokenKind.TheVariants.{Word, QuotedWord, Number, String, Sign, Broken, End}
use Rattle.ddl_tokens.specs.Letters.{is_space, is_digit, is_word_start, is_word_byte, is_sign, is_number_sign, quoted_kind, is_quote, begins_with}
use Rattle.ddl_tokens.specs.Tokens.{Token, IsGap, IsLastGap, IsToken, word, whole, fraction, sign as one_sign, quoted, IsBroken, strange, open_comment, open_quote, bad_escape, can_begin, TokensFrom, ends, breaks, next, IsNumberSign, AreDigits}
use Rattle.ddl_tokens.specs.steps.Lexer.{after_gap, between, plain, bytes_in, Ending, closed, bad, open_ended, ending, number_len, token, front, in_quotes, unquoted, quoted_or_not, token_at, behind_gap, next_token, is_last, tokens_by, tokens, ahead}
use Rattle.ddl_tokens.proofs.Skipped.{begins_gap, gap_again, stays, open_comment_stays, last_gap_left, leaves, Leaves}
use Rattle.ddl_tokens.proofs.InQuotes.{apart, tells, Tells, end_from_closes, closes_from_end, open_from_none, bad_from_escape, closed_from_stands, bytes_from_stands, never}
use Rattle.ddl_tokens.proofs.Numerals.{AllPass, run, run_is, number_cases, BeginsNone, none_len, whole_len, fraction_number_len}

-- ---- the kinds of bytes are apart

-- what is known of a byte that begins a word
abbrev pub NoneOfWord : ℕ → Type 0
NoneOfWord b = (is_space b ≡ false) × ((b == 45) ≡ false) × ((b == 47) ≡ false)

or4 : (w x y z : Bool) → w ≡ false → x ≡ false → y ≡ false → z ≡ false → (w || x || y || z) ≡ false
or4 w x y z e f g h = or_from (w || x || y) z (or_from (w || x) y (or_from w x e f) g) h

high_byte : (b : ℕ) → 65 ≤ b → NoneOfWord b
high_byte b l = (
  or4 (b == 32) (b == 9) (b == 13) (b == 10) (ne_eqb b 32 (λ x. absurd (omega (arith, l, x)))) (ne_eqb b 9 (λ x. absurd (omega (arith, l, x)))) (ne_eqb b 13 (λ x. absurd (omega (arith, l, x)))) (ne_eqb b 10 (λ x. absurd (omega (arith, l, x)))),
  ne_eqb b 45 (λ x. absurd (omega (arith, l, x))),
  ne_eqb b 47 (λ x. absurd (omega (arith, l, x))),
)

word_is_high : (b : ℕ) → is_word_start b ≡ true → 65 ≤ b
word_is_high b e = elim (or_cases ((nat_le 97 b && nat_le b 122) || (nat_le 65 b && nat_le b 90)) (b == 95) e) [
  | inl x ↦ elim (or_cases (nat_le 97 b && nat_le b 122) (nat_le 65 b && nat_le b 90) x) [
    | inl y ↦ let l = leb-true 97 b (and_parts (nat_le 97 b) (nat_le b 122) y).0 in omega (arith, l)
    | inr y ↦ leb-true 65 b (and_parts (nat_le 65 b) (nat_le b 90) y).0
  ]
  | inr x ↦ let k = eqb-true b 95 x in omega (arith, k)
]

no_gap : (b : ℕ) (bs : List ℕ) → is_space b ≡ false → (b == 45) ≡ false → (b == 47) ≡ false → begins_gap (b ∷ bs) ≡ false
no_gap b bs e f g =
    or_from (is_space b || ((b == 45) && begins_with (λ c. c == 45) bs)) ((b == 47) && begins_with (λ c. c == 42) bs)
    (or_from (is_space b) ((b == 45) && begins_with (λ c. c == 45) bs) e (and_left (b == 45) (begins_with (λ c. c == 45) bs) f))
    (and_left (b == 47) (begins_with (λ c. c == 42) bs) g)

digit_bounds : (b : ℕ) → is_digit b ≡ true → (48 ≤ b) × (b ≤ 57)
digit_bounds b e = let p = and_parts (nat_le 48 b) (nat_le b 57) e in (leb-true 48 b p.0, leb-true b 57 p.1)

digit_no_gap : (b : ℕ) (bs : List ℕ) → is_digit b ≡ true → begins_gap (b ∷ bs) ≡ false
digit_no_gap b bs e =
    let l = (digit_bounds b e).0 in
    no_gap b bs (or4 (b == 32) (b == 9) (b == 13) (b == 10) (ne_eqb b 32 (λ x. absurd (omega (arith, l, x)))) (ne_eqb b 9 (λ x. absurd (omega (arith, l, x)))) (ne_eqb b 13 (λ x. absurd (omega (arith, l, x)))) (ne_eqb b 10 (λ x. absurd (omega (arith, l, x)))))
    (ne_eqb b 45 (λ x. absurd (omega (arith, l, x)))) (ne_eqb b 47 (λ x. absurd (omega (arith, l, x))))

digit_no_word : (b : ℕ) → is_digit b ≡ true → is_word_start b ≡ false
digit_no_word b e =
    let h = (digit_bounds b e).1 in
    or_from ((nat_le 97 b && nat_le b 122) || (nat_le 65 b && nat_le b 90)) (b == 95)
    (or_from (nat_le 97 b && nat_le b 122) (nat_le 65 b && nat_le b 90) (and_left (nat_le 97 b) (nat_le b 122) (lt-leb 97 b (omega (arith, h)))) (and_left (nat_le 65 b) (nat_le b 90) (lt-leb 65 b (omega (arith, h)))))
    (ne_eqb b 95 (λ x. absurd (omega (arith, h, x))))

digit_no_quote : (b : ℕ) → is_digit b ≡ true → quoted_kind b ≡ None
digit_no_quote b e =
    let l = (digit_bounds b e).0 in
    let h = (digit_bounds b e).1 in
    cond-false ((b == 96) || (b == 34)) _ _ (or_from (b == 96) (b == 34) (ne_eqb b 96 (λ x. absurd (omega (arith, h, x)))) (ne_eqb b 34 (λ x. absurd (omega (arith, l, x)))))
    ∙ cond-false (b == 39) _ _ (ne_eqb b 39 (λ x. absurd (omega (arith, l, x))))

-- a quote sign is one of three
quote_is : (q : ℕ) → is_quote q ≡ true → ((q ≡ 96) ⊎ (q ≡ 34)) ⊎ (q ≡ 39)
quote_is q e = elim (cases_Bool (q == 96)) [
  | inl x ↦ inl (inl (eqb-true q 96 x))
  | inr x ↦ elim (cases_Bool (q == 34)) [
    | inl y ↦ inl (inr (eqb-true q 34 y))
    | inr y ↦ elim (cases_Bool (q == 39)) [
      | inl z ↦ inr (eqb-true q 39 z)
      | inr z ↦ absurd (none x y z e)
    ]
  ]
] where
  none : (q == 96) ≡ false → (q == 34) ≡ false → (q == 39) ≡ false → is_quote q ≡ true → ⊥
  none x y z h =
      let k : is_some (cond ((q == 96) || (q == 34)) (Some QuotedWord) (cond (q == 39) (Some String) None)) ≡ true = h in
      let m = rw (x, y, z) at k in
      cc

by_quote : (P : ℕ → Type 0) → P 96 → P 34 → P 39 → (q : ℕ) → is_quote q ≡ true → P q
by_quote P a b c q e = elim (quote_is q e) [
  | inl x ↦ elim x [ inl y ↦ subst P (sym y) a | inr y ↦ subst P (sym y) b ]
  | inr x ↦ subst P (sym x) c
]

quote_no_word : (q : ℕ) → is_quote q ≡ true → is_word_start q ≡ false
quote_no_word q e = by_quote (λ n. is_word_start n ≡ false) refl refl refl q e

quote_no_gap : (q : ℕ) (bs : List ℕ) → is_quote q ≡ true → begins_gap (q ∷ bs) ≡ false
quote_no_gap q bs e = by_quote (λ n. begins_gap (n ∷ bs) ≡ false) refl refl refl q e

kind_some : (o : Option TokenKind) (k : TokenKind) → o ≡ Some k → is_some o ≡ true
kind_some o k e = ap is_some e

-- a sign is one of six
by_sign : (P : ℕ → Type 0) → P 40 → P 41 → P 44 → P 59 → P 46 → P 61 → (b : ℕ) → is_sign b ≡ true → P b
by_sign P a c d f g h b e = elim (or_cases (b == 40 || b == 41 || b == 44 || b == 59 || b == 46) (b == 61) e) [
  | inr x ↦ subst P (sym (eqb-true b 61 x)) h
  | inl x ↦ elim (or_cases (b == 40 || b == 41 || b == 44 || b == 59) (b == 46) x) [
    | inr y ↦ subst P (sym (eqb-true b 46 y)) g
    | inl y ↦ elim (or_cases (b == 40 || b == 41 || b == 44) (b == 59) y) [
      | inr z ↦ subst P (sym (eqb-true b 59 z)) f
      | inl z ↦ elim (or_cases (b == 40 || b == 41) (b == 44) z) [
        | inr u ↦ subst P (sym (eqb-true b 44 u)) d
        | inl u ↦ elim (or_cases (b == 40) (b == 41) u) [ inl v ↦ subst P (sym (eqb-true b 40 v)) a | inr v ↦ subst P (sym (eqb-true b 41 v)) c ]
      ]
    ]
  ]
]

-- ---- a token is read

in_front : (size : ℕ) (kind : TokenKind) (own rest : List ℕ) (n : ℕ) → n ≡ length own → front size (own ++ rest) kind n ≡ (token (size - length (own ++ rest)) kind own, rest)
in_front size kind own rest n e =
    ap (λ t. (token (size - length (own ++ rest)) kind t, drop n (own ++ rest))) (take_at own rest n (sym e))
    ∙ ap (λ t. (token (size - length (own ++ rest)) kind own, t)) (drop_at own rest n (sym e))

word_at : (size b : ℕ) (own rest : List ℕ) → is_word_start b ≡ true → AllPass is_word_byte own → begins_with is_word_byte rest ≡ false → token_at size (b ∷ (own ++ rest)) ≡ (token (size - length (b ∷ (own ++ rest))) Word (b ∷ own), rest)
unfolding token_at
word_at size b own rest e a s =
    let c : is_word_byte b ≡ true = ap (λ (x : Bool). x || is_digit b) e in
    cond-true (is_word_start b) _ _ e ∙ in_front size Word (b ∷ own) rest (prefix_len is_word_byte (b ∷ (own ++ rest))) (run_is is_word_byte (b ∷ own) rest (c, a) s)

no_quotes_at : (size b : ℕ) (bs : List ℕ) → is_word_start b ≡ false → quoted_kind b ≡ None → token_at size (b ∷ bs) ≡ unquoted size (b ∷ bs) b bs
unfolding token_at
no_quotes_at size b bs e f = cond-false (is_word_start b) _ _ e ∙ ap (quoted_or_not size (b ∷ bs) b bs) f

quotes_at : (size b : ℕ) (kind : TokenKind) (bs : List ℕ) → quoted_kind b ≡ Some kind → token_at size (b ∷ bs) ≡ in_quotes size (b ∷ bs) kind (bytes_in b plain bs) (ending b plain bs)
unfolding token_at
quotes_at size b kind bs e = cond-false (is_word_start b) _ _ (quote_no_word b (ap is_some e)) ∙ ap (quoted_or_not size (b ∷ bs) b bs) e

number_unquoted : (size b : ℕ) (own rest : List ℕ) → number_len (b ∷ (own ++ rest)) ≡ length (b ∷ own) → unquoted size (b ∷ (own ++ rest)) b (own ++ rest) ≡ (token (size - length (b ∷ (own ++ rest))) Number (b ∷ own), rest)
number_unquoted size b own rest e =
    cond-false (number_len (b ∷ (own ++ rest)) == 0) _ _ (ne_eqb (number_len (b ∷ (own ++ rest))) 0 (λ x. absurd (omega (arith, e, x))))
    ∙ in_front size Number (b ∷ own) rest (number_len (b ∷ (own ++ rest))) e

-- what a byte that begins a number is
abbrev IsNumberStart : ℕ → Type 0
IsNumberStart b = (is_word_start b ≡ false) × (quoted_kind b ≡ None)

number_start : (b : ℕ) → (is_digit b ≡ true) ⊎ (is_number_sign b ≡ true) → IsNumberStart b
number_start b (inl e) = (digit_no_word b e, digit_no_quote b e)
number_start b (inr e) = elim (or_cases (b == 43) (b == 45) e) [
  | inl x ↦ subst IsNumberStart (sym (eqb-true b 43 x)) (refl, refl)
  | inr x ↦ subst IsNumberStart (sym (eqb-true b 45 x)) (refl, refl)
]

-- the first byte of a sign and digits
number_head : (own sign digits tail : List ℕ) → own ≡ sign ++ (digits ++ tail) → IsNumberSign sign → AreDigits digits
    → (b : ℕ) × (rest : List ℕ) × (own ≡ b ∷ rest) × ((is_digit b ≡ true) ⊎ (is_number_sign b ≡ true)) × ((more : List ℕ) → begins_gap (b ∷ (rest ++ more)) ≡ false)
number_head own sign [] tail p s d = absurd (d.0 refl)
number_head own sign (x ∷ digits) tail p (inl s) d = (x, digits ++ tail, p ∙ ap (λ t. t ++ ((x ∷ digits) ++ tail)) s, inl d.1.0, λ more. digit_no_gap x ((digits ++ tail) ++ more) d.1.0)
number_head own sign (x ∷ digits) tail p (inr s) d =
    (s.0, (x ∷ digits) ++ tail, p ∙ ap (λ t. t ++ ((x ∷ digits) ++ tail)) s.1, inr s.2, λ more. signed_no_gap s.0 x ((digits ++ tail) ++ more) s.2 d.1.0) where
      signed_no_gap : (c y : ℕ) (more : List ℕ) → is_number_sign c ≡ true → is_digit y ≡ true → begins_gap (c ∷ y ∷ more) ≡ false
      signed_no_gap c y more e f = elim (or_cases (c == 43) (c == 45) e) [
        | inl z ↦ subst (λ n. begins_gap (n ∷ y ∷ more) ≡ false) (sym (eqb-true c 43 z)) refl
        | inr z ↦ subst (λ n. begins_gap (n ∷ y ∷ more) ≡ false) (sym (eqb-true c 45 z))
            (or_from (y == 45) false (ne_eqb y 45 (λ w. absurd (let l = (digit_bounds y f).0 in omega (arith, l, w)))) refl)
      ]

-- a token is what is read where it begins, and no gap begins there
pub record Reads (size : ℕ) (kind : TokenKind) (bytes own rest : List ℕ) : Type 0 where
  pub head : ℕ
  pub tail : List ℕ
  pub parts : own ≡ head ∷ tail
  pub no_gap : begins_gap (own ++ rest) ≡ false
  pub reads : token_at size (own ++ rest) ≡ (token (size - length (own ++ rest)) kind bytes, rest)
  pub goes_on : is_last kind ≡ false

reads_number : (size : ℕ) (own rest sign digits tail : List ℕ) → own ≡ sign ++ (digits ++ tail) → IsNumberSign sign → AreDigits digits → number_len (own ++ rest) ≡ length own → Reads size Number own own rest
reads_number size own rest sign digits tail p s d e =
    let h = number_head own sign digits tail p s d in
    let k = number_start h.0 h.3 in
    let at : number_len (h.0 ∷ (h.1 ++ rest)) ≡ length (h.0 ∷ h.1) = sym (ap (λ t. number_len (t ++ rest)) h.2) ∙ e ∙ ap length h.2 in
    record {
      head = h.0;
      tail = h.1;
      parts = h.2;
      no_gap = ap (λ t. begins_gap (t ++ rest)) h.2 ∙ h.4 rest;
      reads = subst (λ t. token_at size (t ++ rest) ≡ (token (size - length (t ++ rest)) Number t, rest)) (sym h.2) (no_quotes_at size h.0 (h.1 ++ rest) k.0 k.1 ∙ number_unquoted size h.0 h.1 rest at);
      goes_on = refl;
    }

sign_at : (size b : ℕ) (rest : List ℕ) → is_sign b ≡ true → token_at size (b ∷ rest) ≡ (token (size - length (b ∷ rest)) Sign (b ∷ []), rest)
unfolding token_at
sign_at size b rest e = by_sign (λ n. token_at size (n ∷ rest) ≡ (token (size - length (n ∷ rest)) Sign (n ∷ []), rest)) refl refl refl refl refl refl b e

quoted_goes : (q : ℕ) (kind : TokenKind) → quoted_kind q ≡ Some kind → is_last kind ≡ false
quoted_goes q kind e = by_quote (λ n. quoted_kind n ≡ Some kind → is_last kind ≡ false) (λ h. of_some QuotedWord refl h) (λ h. of_some QuotedWord refl h) (λ h. of_some String refl h) q (ap is_some e) e where
  of_some : (k : TokenKind) → is_last k ≡ false → Some k ≡ Some kind → is_last kind ≡ false
  of_some k f h = let x : k ≡ kind = cc in subst (λ y. is_last y ≡ false) x f

pub reads_token : (size : ℕ) (kind : TokenKind) (bytes own rest : List ℕ) → IsToken kind bytes own rest → Reads size kind bytes own rest
reads_token size kind bytes own rest (word {b = b} {own = o} e a s) =
    let n = high_byte b (word_is_high b e) in
    record { head = b; tail = o; parts = refl; no_gap = no_gap b (o ++ rest) n.0 n.1 n.2; reads = word_at size b o rest e a s; goes_on = refl }
reads_token size kind bytes own rest (whole sign digits p s d e f) = reads_number size own rest sign digits [] (p ∙ ap (λ t. sign ++ t) (sym (append-nil digits))) s d (whole_len sign digits own rest p s d e f)
reads_token size kind bytes own rest (fraction sign digits places p s d q e) = reads_number size own rest sign digits (46 ∷ places) p s d (fraction_number_len sign digits places own rest p s d q e)
reads_token size kind bytes own rest (one_sign {b = b} e) =
    record { head = b; tail = []; parts = refl; no_gap = by_sign (λ n. begins_gap (n ∷ rest) ≡ false) refl refl refl refl refl refl b e; reads = sign_at size b rest e; goes_on = refl }
reads_token size kind bytes own rest (quoted {q = q} {inside = inside} e p s f) =
    let A = apart q (ap is_some e) in
    let split : own ++ rest ≡ q ∷ (inside ++ q ∷ rest) = ap (λ t. t ++ rest) p ∙ ap (λ t. q ∷ t) (append_assoc inside (q ∷ []) rest) in
    record {
      head = q;
      tail = inside ++ q ∷ [];
      parts = p;
      no_gap = ap begins_gap split ∙ quote_no_gap q (inside ++ q ∷ rest) (ap is_some e);
      reads = subst (λ t. token_at size t ≡ (token (size - length t) kind bytes, rest)) (sym split)
          (quotes_at size q kind (inside ++ q ∷ rest) e
          ∙ ap (in_quotes size (q ∷ (inside ++ q ∷ rest)) kind (bytes_in q plain (inside ++ q ∷ rest))) (closed_from_stands q inside bytes rest A s f)
          ∙ ap (λ t. (token (size - length (q ∷ (inside ++ q ∷ rest))) kind t, rest)) (bytes_from_stands q inside bytes rest A s f));
      goes_on = quoted_goes q kind e;
    }

-- ---- where no token is

-- the place where none can be read has so many bytes from it on
abbrev pub Left : ℕ → ℕ → List ℕ → Type 0
Left n behind text = n + behind ≡ length text

some_kind : (o : Option TokenKind) → is_some o ≡ true → (kind : TokenKind) × (o ≡ Some kind)
some_kind None e = absurd cc
some_kind (Some kind) e = (kind, refl)

none_kind : (o : Option TokenKind) → is_some o ≡ false → o ≡ None
none_kind None e = refl
none_kind (Some kind) e = absurd cc

-- what can't begin a token, a blank or a comment
record Strange (b : ℕ) (bs : List ℕ) : Type 0 where
  stays : begins_gap (b ∷ bs) ≡ false
  word : is_word_start b ≡ false
  quote : is_quote b ≡ false
  sign : is_sign b ≡ false
  number : BeginsNone b bs

strange_parts : (b : ℕ) (bs : List ℕ) → can_begin (b ∷ bs) ≡ false → Strange b bs
strange_parts b bs e =
    let dashes = (b == 45) && begins_with (λ c. c == 45) bs in
    let stars = (b == 47) && begins_with (λ c. c == 42) bs in
    let signed = is_number_sign b && begins_with is_digit bs in
    let p = or_parts (is_space b || is_word_start b || is_quote b || is_sign b || is_digit b || signed || dashes) stars e in
    let q = or_parts (is_space b || is_word_start b || is_quote b || is_sign b || is_digit b || signed) dashes p.0 in
    let r = or_parts (is_space b || is_word_start b || is_quote b || is_sign b || is_digit b) signed q.0 in
    let s = or_parts (is_space b || is_word_start b || is_quote b || is_sign b) (is_digit b) r.0 in
    let t = or_parts (is_space b || is_word_start b || is_quote b) (is_sign b) s.0 in
    let u = or_parts (is_space b || is_word_start b) (is_quote b) t.0 in
    let v = or_parts (is_space b) (is_word_start b) u.0 in
    record { stays = or_from (is_space b || dashes) stars (or_from (is_space b) dashes v.0 q.1) p.1; word = v.1; quote = u.1; sign = t.1; number = (s.1, r.1) }

parts_strange : (b : ℕ) (bs : List ℕ) → Strange b bs → can_begin (b ∷ bs) ≡ false
parts_strange b bs s =
    let dashes = (b == 45) && begins_with (λ c. c == 45) bs in
    let stars = (b == 47) && begins_with (λ c. c == 42) bs in
    let signed = is_number_sign b && begins_with is_digit bs in
    let p = or_parts (is_space b || dashes) stars s.stays in
    let q = or_parts (is_space b) dashes p.0 in
    or_from (is_space b || is_word_start b || is_quote b || is_sign b || is_digit b || signed || dashes) stars
    (or_from (is_space b || is_word_start b || is_quote b || is_sign b || is_digit b || signed) dashes
    (or_from (is_space b || is_word_start b || is_quote b || is_sign b || is_digit b) signed
    (or4 (is_space b || is_word_start b) (is_quote b) (is_sign b) (is_digit b) (or_from (is_space b) (is_word_start b) q.0 s.word) s.quote s.sign s.number.0)
    s.number.1) q.1) p.1

strange_at : (size b : ℕ) (bs : List ℕ) → Strange b bs → token_at size (b ∷ bs) ≡ (token (size - length (b ∷ bs)) Broken [], [])
strange_at size b bs s =
    no_quotes_at size b bs s.word (none_kind (quoted_kind b) s.quote)
    ∙ cond-true (number_len (b ∷ bs) == 0) _ _ (ap (λ (n : ℕ). n == 0) (none_len b bs s.number)) ∙ cond-false (is_sign b) _ _ s.sign

-- a text in which no token can be read at its start
pub breaks_at : (size behind n : ℕ) (gap text : List ℕ) → IsBroken text behind → Left n behind text → IsGap gap → next_token size (gap ++ text) ≡ (token (size - n) Broken [], [])
unfolding next_token
breaks_at size behind n gap text (strange {b = b} {rest = rest} e) l g =
    let s = strange_parts b rest e in
    ap (behind_gap size) (gap_again gap (b ∷ rest) g ∙ stays b rest s.stays) ∙ strange_at size b rest s
    ∙ ap (λ (m : ℕ). (token (size - m) Broken [], [])) (let k : length (b ∷ rest) ≡ n = omega (arith, l) in k)
breaks_at size behind n gap text (open_comment {rest = rest} p u) l g =
    ap (λ t. behind_gap size (after_gap between 0 (gap ++ t))) p ∙ ap (behind_gap size) (gap_again gap (codes "/*" ++ rest) g ∙ open_comment_stays rest u)
    ∙ ap (λ (m : ℕ). (token (size - m) Broken [], [])) (let k : length (codes "/*" ++ rest) ≡ n = sym (ap length p) ∙ (let j : length text ≡ n = omega (arith, l) in j) in k)
breaks_at size behind n gap text (open_quote {q = q} {rest = rest} e u) l g =
    let kind = some_kind (quoted_kind q) e in
    ap (behind_gap size) (gap_again gap (q ∷ rest) g ∙ stays q rest (quote_no_gap q rest e))
    ∙ quotes_at size q kind.0 rest kind.1 ∙ ap (in_quotes size (q ∷ rest) kind.0 (bytes_in q plain rest)) (open_from_none q rest (apart q e) u)
    ∙ ap (λ (m : ℕ). (token (size - m) Broken [], [])) (let k : length (q ∷ rest) ≡ n = omega (arith, l) in k)
breaks_at size behind n gap text (bad_escape {q = q} {before = before} {rest = rest} e h f) l g =
    let kind = some_kind (quoted_kind q) e in
    let b = bad_from_escape q before rest (apart q e) h f in
    ap (behind_gap size) (gap_again gap (q ∷ rest) g ∙ stays q rest (quote_no_gap q rest e))
    ∙ quotes_at size q kind.0 rest kind.1 ∙ ap (in_quotes size (q ∷ rest) kind.0 (bytes_in q plain rest)) b.1
    ∙ ap (λ (m : ℕ). (token (size - m) Broken [], [])) (let i = b.2 in let k : b.0 ≡ n = omega (arith, l, i) in k)

pub token_next : (size : ℕ) (kind : TokenKind) (bytes gap own rest : List ℕ) → IsGap gap → IsToken kind bytes own rest → next_token size (gap ++ (own ++ rest)) ≡ (token (size - length (own ++ rest)) kind bytes, rest)
unfolding next_token
token_next size kind bytes gap own rest g t =
    let r = reads_token size kind bytes own rest t in
    let e : own ++ rest ≡ r.head ∷ (r.tail ++ rest) = ap (λ o. o ++ rest) r.parts in
    ap (behind_gap size) (gap_again gap (own ++ rest) g ∙ ap (after_gap between 0) e ∙ stays r.head (r.tail ++ rest) (sym (ap begins_gap e) ∙ r.no_gap) ∙ ap (λ o. Ok o) (sym e)) ∙ r.reads

pub last_next : (size : ℕ) (text : List ℕ) → IsLastGap text → next_token size text ≡ (token (size - 0) End [], [])
unfolding next_token token_at
last_next size text g = ap (behind_gap size) (last_gap_left text g)

-- ---- what the code finds

data At (size : ℕ) (text : List ℕ) : Token × List ℕ → Type 0 where
  at_token : {kind : TokenKind} {bytes own rest : List ℕ} → text ≡ own ++ rest → IsToken kind bytes own rest → At size text (token (size - length text) kind bytes, rest)
  at_break : {behind : ℕ} (n : ℕ) → IsBroken text behind → Left n behind text → At size text (token (size - n) Broken [], [])

word_found : (size b : ℕ) (bs : List ℕ) → is_word_start b ≡ true → At size (b ∷ bs) (token_at size (b ∷ bs))
word_found size b bs e =
    let r = run is_word_byte bs in
    subst (λ t. At size (b ∷ t) (token_at size (b ∷ t))) (sym r.parts)
    (subst (λ x. At size (b ∷ (r.own ++ r.rest)) x) (sym (word_at size b r.own r.rest e r.passes r.stops)) (at_token {own = b ∷ r.own} refl (word e r.passes r.stops)))

ending_found : (size q : ℕ) (kind : TokenKind) (bs : List ℕ) → quoted_kind q ≡ Some kind → (e : Ending) → Tells q bs e → At size (q ∷ bs) (in_quotes size (q ∷ bs) kind (bytes_in q plain bs) e)
ending_found size q kind bs k (closed rest) h =
    at_token {own = q ∷ (h.inside ++ q ∷ [])} (ap (λ t. q ∷ t) (h.parts ∙ sym (append_assoc h.inside (q ∷ []) rest))) (quoted k refl h.stands h.single)
ending_found size q kind bs k (bad n) h =
    at_break n (bad_escape (ap is_some k) (end_from_closes q bs (apart q (ap is_some k)) h.closing) (h.own, h.bytes, h.rest, h.parts, h.stands, h.lacks, refl))
    (let l = h.left in let p = ap length h.parts in let m = length-append h.own (92 ∷ 120 ∷ h.rest) in omega (arith, l, p, m))
ending_found size q kind bs k open_ended h =
    at_break (length (q ∷ bs)) (open_quote (ap is_some k) (λ x. never _ h (closes_from_end q bs (apart q (ap is_some k)) x))) (omega arith)

quoted_found : (size q : ℕ) (kind : TokenKind) (bs : List ℕ) → quoted_kind q ≡ Some kind → At size (q ∷ bs) (token_at size (q ∷ bs))
quoted_found size q kind bs k = subst (λ x. At size (q ∷ bs) x) (sym (quotes_at size q kind bs k)) (ending_found size q kind bs k (ending q plain bs) (tells q bs (apart q (ap is_some k))))

unquoted_found : (size b : ℕ) (bs : List ℕ) → begins_gap (b ∷ bs) ≡ false → is_word_start b ≡ false → quoted_kind b ≡ None → At size (b ∷ bs) (token_at size (b ∷ bs))
unquoted_found size b bs g w q = elim (number_cases b bs) [
  | inl n ↦
      let r = reads_token size Number n.own n.own n.rest n.is_number in
      let e : token_at size (b ∷ bs) ≡ (token (size - length (b ∷ bs)) Number n.own, n.rest) = ap (token_at size) n.parts ∙ r.reads ∙ ap (λ t. (token (size - length t) Number n.own, n.rest)) (sym n.parts) in
      subst (λ x. At size (b ∷ bs) x) (sym e) (at_token n.parts n.is_number)
  | inr n ↦ elim (cases_Bool (is_sign b)) [
    | inl s ↦ subst (λ x. At size (b ∷ bs) x) (sym (sign_at size b bs s)) (at_token {own = b ∷ []} refl (one_sign s))
    | inr s ↦
        let x : Strange b bs = record { stays = g; word = w; quote = ap is_some q; sign = s; number = n } in
        subst (λ y. At size (b ∷ bs) y) (sym (strange_at size b bs x)) (at_break (length (b ∷ bs)) (strange (parts_strange b bs x)) (omega arith))
  ]
]

at_found : (size b : ℕ) (bs : List ℕ) → begins_gap (b ∷ bs) ≡ false → At size (b ∷ bs) (token_at size (b ∷ bs))
at_found size b bs g = elim (cases_Bool (is_word_start b)) [
  | inl w ↦ word_found size b bs w
  | inr w ↦ elim (cases_Bool (is_some (quoted_kind b))) [
    | inl q ↦ let k = some_kind (quoted_kind b) q in quoted_found size b k.0 bs k.1
    | inr q ↦ unquoted_found size b bs g w (none_kind (quoted_kind b) q)
  ]
]

-- the next token of a text of which this is left
pub data Next (size : ℕ) (text : List ℕ) : Token × List ℕ → Type 0 where
  one_more : {kind : TokenKind} {bytes own rest : List ℕ} (gap : List ℕ) → text ≡ gap ++ (own ++ rest) → IsGap gap → IsToken kind bytes own rest
      → Next size text (token (size - length (own ++ rest)) kind bytes, rest)
  no_more : IsLastGap text → Next size text (token (size - 0) End [], [])
  broken : {behind : ℕ} {gap rest : List ℕ} (n : ℕ) → text ≡ gap ++ rest → IsGap gap → IsBroken rest behind → Left n behind rest → Next size text (token (size - n) Broken [], [])

next_after : (size : ℕ) (text gap rest : List ℕ) (x : Token × List ℕ) → text ≡ gap ++ rest → IsGap gap → At size rest x → Next size text x
next_after size text gap rest x p g (at_token {kind = kind} {bytes = bytes} {own = own} {rest = later} q t) =
    subst (λ (n : ℕ). Next size text (token (size - n) kind bytes, later)) (sym (ap length q)) (one_more gap (p ∙ ap (λ o. gap ++ o) q) g t)
next_after size text gap rest x p g (at_break n b l) = broken n p g b l

next_of : (size : ℕ) (text : List ℕ) (r : Result (List ℕ) ℕ) → Leaves text r → Next size text (behind_gap size r)
unfolding token_at
next_of size text (Ok []) h = no_more h
next_of size text (Ok (b ∷ bs)) h = next_after size text h.gap (b ∷ bs) (token_at size (b ∷ bs)) h.parts h.is_gap (at_found size b bs h.stops)
next_of size text (Err n) h = broken n h.parts h.is_gap (open_comment refl h.unended) (let l = h.left in omega (arith, l))

pub next_found : (size : ℕ) (text : List ℕ) → Next size text (next_token size text)
unfolding next_token
next_found size text = next_of size text (after_gap between 0 text) (leaves text)

-- ---- all tokens

-- the tokens of whatever is left later
abbrev pub Later : ℕ → ℕ → (List ℕ → List Token) → Type 0
Later size most later = (place : ℕ) (rest : List ℕ) → place + length rest ≡ size → length rest < most → TokensFrom place rest (later rest)

some_bytes : (size : ℕ) (kind : TokenKind) (bytes own rest : List ℕ) → IsToken kind bytes own rest → 0 < length own
some_bytes size kind bytes own rest t = let r = reads_token size kind bytes own rest t in let e = ap length r.parts in omega (arith, e)

pub from_next : (size place : ℕ) (text : List ℕ) (x : Token × List ℕ) (later : List ℕ → List Token) → place + length text ≡ size → Later size (length text) later → Next size text x
    → TokensFrom place text (x.0 ∷ cond (is_last x.0.kind) [] (later x.1))
from_next size place text x later e l (one_more {kind = kind} {bytes = bytes} {own = own} {rest = rest} gap p g t) =
    let r = reads_token size kind bytes own rest t in
    let a = ap length p in
    let b = length-append gap (own ++ rest) in
    let c = length-append own rest in
    let d = some_bytes size kind bytes own rest t in
    let at : place + length gap ≡ size - length (own ++ rest) = omega (arith, e, a, b) in
    let ts = l (place + length gap + length own) rest (omega (arith, e, a, b, c)) (omega (arith, a, b, c, d)) in
    subst (λ (m : ℕ). TokensFrom place text (token m kind bytes ∷ cond (is_last kind) [] (later rest))) at
    (subst (λ us. TokensFrom place text (token (place + length gap) kind bytes ∷ us)) (sym (cond-false (is_last kind) [] (later rest) r.goes_on)) (next p g t ts))
from_next size place text x later e l (no_more g) = subst (λ (m : ℕ). TokensFrom place text (token m End [] ∷ [])) (let k : place + length text ≡ size - 0 = omega (arith, e) in k) (ends g)
from_next size place text x later e l (broken {behind = behind} {gap = gap} {rest = rest} n p g b h) =
    let a = ap length p in
    let c = length-append gap rest in
    subst (λ (m : ℕ). TokensFrom place text (token m Broken [] ∷ [])) (let k : place + length gap + behind ≡ size - n = omega (arith, e, a, c, h) in k) (breaks p g b)

by_sound : (n size place : ℕ) (text : List ℕ) → place + length text ≡ size → length text < n → TokensFrom place text (tokens_by n size text)
unfolding tokens_by
by_sound zero size place text e l = absurd (omega arith)
by_sound (suc n) size place text e l =
    from_next size place text (next_token size text) (tokens_by n size) e (λ p rest f m. by_sound n size p rest f (omega (arith, l, m))) (next_found size text)

pub tokens_sound : (size place : ℕ) (text : List ℕ) → place + length text ≡ size → TokensFrom place text (tokens size text)
unfolding tokens
tokens_sound size place text e = by_sound (suc (length text)) size place text e (omega arith)

broken_within : (behind : ℕ) (text : List ℕ) → IsBroken text behind → (n : ℕ) × Left n behind text
broken_within behind text (strange {b = b} {rest = rest} e) = (length (b ∷ rest), omega arith)
broken_within behind text (open_comment p u) = (length text, omega arith)
broken_within behind text (open_quote {q = q} {rest = rest} e u) = (length (q ∷ rest), omega arith)
broken_within behind text (bad_escape {q = q} {before = before} {rest = rest} e h f) = let b = bad_from_escape q before rest (apart q e) h f in (b.0, let i = b.2 in omega (arith, i))

by_only : (n size place : ℕ) (text : List ℕ) (ts : List Token) → TokensFrom place text ts → place + length text ≡ size → length text < n → tokens_by n size text ≡ ts
unfolding tokens_by
by_only zero size place text ts t e l = absurd (omega arith)
by_only (suc n) size place text ts (ends g) e l =
    ap (λ (x : Token × List ℕ). x.0 ∷ cond (is_last x.0.kind) [] (tokens_by n size x.1)) (last_next size text g)
    ∙ ap (λ (m : ℕ). token m End [] ∷ []) (let k : size - 0 ≡ place + length text = omega (arith, e) in k)
by_only (suc n) size place text ts (breaks {behind = behind} {gap = gap} {rest = rest} p g b) e l =
    let w = broken_within behind rest b in
    let a = ap length p in
    let c = length-append gap rest in
    let i = w.1 in
    ap (λ t. let x = next_token size t in x.0 ∷ cond (is_last x.0.kind) [] (tokens_by n size x.1)) p
    ∙ ap (λ (x : Token × List ℕ). x.0 ∷ cond (is_last x.0.kind) [] (tokens_by n size x.1)) (breaks_at size behind w.0 gap rest b w.1 g)
    ∙ ap (λ (m : ℕ). token m Broken [] ∷ []) (let k : size - w.0 ≡ place + length gap + behind = omega (arith, e, a, c, i) in k)
by_only (suc n) size place text ts (next {kind = kind} {gap = gap} {own = own} {bytes = bytes} {rest = rest} {tokens = us} p g t h) e l =
    let r = reads_token size kind bytes own rest t in
    let a = ap length p in
    let b = length-append gap (own ++ rest) in
    let c = length-append own rest in
    let d = some_bytes size kind bytes own rest t in
    ap (λ t. let x = next_token size t in x.0 ∷ cond (is_last x.0.kind) [] (tokens_by n size x.1)) p
    ∙ ap (λ (x : Token × List ℕ). x.0 ∷ cond (is_last x.0.kind) [] (tokens_by n size x.1)) (token_next size kind bytes gap own rest g t)
    ∙ ap (λ us. token (size - length (own ++ rest)) kind bytes ∷ us) (cond-false (is_last kind) [] (tokens_by n size rest) r.goes_on ∙ by_only n size (place + length gap + length own) rest us h (omega (arith, e, a, b, c)) (omega (arith, a, b, c, d, l)))
    ∙ ap (λ (m : ℕ). token m kind bytes ∷ us) (let k : size - length (own ++ rest) ≡ place + length gap = omega (arith, e, a, b) in k)

pub tokens_only : (size place : ℕ) (text : List ℕ) (ts : List Token) → place + length text ≡ size → TokensFrom place text ts → tokens size text ≡ ts
unfolding tokens
tokens_only size place text ts e t = by_only (suc (length text)) size place text ts t e (omega arith)

pub ahead_sound : (size place : ℕ) (text : List ℕ) → place + length text ≡ size → TokensFrom place text (ahead (next_token size text).0 size (next_token size text).1)
ahead_sound size place text e = from_next size place text (next_token size text) (tokens size) e (λ p rest f m. tokens_sound size p rest f) (next_found size text)

-- the tokens that are left are the next one and those that come later
pub tokens_first : (size : ℕ) (text : List ℕ) → length text ≤ size → tokens size text ≡ ahead (next_token size text).0 size (next_token size text).1
tokens_first size text l = tokens_only size (size - length text) text (ahead (next_token size text).0 size (next_token size text).1) (omega (arith, l)) (ahead_sound size (size - length text) text (omega (arith, l)))
