-- What stands in quotes is read as the bytes that it stands for, up to its closing sign.
use Rattle.std.proofs.Common.{◌≡◌, ◌≢◌, ℕ, zero, suc, ◌+◌, ◌*◌, ◌<◌, Bool, true, false, cond, List, [], ◌∷◌, ◌++◌, length, Option, Some, None, refl, sym, ap, subst, ◌∙◌, append_assoc, arith, inl, inr, length-append}
use Rattle.std.specs.Prelude.{◌==◌, ◌&&◌, ◌||◌, not, is_some, unwrap_or}
use Rattle.std.proofs.lemmas.Bool.{eqb-true, eqb-false, ne_eqb, eq-eqb, cond-true, cond-false, cases_Bool, and_parts, and_from, and_left, not_from_true}
use Rattle.std.proofs.lemmas.List.{append-nil}
use Rattle.ddl_tokens.specs.declared.token.TokenKind.{TokenKind}
use Rattle.ddl_tokens.specs.Letters.{is_quote, begins_with}
use Rattle.dict_value.specs.Escapes.{hex_digit, begins_with_digits, unescaped}
use Rattle.ddl_tokens.specs.Quoted.{StandsFor, nothing, itself, doubled, escaped as by_slash, hexadecimal, IsInside, empty, plain as plain_byte, pair, taken, HasEnd, LacksDigits}
use Rattle.ddl_tokens.specs.steps.Lexer.{plain, ended, escaped, hex_value, bytes_in, closes, Ending, closed, bad, open_ended, spoiled, ending}

-- ---- hexadecimal digits are no quote signs

abbrev pub IsQuote : ℕ → Type 0
IsQuote q = is_quote q ≡ true

-- a sign that is neither a hexadecimal digit nor a backslash
pub record Apart (q : ℕ) : Type 0 where
  pub digit : (b : ℕ) → is_some (hex_digit b) ≡ true → (b == q) ≡ false
  pub slash : (92 == q) ≡ false

digit_not : (n b : ℕ) → is_some (hex_digit n) ≡ false → is_some (hex_digit b) ≡ true → (b == n) ≡ false
digit_not n b e f = elim (cases_Bool (b == n)) [
  | inl x ↦ absurd (let y = sym f ∙ ap (λ (m : ℕ). is_some (hex_digit m)) (eqb-true b n x) ∙ e in cc)
  | inr x ↦ x
]

slash_not_digit : (b : ℕ) → is_some (hex_digit b) ≡ true → (b == 92) ≡ false
unfolding hex_digit
slash_not_digit b e = digit_not 92 b refl e

apart_96 : Apart 96
unfolding hex_digit
apart_96 = record { digit = λ b e. digit_not 96 b refl e; slash = refl }

apart_34 : Apart 34
unfolding hex_digit
apart_34 = record { digit = λ b e. digit_not 34 b refl e; slash = refl }

apart_39 : Apart 39
unfolding hex_digit
apart_39 = record { digit = λ b e. digit_not 39 b refl e; slash = refl }

pub apart : (q : ℕ) → IsQuote q → Apart q
apart q e = elim (cases_Bool (q == 96)) [
  | inl x ↦ subst (λ n. Apart n) (sym (eqb-true q 96 x)) apart_96
  | inr x ↦ elim (cases_Bool (q == 34)) [
    | inl y ↦ subst (λ n. Apart n) (sym (eqb-true q 34 y)) apart_34
    | inr y ↦ elim (cases_Bool (q == 39)) [
      | inl z ↦ subst (λ n. Apart n) (sym (eqb-true q 39 z)) apart_39
      | inr z ↦ absurd (none x y z e)
    ]
  ]
] where
  none : (q == 96) ≡ false → (q == 34) ≡ false → (q == 39) ≡ false → is_quote q ≡ true → ⊥
  none x y z h =
      let k : is_some (cond ((q == 96) || (q == 34)) (Some TokenKind.QuotedWord) (cond (q == 39) (Some TokenKind.String) None)) ≡ true = h in
      let m = rw (x, y, z) at k in
      cc

-- ---- what stands for bytes is read as them

digits_first : (hi lo a b : ℕ) (rest : List ℕ) → hex_digit hi ≡ Some a → hex_digit lo ≡ Some b → begins_with_digits (hi ∷ lo ∷ rest) ≡ true
digits_first hi lo a b rest e f = and_from (is_some (hex_digit hi)) (is_some (hex_digit lo)) (ap is_some e) (ap is_some f)

pub stands_bytes : (q : ℕ) → Apart q → (own bytes more : List ℕ) → StandsFor q own bytes → bytes_in q plain (own ++ more) ≡ bytes ++ bytes_in q plain more
unfolding bytes_in
stands_bytes q A own bytes more nothing = refl
stands_bytes q A own bytes more (itself {b = b} {own = o} {bytes = s} n m h) =
    cond-false (b == q) _ _ (ne_eqb b q n) ∙ cond-false (b == 92) _ _ (ne_eqb b 92 m) ∙ ap (λ t. b ∷ t) (stands_bytes q A o s more h)
stands_bytes q A own bytes more (doubled {own = o} {bytes = s} h) =
    cond-true (q == q) _ _ (eq-eqb q q refl) ∙ cond-true (q == q) _ _ (eq-eqb q q refl) ∙ ap (λ t. q ∷ t) (stands_bytes q A o s more h)
stands_bytes q A own bytes more (by_slash {c = c} {own = o} {bytes = s} n h) =
    cond-false (92 == q) _ _ A.slash ∙ cond-false ((c == 120) && begins_with_digits (o ++ more)) _ _ (and_left (c == 120) (begins_with_digits (o ++ more)) (ne_eqb c 120 n))
    ∙ ap (λ t. unescaped c ∷ t) (stands_bytes q A o s more h)
stands_bytes q A own bytes more (hexadecimal {high = hi} {low = lo} {a = a} {b = b} {own = o} {bytes = s} e f h) =
    cond-false (92 == q) _ _ A.slash ∙ cond-true (begins_with_digits (hi ∷ lo ∷ (o ++ more))) _ _ (digits_first hi lo a b (o ++ more) e f)
    ∙ ap (λ t. (16 * hex_value hi + hex_value lo) ∷ t) (stands_bytes q A o s more h)
    ∙ ap (λ x. (16 * unwrap_or x 0 + hex_value lo) ∷ (s ++ bytes_in q plain more)) e
    ∙ ap (λ x. (16 * a + unwrap_or x 0) ∷ (s ++ bytes_in q plain more)) f

-- a byte that is neither the sign nor a backslash
plain_ending : (q b : ℕ) (bs : List ℕ) → (b == q) ≡ false → (b == 92) ≡ false → ending q plain (b ∷ bs) ≡ ending q plain bs
unfolding ending
plain_ending q b bs e f = cond-false (b == q) _ _ e ∙ cond-false (b == 92) _ _ f

digit_ending : (q b a : ℕ) (bs : List ℕ) → Apart q → hex_digit b ≡ Some a → ending q plain (b ∷ bs) ≡ ending q plain bs
digit_ending q b a bs A e = plain_ending q b bs (A.digit b (ap is_some e)) (slash_not_digit b (ap is_some e))

-- an escape that is none of the bad ones
escape_ending : (q c : ℕ) (cs : List ℕ) → Apart q → ((c == 120) && not (begins_with_digits cs)) ≡ false → ending q plain (92 ∷ c ∷ cs) ≡ ending q plain cs
unfolding ending
escape_ending q c cs A e = cond-false (92 == q) _ _ A.slash ∙ cond-false ((c == 120) && not (begins_with_digits cs)) _ _ e

doubled_ending : (q : ℕ) (bs : List ℕ) → ending q plain (q ∷ q ∷ bs) ≡ ending q plain bs
unfolding ending
doubled_ending q bs = cond-true (q == q) _ _ (eq-eqb q q refl) ∙ cond-true (q == q) _ _ (eq-eqb q q refl)

pub stands_ending : (q : ℕ) → Apart q → (own bytes more : List ℕ) → StandsFor q own bytes → ending q plain (own ++ more) ≡ ending q plain more
stands_ending q A own bytes more nothing = refl
stands_ending q A own bytes more (itself {b = b} {own = o} {bytes = s} n m h) = plain_ending q b (o ++ more) (ne_eqb b q n) (ne_eqb b 92 m) ∙ stands_ending q A o s more h
stands_ending q A own bytes more (doubled {own = o} {bytes = s} h) = doubled_ending q (o ++ more) ∙ stands_ending q A o s more h
stands_ending q A own bytes more (by_slash {c = c} {own = o} {bytes = s} n h) =
    escape_ending q c (o ++ more) A (and_left (c == 120) (not (begins_with_digits (o ++ more))) (ne_eqb c 120 n)) ∙ stands_ending q A o s more h
stands_ending q A own bytes more (hexadecimal {high = hi} {low = lo} {a = a} {b = b} {own = o} {bytes = s} e f h) =
    escape_ending q 120 (hi ∷ lo ∷ (o ++ more)) A (not_from_true (begins_with_digits (hi ∷ lo ∷ (o ++ more))) (digits_first hi lo a b (o ++ more) e f))
    ∙ digit_ending q hi a (lo ∷ (o ++ more)) A e ∙ digit_ending q lo b (o ++ more) A f ∙ stands_ending q A o s more h

abbrev pub is_sign_of : ℕ → ℕ → Bool
is_sign_of q b = b == q

-- the closing sign
pub closing_ending : (q : ℕ) (rest : List ℕ) → begins_with (is_sign_of q) rest ≡ false → ending q plain (q ∷ rest) ≡ closed rest
unfolding ending
closing_ending q [] e = cond-true (q == q) _ _ (eq-eqb q q refl)
closing_ending q (c ∷ cs) e = cond-true (q == q) _ _ (eq-eqb q q refl) ∙ cond-false (c == q) _ _ e

pub closing_bytes : (q : ℕ) (rest : List ℕ) → begins_with (is_sign_of q) rest ≡ false → bytes_in q plain (q ∷ rest) ≡ []
unfolding bytes_in
closing_bytes q [] e = cond-true (q == q) _ _ (eq-eqb q q refl)
closing_bytes q (c ∷ cs) e = cond-true (q == q) _ _ (eq-eqb q q refl) ∙ cond-false (c == q) _ _ e

closing_closes : (q : ℕ) (rest : List ℕ) → begins_with (is_sign_of q) rest ≡ false → closes q plain (q ∷ rest) ≡ true
unfolding closes
closing_closes q [] e = cond-true (q == q) _ _ (eq-eqb q q refl)
closing_closes q (c ∷ cs) e = cond-true (q == q) _ _ (eq-eqb q q refl) ∙ cond-false (c == q) _ _ e

-- ---- whether there is a closing sign

plain_closes : (q b : ℕ) (bs : List ℕ) → (b == q) ≡ false → (b == 92) ≡ false → closes q plain (b ∷ bs) ≡ closes q plain bs
unfolding closes
plain_closes q b bs e f = cond-false (b == q) _ _ e ∙ cond-false (b == 92) _ _ f

slash_closes : (q c : ℕ) (cs : List ℕ) → Apart q → closes q plain (92 ∷ c ∷ cs) ≡ closes q plain cs
unfolding closes
slash_closes q c cs A = cond-false (92 == q) _ _ A.slash

doubled_closes : (q : ℕ) (bs : List ℕ) → closes q plain (q ∷ q ∷ bs) ≡ closes q plain bs
unfolding closes
doubled_closes q bs = cond-true (q == q) _ _ (eq-eqb q q refl) ∙ cond-true (q == q) _ _ (eq-eqb q q refl)

inside_closes : (q : ℕ) → Apart q → (own more : List ℕ) → IsInside q own → closes q plain (own ++ more) ≡ closes q plain more
inside_closes q A own more empty = refl
inside_closes q A own more (plain_byte {b = b} {own = o} n m h) = plain_closes q b (o ++ more) (ne_eqb b q n) (ne_eqb b 92 m) ∙ inside_closes q A o more h
inside_closes q A own more (pair {own = o} h) = doubled_closes q (o ++ more) ∙ inside_closes q A o more h
inside_closes q A own more (taken {c = c} {own = o} h) = slash_closes q c (o ++ more) A ∙ inside_closes q A o more h

pub closes_from_end : (q : ℕ) (text : List ℕ) → Apart q → HasEnd q text → closes q plain text ≡ true
closes_from_end q text A h = ap (closes q plain) h.2 ∙ inside_closes q A h.0 (q ∷ h.1) h.3 ∙ closing_closes q h.1 h.4

-- ---- one step into a text

-- no byte; the closing sign; one byte or two that stand for a byte; a bad escape
data Front (q : ℕ) : List ℕ → Type 0 where
  nothing_left : Front q []
  slash_last : Front q (92 ∷ [])
  at_end : {rest : List ℕ} → begins_with (is_sign_of q) rest ≡ false → Front q (q ∷ rest)
  a_byte : {b : ℕ} {rest : List ℕ} → b ≢ q → b ≢ 92 → Front q (b ∷ rest)
  a_pair : {rest : List ℕ} → Front q (q ∷ q ∷ rest)
  an_escape : {c : ℕ} {rest : List ℕ} → c ≢ 120 → Front q (92 ∷ c ∷ rest)
  a_number : {hi lo a b : ℕ} {rest : List ℕ} → hex_digit hi ≡ Some a → hex_digit lo ≡ Some b → Front q (92 ∷ 120 ∷ hi ∷ lo ∷ rest)
  a_bad_one : {rest : List ℕ} → begins_with_digits rest ≡ false → Front q (92 ∷ 120 ∷ rest)

some_of : (o : Option ℕ) → is_some o ≡ true → (a : ℕ) × (o ≡ Some a)
some_of None e = absurd cc
some_of (Some a) e = (a, refl)

front_number : (q : ℕ) (rest : List ℕ) → begins_with_digits rest ≡ true → Front q (92 ∷ 120 ∷ rest)
front_number q [] e = absurd cc
front_number q (hi ∷ []) e = absurd cc
front_number q (hi ∷ lo ∷ rest) e =
    let p = and_parts (is_some (hex_digit hi)) (is_some (hex_digit lo)) e in
    a_number (some_of (hex_digit hi) p.0).1 (some_of (hex_digit lo) p.1).1

front_slash : (q : ℕ) (bs : List ℕ) → Front q (92 ∷ bs)
front_slash q [] = slash_last
front_slash q (c ∷ cs) = elim (cases_Bool (c == 120)) [
  | inl e ↦ subst (λ (x : ℕ). Front q (92 ∷ x ∷ cs)) (sym (eqb-true c 120 e)) (elim (cases_Bool (begins_with_digits cs)) [ inl f ↦ front_number q cs f | inr f ↦ a_bad_one f ])
  | inr e ↦ an_escape (eqb-false c 120 e)
]

front_sign : (q : ℕ) (bs : List ℕ) → Front q (q ∷ bs)
front_sign q [] = at_end refl
front_sign q (c ∷ cs) = elim (cases_Bool (c == q)) [
  | inl e ↦ subst (λ (x : ℕ). Front q (q ∷ x ∷ cs)) (sym (eqb-true c q e)) a_pair
  | inr e ↦ at_end e
]

front_of : (q : ℕ) (text : List ℕ) → Front q text
front_of q [] = nothing_left
front_of q (b ∷ bs) = elim (cases_Bool (b == q)) [
  | inl e ↦ subst (λ (x : ℕ). Front q (x ∷ bs)) (sym (eqb-true b q e)) (front_sign q bs)
  | inr e ↦ elim (cases_Bool (b == 92)) [
    | inl f ↦ subst (λ (x : ℕ). Front q (x ∷ bs)) (sym (eqb-true b 92 f)) (front_slash q bs)
    | inr f ↦ a_byte (eqb-false b q e) (eqb-false b 92 f)
  ]
]

-- ---- a closing sign that is told is there

end_after : (q : ℕ) (front text : List ℕ) → ((o : List ℕ) → IsInside q o → IsInside q (front ++ o)) → HasEnd q text → HasEnd q (front ++ text)
end_after q front text f h = (front ++ h.0, h.1, ap (λ t. front ++ t) h.2 ∙ sym (append_assoc front h.0 (q ∷ h.1)), f h.0 h.3, h.4)

pub never : {A : Type 0} (b : Bool) → b ≡ false → b ≡ true → A
never b e f = absurd (let x = sym e ∙ f in cc)

nothing_closes : (q : ℕ) → closes q plain [] ≡ false
unfolding closes
nothing_closes q = refl

last_slash_closes : (q : ℕ) → Apart q → closes q plain (92 ∷ []) ≡ false
unfolding closes
last_slash_closes q A = cond-false (92 == q) _ _ A.slash

end_at : (q : ℕ) → Apart q → (n : ℕ) (text : List ℕ) → length text < n → closes q plain text ≡ true → HasEnd q text
end_at q A zero text lt e = absurd (omega arith)
end_at q A (suc n) text lt e = at text (front_of q text) lt e (λ t l f. end_at q A n t l f) where
  slashed : (c : ℕ) (rest : List ℕ) → length (92 ∷ c ∷ rest) < suc n → closes q plain (92 ∷ c ∷ rest) ≡ true → ((t : List ℕ) → length t < n → closes q plain t ≡ true → HasEnd q t) → HasEnd q (92 ∷ c ∷ rest)
  slashed c rest l f ih = end_after q (92 ∷ c ∷ []) rest (λ o h. taken h) (ih rest (omega arith) (sym (slash_closes q c rest A) ∙ f))

  at : (t : List ℕ) → Front q t → length t < suc n → closes q plain t ≡ true → ((t : List ℕ) → length t < n → closes q plain t ≡ true → HasEnd q t) → HasEnd q t
  at t nothing_left l f ih = never _ (nothing_closes q) f
  at t slash_last l f ih = never _ (last_slash_closes q A) f
  at t (at_end {rest = rest} g) l f ih = ([], rest, refl, empty, g)
  at t (a_byte {b = b} {rest = rest} x y) l f ih = end_after q (b ∷ []) rest (λ o h. plain_byte x y h) (ih rest (omega arith) (sym (plain_closes q b rest (ne_eqb b q x) (ne_eqb b 92 y)) ∙ f))
  at t (a_pair {rest = rest}) l f ih = end_after q (q ∷ q ∷ []) rest (λ o h. pair h) (ih rest (omega arith) (sym (doubled_closes q rest) ∙ f))
  at t (an_escape {c = c} {rest = rest} x) l f ih = slashed c rest l f ih
  at t (a_number {hi = hi} {lo = lo} {rest = rest} x y) l f ih = slashed 120 (hi ∷ lo ∷ rest) l f ih
  at t (a_bad_one {rest = rest} x) l f ih = slashed 120 rest l f ih

pub end_from_closes : (q : ℕ) (text : List ℕ) → Apart q → closes q plain text ≡ true → HasEnd q text
end_from_closes q text A e = end_at q A (suc (length text)) text (omega arith) e

-- ---- what ends a text is told

stands_closes : (q : ℕ) → Apart q → (own bytes more : List ℕ) → StandsFor q own bytes → closes q plain (own ++ more) ≡ closes q plain more
stands_closes q A own bytes more nothing = refl
stands_closes q A own bytes more (itself {b = b} {own = o} {bytes = s} n m h) = plain_closes q b (o ++ more) (ne_eqb b q n) (ne_eqb b 92 m) ∙ stands_closes q A o s more h
stands_closes q A own bytes more (doubled {own = o} {bytes = s} h) = doubled_closes q (o ++ more) ∙ stands_closes q A o s more h
stands_closes q A own bytes more (by_slash {c = c} {own = o} {bytes = s} n h) = slash_closes q c (o ++ more) A ∙ stands_closes q A o s more h
stands_closes q A own bytes more (hexadecimal {high = hi} {low = lo} {a = a} {b = b} {own = o} {bytes = s} e f h) =
    slash_closes q 120 (hi ∷ lo ∷ (o ++ more)) A
    ∙ plain_closes q hi (lo ∷ (o ++ more)) (A.digit hi (ap is_some e)) (slash_not_digit hi (ap is_some e))
    ∙ plain_closes q lo (o ++ more) (A.digit lo (ap is_some f)) (slash_not_digit lo (ap is_some f))
    ∙ stands_closes q A o s more h

stands_append : (q : ℕ) (own bytes o s : List ℕ) → StandsFor q own bytes → StandsFor q o s → StandsFor q (own ++ o) (bytes ++ s)
stands_append q own bytes o s nothing g = g
stands_append q own bytes o s (itself {own = p} {bytes = r} n m h) g = itself n m (stands_append q p r o s h g)
stands_append q own bytes o s (doubled {own = p} {bytes = r} h) g = doubled (stands_append q p r o s h g)
stands_append q own bytes o s (by_slash {own = p} {bytes = r} n h) g = by_slash n (stands_append q p r o s h g)
stands_append q own bytes o s (hexadecimal {own = p} {bytes = r} e f h) g = hexadecimal e f (stands_append q p r o s h g)

pub record IsClosed (q : ℕ) (text rest : List ℕ) : Type 0 where
  pub inside : List ℕ
  pub parts : text ≡ inside ++ q ∷ rest
  pub stands : StandsFor q inside (bytes_in q plain text)
  pub single : begins_with (is_sign_of q) rest ≡ false

pub record IsBad (q : ℕ) (text : List ℕ) (n : ℕ) : Type 0 where
  pub own : List ℕ
  pub bytes : List ℕ
  pub rest : List ℕ
  pub parts : text ≡ own ++ (92 ∷ 120 ∷ rest)
  pub stands : StandsFor q own bytes
  pub lacks : begins_with_digits rest ≡ false
  pub left : n ≡ length (92 ∷ 120 ∷ rest)
  pub closing : closes q plain text ≡ true

abbrev pub Tells : ℕ → List ℕ → Ending → Type 0
Tells q text (closed rest) = IsClosed q text rest
Tells q text (bad n) = IsBad q text n
Tells q text open_ended = closes q plain text ≡ false

tells_more : (q : ℕ) → Apart q → (front bytes text : List ℕ) (e : Ending) → StandsFor q front bytes → Tells q text e → Tells q (front ++ text) e
tells_more q A front bytes text (closed rest) s h = record {
  inside = front ++ h.inside;
  parts = ap (λ t. front ++ t) h.parts ∙ sym (append_assoc front h.inside (q ∷ rest));
  stands = subst (λ t. StandsFor q (front ++ h.inside) t) (sym (stands_bytes q A front bytes text s)) (stands_append q front bytes h.inside (bytes_in q plain text) s h.stands);
  single = h.single;
}
tells_more q A front bytes text (bad n) s h = record {
  own = front ++ h.own;
  bytes = bytes ++ h.bytes;
  rest = h.rest;
  parts = ap (λ t. front ++ t) h.parts ∙ sym (append_assoc front h.own (92 ∷ 120 ∷ h.rest));
  stands = stands_append q front bytes h.own h.bytes s h.stands;
  lacks = h.lacks;
  left = h.left;
  closing = stands_closes q A front bytes text s ∙ h.closing;
}
tells_more q A front bytes text open_ended s h = stands_closes q A front bytes text s ∙ h

tells_nothing : (q : ℕ) → Tells q [] (ending q plain [])
unfolding ending closes
tells_nothing q = refl

tells_last_slash : (q : ℕ) → Apart q → Tells q (92 ∷ []) (ending q plain (92 ∷ []))
unfolding ending
tells_last_slash q A = subst (λ e. Tells q (92 ∷ []) e) (sym (cond-false (92 == q) (ending q ended []) open_ended A.slash)) (last_slash_closes q A)

tells_bad : (q : ℕ) → Apart q → (rest : List ℕ) → begins_with_digits rest ≡ false → Tells q (92 ∷ 120 ∷ rest) (ending q plain (92 ∷ 120 ∷ rest))
unfolding ending
tells_bad q A rest e = subst (λ x. Tells q (92 ∷ 120 ∷ rest) x) (sym (cond-false (92 == q) (ending q ended (120 ∷ rest)) (ending q escaped (120 ∷ rest)) A.slash ∙ cond-true (not (begins_with_digits rest)) _ _ (ap not e))) (by_closing (closes q plain rest) refl) where
  by_closing : (b : Bool) → closes q plain rest ≡ b → Tells q (92 ∷ 120 ∷ rest) (spoiled (length (92 ∷ 120 ∷ rest)) b)
  by_closing true f = record { own = []; bytes = []; rest = rest; parts = refl; stands = nothing; lacks = e; left = refl; closing = slash_closes q 120 rest A ∙ f }
  by_closing false f = slash_closes q 120 rest A ∙ f

tells_at : (q : ℕ) → Apart q → (n : ℕ) (text : List ℕ) → length text < n → Tells q text (ending q plain text)
tells_at q A zero text lt = absurd (omega arith)
tells_at q A (suc n) text lt = at text (front_of q text) lt (λ t l. tells_at q A n t l) where
  more : (front bytes rest : List ℕ) → StandsFor q front bytes → length rest < n → ((t : List ℕ) → length t < n → Tells q t (ending q plain t)) → Tells q (front ++ rest) (ending q plain (front ++ rest))
  more front bytes rest s l ih = subst (λ e. Tells q (front ++ rest) e) (sym (stands_ending q A front bytes rest s)) (tells_more q A front bytes rest (ending q plain rest) s (ih rest l))

  at : (t : List ℕ) → Front q t → length t < suc n → ((t : List ℕ) → length t < n → Tells q t (ending q plain t)) → Tells q t (ending q plain t)
  at t nothing_left l ih = tells_nothing q
  at t slash_last l ih = tells_last_slash q A
  at t (at_end {rest = rest} g) l ih =
      subst (λ e. Tells q (q ∷ rest) e) (sym (closing_ending q rest g))
      (record { inside = []; parts = refl; stands = subst (λ s. StandsFor q [] s) (sym (closing_bytes q rest g)) nothing; single = g })
  at t (a_byte {b = b} {rest = rest} x y) l ih = more (b ∷ []) (b ∷ []) rest (itself x y nothing) (omega arith) ih
  at t (a_pair {rest = rest}) l ih = more (q ∷ q ∷ []) (q ∷ []) rest (doubled nothing) (omega arith) ih
  at t (an_escape {c = c} {rest = rest} x) l ih = more (92 ∷ c ∷ []) (unescaped c ∷ []) rest (by_slash x nothing) (omega arith) ih
  at t (a_number {hi = hi} {lo = lo} {a = a} {b = b} {rest = rest} x y) l ih = more (92 ∷ 120 ∷ hi ∷ lo ∷ []) ((16 * a + b) ∷ []) rest (hexadecimal x y nothing) (omega arith) ih
  at t (a_bad_one {rest = rest} x) l ih = tells_bad q A rest x

pub tells : (q : ℕ) (text : List ℕ) → Apart q → Tells q text (ending q plain text)
tells q text A = tells_at q A (suc (length text)) text (omega arith)

-- ---- the other way

pub open_from_none : (q : ℕ) (text : List ℕ) → Apart q → (HasEnd q text → ⊥) → ending q plain text ≡ open_ended
open_from_none q text A h = at (ending q plain text) (tells q text A) where
  at : (e : Ending) → Tells q text e → e ≡ open_ended
  at (closed rest) t = absurd (h (end_from_closes q text A (ap (closes q plain) t.parts ∙ stands_closes q A t.inside (bytes_in q plain text) (q ∷ rest) t.stands ∙ closing_closes q rest t.single)))
  at (bad n) t = absurd (h (end_from_closes q text A t.closing))
  at open_ended t = refl

pub bad_from_escape : (q before : ℕ) (text : List ℕ) → Apart q → HasEnd q text → LacksDigits q text before → (n : ℕ) × (ending q plain text ≡ bad n) × (n + before ≡ length text)
unfolding ending
bad_from_escape q before text A h l =
    let rest = l.2 in
    let e : ending q plain text ≡ spoiled (length (92 ∷ 120 ∷ rest)) (closes q plain rest) =
    ap (ending q plain) l.3 ∙ stands_ending q A l.0 l.1 (92 ∷ 120 ∷ rest) l.4
    ∙ cond-false (92 == q) (ending q ended (120 ∷ rest)) (ending q escaped (120 ∷ rest)) A.slash ∙ cond-true (not (begins_with_digits rest)) _ _ (ap not l.5) in
    let c : closes q plain rest ≡ true = sym (ap (closes q plain) l.3 ∙ stands_closes q A l.0 l.1 (92 ∷ 120 ∷ rest) l.4 ∙ slash_closes q 120 rest A) ∙ closes_from_end q text A h in
    (length (92 ∷ 120 ∷ rest), e ∙ ap (spoiled (length (92 ∷ 120 ∷ rest))) c, omega (arith, l.6, ap length l.3, length-append l.0 (92 ∷ 120 ∷ rest)))

pub closed_from_stands : (q : ℕ) (inside bytes rest : List ℕ) → Apart q → StandsFor q inside bytes → begins_with (is_sign_of q) rest ≡ false → ending q plain (inside ++ q ∷ rest) ≡ closed rest
closed_from_stands q inside bytes rest A s e = stands_ending q A inside bytes (q ∷ rest) s ∙ closing_ending q rest e

pub bytes_from_stands : (q : ℕ) (inside bytes rest : List ℕ) → Apart q → StandsFor q inside bytes → begins_with (is_sign_of q) rest ≡ false → bytes_in q plain (inside ++ q ∷ rest) ≡ bytes
bytes_from_stands q inside bytes rest A s e = stands_bytes q A inside bytes (q ∷ rest) s ∙ ap (λ t. bytes ++ t) (closing_bytes q rest e) ∙ append-nil bytes
