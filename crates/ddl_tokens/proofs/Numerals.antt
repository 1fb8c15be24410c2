-- Runs of bytes, and the numbers that digits, a sign and a point write.
use Rattle.std.proofs.Common.{◌≡◌, ◌≢◌, ℕ, suc, ◌+◌, Bool, true, false, List, [], ◌∷◌, ◌++◌, length, drop, refl, sym, ap, ◌∙◌, append_assoc, arith, ◌⊎◌, inl, inr, length-append}
use Rattle.std.specs.Prelude.{◌==◌, ◌&&◌, nat_le}
use Rattle.std.specs.List.{prefix_len, AllByRecursion}
use Rattle.std.proofs.lemmas.Bool.{eqb-true, ne_eqb, cond-true, cond-false, cases_Bool, and_parts, and_left, or_cases, or_from, leb-true}
use Rattle.std.proofs.lemmas.List.{drop_at}
use Rattle.ddl_tokens.specs.declared.token.TokenKind.TheVariants.{Number}
use Rattle.ddl_tokens.specs.Letters.{is_digit, is_number_sign, begins_with}
use Rattle.ddl_tokens.specs.Tokens.{AreDigits, IsNumberSign, begins_with_fraction, IsToken, whole, fraction}
use Rattle.ddl_tokens.specs.steps.Lexer.{fraction_len, digits_len, number_len}

-- ---- runs

abbrev pub AllPass : (ℕ → Bool) → List ℕ → Type 0
AllPass p text = AllByRecursion (λ b. p b ≡ true) text

-- the longest front of the text whose bytes all pass
pub record Run (p : ℕ → Bool) (text : List ℕ) : Type 0 where
  pub own : List ℕ
  pub rest : List ℕ
  pub parts : text ≡ own ++ rest
  pub passes : AllPass p own
  pub stops : begins_with p rest ≡ false
  pub count : prefix_len p text ≡ length own

pub run_is : (p : ℕ → Bool) (own rest : List ℕ) → AllPass p own → begins_with p rest ≡ false → prefix_len p (own ++ rest) ≡ length own
run_is p [] [] a e = refl
run_is p [] (b ∷ rest) a e = cond-false (p b) _ _ e
run_is p (b ∷ own) rest a e = cond-true (p b) _ _ a.0 ∙ (let k = run_is p own rest a.1 e in omega (arith, k))

pub run : (p : ℕ → Bool) (text : List ℕ) → Run p text
run p [] = record { own = []; rest = []; parts = refl; passes = tt; stops = refl; count = refl }
run p (b ∷ text) = elim (cases_Bool (p b)) [
  | inl e ↦
      let r = run p text in
      record { own = b ∷ r.own; rest = r.rest; parts = ap (λ t. b ∷ t) r.parts; passes = (e, r.passes); stops = r.stops; count = cond-true (p b) _ _ e ∙ (let k = r.count in omega (arith, k)) }
  | inr e ↦ record { own = []; rest = b ∷ text; parts = refl; passes = tt; stops = e; count = cond-false (p b) _ _ e }
]

not_empty : (text : List ℕ) → text ≢ [] → (length text == 0) ≡ false
not_empty [] h = absurd (h refl)
not_empty (b ∷ text) h = ne_eqb (length (b ∷ text)) 0 (λ e. absurd (omega (arith, e)))

empty_from_zero : (text : List ℕ) → (length text == 0) ≡ true → text ≡ []
empty_from_zero [] e = refl
empty_from_zero (b ∷ text) e = absurd (let k = eqb-true (length (b ∷ text)) 0 e in omega (arith, k))

empty_or_not : (text : List ℕ) → (text ≡ []) ⊎ (text ≢ [])
empty_or_not [] = inl refl
empty_or_not (b ∷ text) = inr (λ e. cc)

-- ---- a point and digits

pub fraction_is : (places rest : List ℕ) → AreDigits places → begins_with is_digit rest ≡ false → fraction_len (46 ∷ (places ++ rest)) ≡ suc (length places)
fraction_is places rest d e =
    let k = run_is is_digit places rest d.1 e in
    cond-false (prefix_len is_digit (places ++ rest) == 0) _ _ (ap (λ (n : ℕ). n == 0) k ∙ not_empty places d.0) ∙ ap suc k

pub fraction_none : (text : List ℕ) → begins_with_fraction text ≡ false → fraction_len text ≡ 0
fraction_none [] e = refl
fraction_none (b ∷ text) e = elim (cases_Bool (b == 46)) [
  | inl f ↦
      let g : begins_with is_digit text ≡ false = sym (ap (λ x. x && begins_with is_digit text) f) ∙ e in
      cond-true (b == 46) _ _ f ∙ cond-true (prefix_len is_digit text == 0) _ _ (ap (λ (n : ℕ). n == 0) (run_is is_digit [] text tt g))
  | inr f ↦ cond-false (b == 46) _ _ f
]

pub record Fraction (text : List ℕ) : Type 0 where
  pub places : List ℕ
  pub rest : List ℕ
  pub parts : text ≡ 46 ∷ (places ++ rest)
  pub digits : AreDigits places
  pub stops : begins_with is_digit rest ≡ false

fraction_cases : (text : List ℕ) → Fraction text ⊎ (begins_with_fraction text ≡ false)
fraction_cases [] = inr refl
fraction_cases (b ∷ text) = elim (cases_Bool (b == 46)) [
  | inr f ↦ inr (and_left (b == 46) (begins_with is_digit text) f)
  | inl f ↦
      let r = run is_digit text in
      elim (empty_or_not r.own) [
        | inl e ↦ inr (ap (λ x. x && begins_with is_digit text) f ∙ ap (begins_with is_digit) (r.parts ∙ ap (λ t. t ++ r.rest) e) ∙ r.stops)
        | inr e ↦ inl (record { places = r.own; rest = r.rest; parts = ap (λ (x : ℕ). x ∷ text) (eqb-true b 46 f) ∙ ap (λ t. 46 ∷ t) r.parts; digits = (e, r.passes); stops = r.stops })
      ]
]

-- digits, and what follows them
pub digits_are : (digits tail : List ℕ) → AllPass is_digit digits → begins_with is_digit tail ≡ false → digits_len (digits ++ tail) ≡ length digits + fraction_len tail
digits_are digits tail d e =
    let k = run_is is_digit digits tail d e in
    ap (λ (n : ℕ). n + fraction_len (drop n (digits ++ tail))) k ∙ ap (λ t. length digits + fraction_len t) (drop_at digits tail (length digits) refl)

-- ---- numbers

sign_cases : (b : ℕ) → is_number_sign b ≡ true → (b ≡ 43) ⊎ (b ≡ 45)
sign_cases b e = elim (or_cases (b == 43) (b == 45) e) [ inl x ↦ inl (eqb-true b 43 x) | inr x ↦ inr (eqb-true b 45 x) ]

digit_no_sign : (b : ℕ) → is_digit b ≡ true → is_number_sign b ≡ false
digit_no_sign b e =
    let p = and_parts (nat_le 48 b) (nat_le b 57) e in
    let l = leb-true 48 b p.0 in
    or_from (b == 43) (b == 45) (ne_eqb b 43 (λ x. absurd (omega (arith, l, x)))) (ne_eqb b 45 (λ x. absurd (omega (arith, l, x))))

-- a number of a sign, digits, and a tail that begins with no digit
signed_len : (sign digits tail : List ℕ) → IsNumberSign sign → AreDigits digits → begins_with is_digit tail ≡ false → number_len (sign ++ (digits ++ tail)) ≡ length sign + (length digits + fraction_len tail)
signed_len sign [] tail s d e = absurd (d.0 refl)
signed_len sign (x ∷ digits) tail (inl s) d e =
    ap (λ t. number_len (t ++ ((x ∷ digits) ++ tail))) s ∙ cond-false (is_number_sign x) _ _ (digit_no_sign x d.1.0) ∙ cond-true (is_digit x) _ _ d.1.0 ∙ digits_are (x ∷ digits) tail d.1 e
    ∙ (let k = ap length s in omega (arith, k))
signed_len sign (x ∷ digits) tail (inr s) d e =
    let k = run_is is_digit (x ∷ digits) tail d.1 e in
    ap (λ t. number_len (t ++ ((x ∷ digits) ++ tail))) s.1 ∙ cond-true (is_number_sign s.0) _ _ s.2
    ∙ cond-false (prefix_len is_digit ((x ∷ digits) ++ tail) == 0) _ _ (ap (λ (n : ℕ). n == 0) k ∙ not_empty (x ∷ digits) d.0)
    ∙ ap suc (digits_are (x ∷ digits) tail d.1 e)
    ∙ (let l = ap length s.1 in omega (arith, l))

pub whole_len : (sign digits own rest : List ℕ) → own ≡ sign ++ digits → IsNumberSign sign → AreDigits digits → begins_with is_digit rest ≡ false → begins_with_fraction rest ≡ false → number_len (own ++ rest) ≡ length own
whole_len sign digits own rest p s d e f =
    ap (λ t. number_len (t ++ rest)) p ∙ ap number_len (append_assoc sign digits rest) ∙ signed_len sign digits rest s d e
    ∙ (let k = fraction_none rest f in let l = ap length p in let m = length-append sign digits in omega (arith, k, l, m))

pub fraction_number_len : (sign digits places own rest : List ℕ) → own ≡ sign ++ (digits ++ 46 ∷ places) → IsNumberSign sign → AreDigits digits → AreDigits places → begins_with is_digit rest ≡ false → number_len (own ++ rest) ≡ length own
fraction_number_len sign digits places own rest p s d q e =
    ap (λ t. number_len (t ++ rest)) p ∙ ap number_len (append_assoc sign (digits ++ 46 ∷ places) rest ∙ ap (λ t. sign ++ t) (append_assoc digits (46 ∷ places) rest))
    ∙ signed_len sign digits (46 ∷ (places ++ rest)) s d refl
    ∙ (let k = fraction_is places rest q e in let l = ap length p in let m = length-append sign (digits ++ 46 ∷ places) in let n = length-append digits (46 ∷ places) in omega (arith, k, l, m, n))

-- a number that the text begins with
pub record NumberAt (text : List ℕ) : Type 0 where
  pub own : List ℕ
  pub rest : List ℕ
  pub parts : text ≡ own ++ rest
  pub is_number : IsToken Number own own rest
  pub count : number_len text ≡ length own

number_from : (sign digits tail text : List ℕ) → text ≡ sign ++ (digits ++ tail) → IsNumberSign sign → AreDigits digits → begins_with is_digit tail ≡ false → NumberAt text
number_from sign digits tail text p s d e = elim (fraction_cases tail) [
  | inl f ↦
      let own : List ℕ = sign ++ (digits ++ 46 ∷ f.places) in
      let parts : text ≡ own ++ f.rest = p ∙ ap (λ t. sign ++ (digits ++ t)) f.parts ∙ sym (append_assoc sign (digits ++ 46 ∷ f.places) f.rest ∙ ap (λ t. sign ++ t) (append_assoc digits (46 ∷ f.places) f.rest)) in
      record { own = own; rest = f.rest; parts = parts; is_number = fraction sign digits f.places refl s d f.digits f.stops; count = ap number_len parts ∙ fraction_number_len sign digits f.places own f.rest refl s d f.digits f.stops }
  | inr f ↦
      let own : List ℕ = sign ++ digits in
      let parts : text ≡ own ++ tail = p ∙ sym (append_assoc sign digits tail) in
      record { own = own; rest = tail; parts = parts; is_number = whole sign digits refl s d e f; count = ap number_len parts ∙ whole_len sign digits own tail refl s d e f }
]

-- no number begins with this byte
abbrev pub BeginsNone : ℕ → List ℕ → Type 0
BeginsNone b bs = (is_digit b ≡ false) × ((is_number_sign b && begins_with is_digit bs) ≡ false)

pub none_len : (b : ℕ) (bs : List ℕ) → BeginsNone b bs → number_len (b ∷ bs) ≡ 0
none_len b bs h = elim (cases_Bool (is_number_sign b)) [
  | inl e ↦
      let f : begins_with is_digit bs ≡ false = sym (ap (λ x. x && begins_with is_digit bs) e) ∙ h.1 in
      cond-true (is_number_sign b) _ _ e ∙ cond-true (prefix_len is_digit bs == 0) _ _ (ap (λ (n : ℕ). n == 0) (run_is is_digit [] bs tt f))
  | inr e ↦ cond-false (is_number_sign b) _ _ e ∙ cond-false (is_digit b) _ _ h.0
]

pub number_cases : (b : ℕ) (bs : List ℕ) → NumberAt (b ∷ bs) ⊎ BeginsNone b bs
number_cases b bs = elim (cases_Bool (is_digit b)) [
  | inl e ↦
      let r = run is_digit bs in
      inl (number_from [] (b ∷ r.own) r.rest (b ∷ bs) (ap (λ t. b ∷ t) r.parts) (inl refl) ((λ x. cc), (e, r.passes)) r.stops)
  | inr e ↦ elim (cases_Bool (is_number_sign b && begins_with is_digit bs)) [
    | inr f ↦ inr (e, f)
    | inl f ↦ inl (let r = run is_digit bs in signed r.own r.rest r.parts r.passes r.stops (and_parts (is_number_sign b) (begins_with is_digit bs) f))
  ]
] where
  signed : (own rest : List ℕ) → bs ≡ own ++ rest → AllPass is_digit own → begins_with is_digit rest ≡ false → (is_number_sign b ≡ true) × (begins_with is_digit bs ≡ true) → NumberAt (b ∷ bs)
  signed [] rest p a s f = absurd (let k = sym (ap (begins_with is_digit) p ∙ s) ∙ f.1 in cc)
  signed (x ∷ own) rest p a s f = number_from (b ∷ []) (x ∷ own) rest (b ∷ bs) (ap (λ t. b ∷ t) p) (inr (b, refl, f.0)) ((λ y. cc), a) s
