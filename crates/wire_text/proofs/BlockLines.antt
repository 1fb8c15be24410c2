-- A line is the first line of at most one block.
use Rattle.std.proofs.Common.{◌≡◌, ◌⊎◌, ◌<◌, ◌^◌, ◌++◌, ◌∙◌, ℕ, List, [], ◌∷◌, Option, Some, None, MatchOption, codes, sym, ap, inl, inr, refl, subst, arith, append-nil}
use Rattle.dict_value.proofs.Cuts.{cut-once, digits-lack, lacks-not}
use Rattle.dict_value.specs.Split.{Lacks}
use Rattle.dict_value.specs.declared.letters.TheConstants.{TAB}
use Rattle.wire_text.specs.Numbers.{IsDecimalText}
use Rattle.wire_text.specs.Requests.{IsBlockLine}

-- a text ends behind a part, or a tab stands there
abbrev pub EndsAtTab : List ℕ → List ℕ → Type 0
EndsAtTab text part = (text ≡ part) ⊎ ((more : List ℕ) × (text ≡ part ++ TAB ∷ more))

-- the part before the first tab is one
pub one_part : (text a b : List ℕ) → Lacks TAB a → Lacks TAB b → EndsAtTab text a → EndsAtTab text b → a ≡ b
one_part text a b p q x y = elim x [
  | inl e ↦ elim y [
    | inl f ↦ sym e ∙ f
    | inr f ↦ absurd (lacks-not TAB b f.0 (subst (λ (t : List ℕ). Lacks TAB t) (sym e ∙ f.1) p))
  ]
  | inr e ↦ elim y [
    | inl f ↦ absurd (lacks-not TAB a e.0 (subst (λ (t : List ℕ). Lacks TAB t) (sym f ∙ e.1) q))
    | inr f ↦ (cut-once TAB a e.0 b f.0 p q (sym e.1 ∙ f.1)).0
  ]
]

-- `many` and its tab are cut off in one way
rest_same : (a b : List ℕ) → codes "many" ++ TAB ∷ a ≡ codes "many" ++ TAB ∷ b → a ≡ b
rest_same a b e = cc

-- the number of a block's first line stands before the next tab
digits_are : (line rest part : List ℕ) (n : ℕ) → line ≡ codes "many" ++ TAB ∷ rest → Lacks TAB part → EndsAtTab rest part
    → IsBlockLine line n → IsDecimalText part n × (n < 2 ^ 32)
digits_are line rest part n e lacks ends b =
    let same : rest ≡ b.digits ++ b.rest = rest_same rest (b.digits ++ b.rest) (sym e ∙ b.spelled) in
    let clear : Lacks TAB b.digits = digits-lack TAB b.digits (omega arith) b.number.digits.each in
    let stops : EndsAtTab rest b.digits = elim b.ends [
      | inl f ↦ inl (same ∙ ap (λ (t : List ℕ). b.digits ++ t) f ∙ append-nil b.digits)
      | inr f ↦ inr (f.0, same ∙ ap (λ (t : List ℕ). b.digits ++ t) f.1)
    ] in
    let one : b.digits ≡ part = one_part rest b.digits part clear lacks stops ends in
    (subst (λ (t : List ℕ). IsDecimalText t n) one b.number, b.small)

-- what stands behind the part
behind : (text part : List ℕ) → EndsAtTab text part
    → (rest : List ℕ) × (text ≡ part ++ rest) × ((rest ≡ []) ⊎ ((more : List ℕ) × (rest ≡ TAB ∷ more)))
behind text part (inl e) = ([], e ∙ sym (append-nil part), inl refl)
behind text part (inr e) = (TAB ∷ e.0, e.1, inr (e.0, refl))

-- a block's first line tells one number
pub block_size_is : (line rest part : List ℕ) → line ≡ codes "many" ++ TAB ∷ rest → Lacks TAB part → EndsAtTab rest part
    → (r : Option ℕ) → MatchOption r ((n : ℕ) → IsDecimalText part n → ¬ (n < 2 ^ 32)) (λ n. IsDecimalText part n × (n < 2 ^ 32))
    → MatchOption r ((n : ℕ) → ¬ IsBlockLine line n) (λ n. IsBlockLine line n × ((m : ℕ) → IsBlockLine line m → m ≡ n))
block_size_is line rest part e lacks ends None none = λ n b.
    let d = digits_are line rest part n e lacks ends b in none n d.0 d.1
block_size_is line rest part e lacks ends (Some n) some =
    let stands = behind rest part ends in
    let spelled : line ≡ codes "many" ++ TAB ∷ (part ++ stands.0) = e ∙ ap (λ (t : List ℕ). codes "many" ++ TAB ∷ t) stands.1 in
    let here : IsBlockLine line n = record {
      digits = part;
      rest = stands.0;
      spelled = spelled;
      number = some.0;
      small = some.1;
      ends = stands.2;
    } in
    (here, (λ m b. let d = digits_are line rest part m e lacks ends b in d.0.value ∙ sym some.0.value))

-- and has one number
pub block_once : (line : List ℕ) (n m : ℕ) → IsBlockLine line n → IsBlockLine line m → n ≡ m
block_once line n m a b =
    let clear : Lacks TAB a.digits = digits-lack TAB a.digits (omega arith) a.number.digits.each in
    let stops : EndsAtTab (a.digits ++ a.rest) a.digits = elim a.ends [
      | inl f ↦ inl (ap (λ (t : List ℕ). a.digits ++ t) f ∙ append-nil a.digits)
      | inr f ↦ inr (f.0, ap (λ (t : List ℕ). a.digits ++ t) f.1)
    ] in
    let other = digits_are line (a.digits ++ a.rest) a.digits m a.spelled clear stops b in
    a.number.value ∙ sym other.0.value
