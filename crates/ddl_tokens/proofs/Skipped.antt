-- Blanks and comments are what is left behind before a token.
use Rattle.std.proofs.Common.{◌≡◌, ℕ, zero, suc, ◌<◌, Bool, true, false, List, [], ◌∷◌, ◌++◌, length, Result, Ok, Err, refl, sym, ap, subst, ◌∙◌, append_assoc, arith, ◌⊎◌, inl, inr, length-append}
use Rattle.std.specs.Prelude.{◌==◌, ◌&&◌, ◌||◌, codes}
use Rattle.std.proofs.lemmas.Bool.{eqb-true, ne_eqb, cond-true, cond-false, eqb-false, cases_Bool, and_parts, and_from, or_parts, eq-eqb}
use Rattle.std.proofs.lemmas.List.{append-nil as nil_right}
use Rattle.dict_value.specs.Split.{Lacks}
use Rattle.ddl_tokens.specs.Letters.{is_space, begins_with}
use Rattle.ddl_tokens.specs.Tokens.{Has, IsComment, line as line_comment, block as block_comment, IsGap, empty, blank, comment, IsLastGap}
use Rattle.ddl_tokens.specs.steps.Lexer.{after_gap, between, line, block}

-- ---- what is a gap is left behind

-- a text that has the part at its head or in its tail
has_cases : (b : ℕ) (bs : List ℕ) → Has (codes "*/") (b ∷ bs) → (((b == 42) && begins_with (λ c. c == 47) bs) ≡ true) ⊎ Has (codes "*/") bs
has_cases b bs ([], after, e) = inl (let p : b ≡ 42 = cc in let q : bs ≡ 47 ∷ after = cc in and_from (b == 42) (begins_with (λ c. c == 47) bs) (eq-eqb b 42 p) (ap (begins_with (λ c. c == 47)) q))
has_cases b bs (c ∷ before, after, e) = inr (before, after, let p : bs ≡ before ++ (codes "*/" ++ after) = cc in p)

has_later : (b : ℕ) (bs : List ℕ) → Has (codes "*/") bs → Has (codes "*/") (b ∷ bs)
has_later b bs h = (b ∷ h.0, h.1, ap (λ t. b ∷ t) h.2)

begins_slash : (b : ℕ) (bs : List ℕ) → ((b == 42) && begins_with (λ c. c == 47) bs) ≡ true → (rest : List ℕ) × (b ∷ bs ≡ codes "*/" ++ rest)
begins_slash b [] e = absurd (let p = (and_parts (b == 42) false e).1 in cc)
begins_slash b (c ∷ cs) e =
    let p = and_parts (b == 42) (c == 47) e in
    let x = eqb-true b 42 p.0 in
    let y = eqb-true c 47 p.1 in
    (cs, cc)

pub line_again : (text more : List ℕ) → Lacks 10 text → after_gap line 0 (text ++ 10 ∷ more) ≡ after_gap between 0 more
unfolding after_gap
line_again [] more l = refl
line_again (b ∷ text) more l = cond-false (b == 10) _ _ (ne_eqb b 10 l.0) ∙ line_again text more l.1

pub line_ends : (text : List ℕ) → Lacks 10 text → after_gap line 0 text ≡ Ok []
unfolding after_gap
line_ends [] l = refl
line_ends (b ∷ text) l = cond-false (b == 10) _ _ (ne_eqb b 10 l.0) ∙ line_ends text l.1

-- a star that no slash follows goes on
starless : (b : ℕ) (text more : List ℕ) → (Has (codes "*/") ((b ∷ text) ++ codes "*") → ⊥) → ((b == 42) && begins_with (λ c. c == 47) (text ++ (codes "*/" ++ more))) ≡ false
starless b [] more h = elim (cases_Bool (b == 42)) [ inl e ↦ rw e refl | inr e ↦ rw e refl ]
starless b (c ∷ text) more h = elim (cases_Bool ((b == 42) && (c == 47))) [
  | inl e ↦ absurd (let p = begins_slash b (c ∷ (text ++ codes "*")) e in h ([], p.0, p.1))
  | inr e ↦ e
]

pub block_again : (n : ℕ) (text more : List ℕ) → (Has (codes "*/") (text ++ codes "*") → ⊥) → after_gap block n (text ++ (codes "*/" ++ more)) ≡ after_gap between 0 more
unfolding after_gap
block_again n [] more h = refl
block_again n (b ∷ text) more h =
    cond-false ((b == 42) && begins_with (λ c. c == 47) (text ++ (codes "*/" ++ more))) _ _ (starless b text more h)
    ∙ block_again n text more (λ x. h (has_later b (text ++ codes "*") x))

pub block_open : (n : ℕ) (text : List ℕ) → (Has (codes "*/") text → ⊥) → after_gap block n text ≡ Err n
unfolding after_gap
block_open n [] h = refl
block_open n (b ∷ text) h =
    cond-false ((b == 42) && begins_with (λ c. c == 47) text) _ _
    (elim (cases_Bool ((b == 42) && begins_with (λ c. c == 47) text)) [ inl e ↦ absurd (let p = begins_slash b text e in h ([], p.0, p.1)) | inr e ↦ e ])
    ∙ block_open n text (λ x. h (has_later b text x))

comment_again : (own more : List ℕ) → IsComment own → after_gap between 0 (own ++ more) ≡ after_gap between 0 more
unfolding after_gap
comment_again own more (line_comment text e l) = ap (λ t. after_gap between 0 (t ++ more)) e ∙ ap (after_gap line 0) (append_assoc text (10 ∷ []) more) ∙ line_again text more l
comment_again own more (block_comment text e h) = ap (λ t. after_gap between 0 (t ++ more)) e ∙ ap (after_gap block (length (codes "/*" ++ ((text ++ codes "*/") ++ more)))) (append_assoc text (codes "*/") more) ∙ block_again (length (codes "/*" ++ ((text ++ codes "*/") ++ more))) text more h

pub gap_again : (gap more : List ℕ) → IsGap gap → after_gap between 0 (gap ++ more) ≡ after_gap between 0 more
unfolding after_gap
gap_again gap more empty = refl
gap_again gap more (blank {b = b} {rest = rest} e g) = cond-true (is_space b) _ _ e ∙ gap_again rest more g
gap_again gap more (comment {own = own} {rest = rest} parts c g) =
    ap (λ t. after_gap between 0 (t ++ more)) parts ∙ ap (after_gap between 0) (append_assoc own rest more) ∙ comment_again own (rest ++ more) c ∙ gap_again rest more g

-- ---- what is left behind is a gap

abbrev pub begins_gap : List ℕ → Bool
begins_gap [] = false
begins_gap (b ∷ bs) = is_space b || ((b == 45) && begins_with (λ c. c == 45) bs) || ((b == 47) && begins_with (λ c. c == 42) bs)

-- a comment from here on has no end
pub record Unended (text : List ℕ) (n : ℕ) : Type 0 where
  pub gap : List ℕ
  pub rest : List ℕ
  pub parts : text ≡ gap ++ (codes "/*" ++ rest)
  pub is_gap : IsGap gap
  pub unended : Has (codes "*/") rest → ⊥
  pub left : n ≡ length (codes "/*" ++ rest)

pub record Behind (text rest : List ℕ) : Type 0 where
  pub gap : List ℕ
  pub parts : text ≡ gap ++ rest
  pub is_gap : IsGap gap
  pub stops : begins_gap rest ≡ false

-- what leaving blanks and comments behind gives
abbrev pub Leaves : List ℕ → Result (List ℕ) ℕ → Type 0
Leaves text (Ok []) = IsLastGap text
Leaves text (Ok (b ∷ bs)) = Behind text (b ∷ bs)
Leaves text (Err n) = Unended text n

gap_append : (a b : List ℕ) → IsGap a → IsGap b → IsGap (a ++ b)
gap_append a b empty h = h
gap_append a b (blank {rest = rest} e g) h = blank e (gap_append rest b g h)
gap_append a b (comment {own = own} {rest = rest} parts c g) h = comment (ap (λ t. t ++ b) parts ∙ append_assoc own rest b) c (gap_append rest b g h)

leaves_more : (front text : List ℕ) (r : Result (List ℕ) ℕ) → IsGap front → Leaves text r → Leaves (front ++ text) r
leaves_more front text (Ok []) g (inl h) = inl (gap_append front text g h)
leaves_more front text (Ok []) g (inr h) =
    inr (front ++ h.0, h.1, ap (λ t. front ++ t) h.2 ∙ sym (append_assoc front h.0 (codes "--" ++ h.1)), gap_append front h.0 g h.3, h.4)
leaves_more front text (Ok (b ∷ bs)) g h =
    record { gap = front ++ h.gap; parts = ap (λ t. front ++ t) h.parts ∙ sym (append_assoc front h.gap (b ∷ bs)); is_gap = gap_append front h.gap g h.is_gap; stops = h.stops }
leaves_more front text (Err n) g h =
    record { gap = front ++ h.gap; rest = h.rest; parts = ap (λ t. front ++ t) h.parts ∙ sym (append_assoc front h.gap (codes "/*" ++ h.rest)); is_gap = gap_append front h.gap g h.is_gap; unended = h.unended; left = h.left }

-- where a line ends
record Line (text : List ℕ) : Type 0 where
  own : List ℕ
  rest : List ℕ
  parts : text ≡ own ++ 10 ∷ rest
  lacks : Lacks 10 own

line_cases : (text : List ℕ) → Line text ⊎ Lacks 10 text
line_cases [] = inr tt
line_cases (b ∷ text) = elim (cases_Bool (b == 10)) [
  | inl e ↦ inl (record { own = []; rest = text; parts = ap (λ c. c ∷ text) (eqb-true b 10 e); lacks = tt })
  | inr e ↦ elim (line_cases text) [
    | inl l ↦ inl (record { own = b ∷ l.own; rest = l.rest; parts = ap (λ t. b ∷ t) l.parts; lacks = (eqb-false b 10 e, l.lacks) })
    | inr l ↦ inr (eqb-false b 10 e, l)
  ]
]

-- where a comment in signs ends
record Block (text : List ℕ) : Type 0 where
  own : List ℕ
  rest : List ℕ
  parts : text ≡ own ++ (codes "*/" ++ rest)
  first : Has (codes "*/") (own ++ codes "*") → ⊥

no_star_slash : (b : ℕ) → Has (codes "*/") (b ∷ []) → ⊥
no_star_slash b ([], after, e) = absurd cc
no_star_slash b (c ∷ [], after, e) = absurd cc
no_star_slash b (c ∷ (d ∷ before), after, e) = absurd cc

nothing_has : Has (codes "*/") [] → ⊥
nothing_has ([], after, e) = absurd cc
nothing_has (c ∷ before, after, e) = absurd cc

-- the head of a text's part before its first `*/`
head_goes : (b : ℕ) (text own rest : List ℕ) → text ≡ own ++ (codes "*/" ++ rest) → ((b == 42) && begins_with (λ c. c == 47) text) ≡ false → ((b == 42) && begins_with (λ c. c == 47) (own ++ codes "*")) ≡ false
head_goes b text [] rest e f = elim (cases_Bool (b == 42)) [ inl x ↦ rw x refl | inr x ↦ rw x refl ]
head_goes b text (c ∷ own) rest e f = sym (ap (λ t. (b == 42) && begins_with (λ d. d == 47) t) e) ∙ f

block_cases : (text : List ℕ) → Block text ⊎ (Has (codes "*/") text → ⊥)
block_cases [] = inr nothing_has
block_cases (b ∷ text) = elim (cases_Bool ((b == 42) && begins_with (λ c. c == 47) text)) [
  | inl e ↦ let p = begins_slash b text e in inl (record { own = []; rest = p.0; parts = p.1; first = no_star_slash 42 })
  | inr e ↦ elim (block_cases text) [
    | inl l ↦ inl (record {
      own = b ∷ l.own;
      rest = l.rest;
      parts = ap (λ t. b ∷ t) l.parts;
      first = λ h. elim (has_cases b (l.own ++ codes "*") h) [
        | inl x ↦ absurd (let y = sym x ∙ head_goes b text l.own l.rest l.parts e in cc)
        | inr x ↦ l.first x
      ];
    })
    | inr l ↦ inr (λ h. elim (has_cases b text h) [ inl x ↦ absurd (let y = sym x ∙ e in cc) | inr x ↦ l x ])
  ]
]

both : (b c : ℕ) (k m : ℕ) (cs : List ℕ) → b ≡ k → c ≡ m → b ∷ c ∷ cs ≡ k ∷ m ∷ cs
both b c k m cs e f = ap (λ x. x ∷ c ∷ cs) e ∙ ap (λ x. k ∷ x ∷ cs) f

or_parts3 : (x y z : Bool) → x ≡ false → y ≡ false → z ≡ false → (x || y || z) ≡ false
or_parts3 true y z e f g = absurd cc
or_parts3 false true z e f g = absurd cc
or_parts3 false false true e f g = absurd cc
or_parts3 false false false e f g = refl

leaves_nothing : Leaves [] (after_gap between 0 [])
unfolding after_gap
leaves_nothing = inl empty

stands : (b : ℕ) (bs : List ℕ) → is_space b ≡ false → ((b == 45) && begins_with (λ c. c == 45) bs) ≡ false → ((b == 47) && begins_with (λ c. c == 42) bs) ≡ false → Leaves (b ∷ bs) (after_gap between 0 (b ∷ bs))
unfolding after_gap
stands b bs e f g =
    subst (λ r. Leaves (b ∷ bs) r) (sym (cond-false (is_space b) _ _ e ∙ cond-false ((b == 45) && begins_with (λ c. c == 45) bs) _ _ f ∙ cond-false ((b == 47) && begins_with (λ c. c == 42) bs) _ _ g))
    (record { gap = []; parts = refl; is_gap = empty; stops = or_parts3 (is_space b) ((b == 45) && begins_with (λ c. c == 45) bs) ((b == 47) && begins_with (λ c. c == 42) bs) e f g })

dashes_end : (rest : List ℕ) → Lacks 10 rest → Leaves (codes "--" ++ rest) (after_gap between 0 (codes "--" ++ rest))
unfolding after_gap
dashes_end rest l = subst (λ r. Leaves (codes "--" ++ rest) r) (sym (line_ends rest l)) (inr ([], rest, refl, empty, l))

dashes : (b : ℕ) (bs : List ℕ) → ((b == 45) && begins_with (λ c. c == 45) bs) ≡ true → ((t : List ℕ) → length t < length (b ∷ bs) → Leaves t (after_gap between 0 t)) → Leaves (b ∷ bs) (after_gap between 0 (b ∷ bs))
dashes b [] f ih = absurd (let p = (and_parts (b == 45) false f).1 in cc)
dashes b (c ∷ cs) f ih =
    let p = and_parts (b == 45) (c == 45) f in
    let same : b ∷ c ∷ cs ≡ codes "--" ++ cs = both b c 45 45 cs (eqb-true b 45 p.0) (eqb-true c 45 p.1) in
    subst (λ t. Leaves t (after_gap between 0 t)) (sym same) (elim (line_cases cs) [
      | inl x ↦
          let own : IsComment (codes "--" ++ (x.own ++ 10 ∷ [])) = line_comment x.own refl x.lacks in
          let g : IsGap (codes "--" ++ (x.own ++ 10 ∷ [])) = comment (sym (nil_right (codes "--" ++ (x.own ++ 10 ∷ [])))) own empty in
          let split : codes "--" ++ cs ≡ (codes "--" ++ (x.own ++ 10 ∷ [])) ++ x.rest = ap (λ t. codes "--" ++ t) (x.parts ∙ sym (append_assoc x.own (10 ∷ []) x.rest)) in
          let r = ih x.rest (omega (arith, ap length x.parts, length-append x.own (10 ∷ x.rest))) in
          subst (λ t. Leaves t (after_gap between 0 t)) (sym split) (subst (λ q. Leaves ((codes "--" ++ (x.own ++ 10 ∷ [])) ++ x.rest) q) (sym (gap_again (codes "--" ++ (x.own ++ 10 ∷ [])) x.rest g)) (leaves_more (codes "--" ++ (x.own ++ 10 ∷ [])) x.rest (after_gap between 0 x.rest) g r))
      | inr x ↦ dashes_end cs x
    ])

stars_open : (rest : List ℕ) → (Has (codes "*/") rest → ⊥) → Leaves (codes "/*" ++ rest) (after_gap between 0 (codes "/*" ++ rest))
unfolding after_gap
stars_open rest l = subst (λ r. Leaves (codes "/*" ++ rest) r) (sym (block_open (length (codes "/*" ++ rest)) rest l)) (record { gap = []; rest = rest; parts = refl; is_gap = empty; unended = l; left = refl })

stars : (b : ℕ) (bs : List ℕ) → ((b == 47) && begins_with (λ c. c == 42) bs) ≡ true → ((t : List ℕ) → length t < length (b ∷ bs) → Leaves t (after_gap between 0 t)) → Leaves (b ∷ bs) (after_gap between 0 (b ∷ bs))
stars b [] f ih = absurd (let p = (and_parts (b == 47) false f).1 in cc)
stars b (c ∷ cs) f ih =
    let p = and_parts (b == 47) (c == 42) f in
    let same : b ∷ c ∷ cs ≡ codes "/*" ++ cs = both b c 47 42 cs (eqb-true b 47 p.0) (eqb-true c 42 p.1) in
    subst (λ t. Leaves t (after_gap between 0 t)) (sym same) (elim (block_cases cs) [
      | inl x ↦
          let own : IsComment (codes "/*" ++ (x.own ++ codes "*/")) = block_comment x.own refl x.first in
          let g : IsGap (codes "/*" ++ (x.own ++ codes "*/")) = comment (sym (nil_right (codes "/*" ++ (x.own ++ codes "*/")))) own empty in
          let split : codes "/*" ++ cs ≡ (codes "/*" ++ (x.own ++ codes "*/")) ++ x.rest = ap (λ t. codes "/*" ++ t) (x.parts ∙ sym (append_assoc x.own (codes "*/") x.rest)) in
          let r = ih x.rest (omega (arith, ap length x.parts, length-append x.own (codes "*/" ++ x.rest))) in
          subst (λ t. Leaves t (after_gap between 0 t)) (sym split) (subst (λ q. Leaves ((codes "/*" ++ (x.own ++ codes "*/")) ++ x.rest) q) (sym (gap_again (codes "/*" ++ (x.own ++ codes "*/")) x.rest g)) (leaves_more (codes "/*" ++ (x.own ++ codes "*/")) x.rest (after_gap between 0 x.rest) g r))
      | inr x ↦ stars_open cs x
    ])

leaves_at : (n : ℕ) (text : List ℕ) → length text < n → Leaves text (after_gap between 0 text)
leaves_at zero text lt = absurd (omega arith)
leaves_at (suc n) [] lt = leaves_nothing
leaves_at (suc n) (b ∷ bs) lt = elim (cases_Bool (is_space b)) [
  | inl e ↦ subst (λ r. Leaves (b ∷ bs) r) (sym (gap_again (b ∷ []) bs (blank e empty))) (leaves_more (b ∷ []) bs (after_gap between 0 bs) (blank e empty) (leaves_at n bs (omega arith)))
  | inr e ↦ elim (cases_Bool ((b == 45) && begins_with (λ c. c == 45) bs)) [
    | inl f ↦ dashes b bs f (λ t l. leaves_at n t (omega arith))
    | inr f ↦ elim (cases_Bool ((b == 47) && begins_with (λ c. c == 42) bs)) [
      | inl g ↦ stars b bs g (λ t l. leaves_at n t (omega arith))
      | inr g ↦ stands b bs e f g
    ]
  ]
]

pub leaves : (text : List ℕ) → Leaves text (after_gap between 0 text)
leaves text = leaves_at (suc (length text)) text (omega arith)

-- ---- what stands behind a gap stays

pub stays : (b : ℕ) (bs : List ℕ) → begins_gap (b ∷ bs) ≡ false → after_gap between 0 (b ∷ bs) ≡ Ok (b ∷ bs)
unfolding after_gap
stays b bs e =
    let p = or_parts (is_space b || ((b == 45) && begins_with (λ c. c == 45) bs)) ((b == 47) && begins_with (λ c. c == 42) bs) e in
    let q = or_parts (is_space b) ((b == 45) && begins_with (λ c. c == 45) bs) p.0 in
    cond-false (is_space b) _ _ q.0 ∙ cond-false ((b == 45) && begins_with (λ c. c == 45) bs) _ _ q.1 ∙ cond-false ((b == 47) && begins_with (λ c. c == 42) bs) _ _ p.1

pub open_comment_stays : (text : List ℕ) → (Has (codes "*/") text → ⊥) → after_gap between 0 (codes "/*" ++ text) ≡ Err (length (codes "/*" ++ text))
unfolding after_gap
open_comment_stays text h = block_open (length (codes "/*" ++ text)) text h

pub last_gap_left : (text : List ℕ) → IsLastGap text → after_gap between 0 text ≡ Ok []
unfolding after_gap
last_gap_left text (inl g) = ap (after_gap between 0) (sym (nil_right text)) ∙ gap_again text [] g
last_gap_left text (inr x) = ap (after_gap between 0) x.2 ∙ gap_again x.0 (codes "--" ++ x.1) x.3 ∙ line_ends x.1 x.4
