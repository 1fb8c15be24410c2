-- A text is cut in one way.
use Rattle.std.proofs.Common.{◌≡◌, ◌≤◌, ◌<◌, ◌∷◌, ◌++◌, ◌∙◌, [], ℕ, List, length, take, drop, get_or, refl, sym, ap, subst, inl, inr, arith, append_assoc, true}
use Rattle.std.specs.List.{AllByRecursion, flat_map}
use Rattle.std.proofs.lemmas.List.{append-nil, drop_at, get_or_append_left, get_or_at, length-append, take-append-le, take_at}
use Rattle.std.proofs.lemmas.Bool.{both_ways, cases_order}
use Rattle.row_text.specs.declared.cutter.CutRule.{CutRule}
use Rattle.dict_value.specs.declared.letters.TheConstants.{LINE_FEED}
use Rattle.row_text.specs.Cutting.{Cuts, IsOpen, IsWhole, ended, keeps_open}

-- a row end lies in no part of a text that has none
clash : (by : CutRule) (a x b y : List ℕ) → a ++ LINE_FEED ∷ x ≡ b ++ y → IsWhole by a → IsOpen by b → length a < length b → ⊥
clash by a x b y e whole opened lt =
    let n = length a in
    let le : n ≤ length b = omega arith in
    let at : get_or b n 0 ≡ LINE_FEED = sym (get_or_append_left b y 0 n lt) ∙ ap (λ (t : List ℕ). get_or t n 0) (sym e) ∙ get_or_at a LINE_FEED x 0 n refl in
    let front : take n b ≡ a = sym (take-append-le n b y le) ∙ ap (take n) (sym e) ∙ take_at a (LINE_FEED ∷ x) n refl in
    both_ways (keeps_open by a) whole.ends (subst (λ (t : List ℕ). keeps_open by t ≡ true) front (opened n lt at))

-- the first row of a text, and what follows
first-row : (r : List ℕ) (rs : List (List ℕ)) (rest : List ℕ) → flat_map ended (r ∷ rs) ++ rest ≡ r ++ LINE_FEED ∷ (flat_map ended rs ++ rest)
first-row r rs rest = append_assoc (ended r) (flat_map ended rs) rest ∙ append_assoc r (LINE_FEED ∷ []) (flat_map ended rs ++ rest)

same-front : (by : CutRule) (r x s y : List ℕ) → r ++ LINE_FEED ∷ x ≡ s ++ LINE_FEED ∷ y → IsWhole by r → IsWhole by s → (r ≡ s) × (x ≡ y)
same-front by r x s y e p q = elim (cases_order (length r) (length s)) [
  | inl same ↦
      let front : r ≡ s = sym (take_at r (LINE_FEED ∷ x) (length s) same) ∙ ap (take (length s)) e ∙ take_at s (LINE_FEED ∷ y) (length s) refl in
      let back : LINE_FEED ∷ x ≡ LINE_FEED ∷ y = sym (drop_at r (LINE_FEED ∷ x) (length s) same) ∙ ap (drop (length s)) e ∙ drop_at s (LINE_FEED ∷ y) (length s) refl in
      (front, cc back)
  | inr (inl below) ↦ absurd (clash by r x s (LINE_FEED ∷ y) e p q.opened below)
  | inr (inr above) ↦ absurd (clash by s y r (LINE_FEED ∷ x) (sym e) q p.opened above)
]

pub one-cutting : (by : CutRule) (rows others : List (List ℕ)) (rest left : List ℕ) → AllByRecursion (IsWhole by) rows → AllByRecursion (IsWhole by) others → IsOpen by rest → IsOpen by left
    → flat_map ended rows ++ rest ≡ flat_map ended others ++ left → (rows ≡ others) × (rest ≡ left)
one-cutting by [] [] rest left p q opened opened' e = (refl, e)
one-cutting by [] (s ∷ ss) rest left p q opened opened' e =
    let e' : s ++ LINE_FEED ∷ (flat_map ended ss ++ left) ≡ rest ++ [] = sym (first-row s ss left) ∙ sym e ∙ sym (append-nil rest) in
    absurd (clash by s (flat_map ended ss ++ left) rest [] e' q.0 opened (omega (arith, ap length e', length-append s (LINE_FEED ∷ (flat_map ended ss ++ left)), length-append rest [])))
one-cutting by (r ∷ rs) [] rest left p q opened opened' e =
    let e' : r ++ LINE_FEED ∷ (flat_map ended rs ++ rest) ≡ left ++ [] = sym (first-row r rs rest) ∙ e ∙ sym (append-nil left) in
    absurd (clash by r (flat_map ended rs ++ rest) left [] e' p.0 opened' (omega (arith, ap length e', length-append r (LINE_FEED ∷ (flat_map ended rs ++ rest)), length-append left [])))
one-cutting by (r ∷ rs) (s ∷ ss) rest left p q opened opened' e =
    let front = same-front by r (flat_map ended rs ++ rest) s (flat_map ended ss ++ left) (sym (first-row r rs rest) ∙ e ∙ first-row s ss left) p.0 q.0 in
    let back = one-cutting by rs ss rest left p.1 q.1 opened opened' front.1 in
    (ap (λ (t : List ℕ). t ∷ rs) front.0 ∙ ap (λ (ts : List (List ℕ)). s ∷ ts) back.0, back.1)

-- the rows of a text, and what it has behind them
pub same-cuts : (by : CutRule) (text : List ℕ) (rows others : List (List ℕ)) (rest left : List ℕ) → Cuts by text rows rest → Cuts by text others left → (rows ≡ others) × (rest ≡ left)
same-cuts by text rows others rest left p q = one-cutting by rows others rest left p.whole q.whole p.opened q.opened (sym p.joined ∙ q.joined)
