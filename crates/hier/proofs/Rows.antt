-- What the rows tell of a member.
use Rattle.std.specs.Prelude.{slice_get}
use Rattle.std.proofs.Common.{◌≡◌, ◌≢◌, ◌⊎◌, ℕ, ◌+◌, ◌<◌, ◌≤◌, List, length, get_or, set, Some, inl, inr, arith, sym, ◌∙◌, subst, get_or-set_same, get_or-set_other, below_more, length-set}
use Rattle.std.proofs.lemmas.Bool.{cases_eq, cases_lt}
use Rattle.std.proofs.lemmas.List.{get_or_past}
use Rattle.hier.specs.declared.hier.Parent.{Parent}
use Rattle.hier.specs.steps.Linking.{IsUp, TellsRow}

module _ (keys : List ℕ) (parents : List Parent) (members : List ℕ) where
  -- a row of another key, or one behind the first
  pub row-more : (n key row up : ℕ) → TellsRow keys parents members n key row up → (get_or keys n 0 ≢ key) ⊎ (row ≢ 0) → TellsRow keys parents members (n + 1) key row up
  row-more n key row up (inl t) (inl other) = inl (t.0, t.1, below_more _ _ t.2 other)
  row-more n key row up (inl t) (inr some) = absurd (some t.0)
  row-more n key row up (inr t) why = inr (t.0, t.1, t.2, (let w = t.3 in omega (arith, w)), t.4, t.5, t.6, t.7)

  -- the first row of a key
  pub row-first : (n key up : ℕ) (parent : Parent) → TellsRow keys parents members n key 0 up → get_or keys n 0 ≡ key
      → slice_get parents n ≡ Some parent → (new : ℕ) → IsUp members parent new → TellsRow keys parents members (n + 1) key (n + 1) new
  row-first n key up parent (inl t) here read new is = inr (n, parent, omega arith, omega arith, here, t.2, read, is)
  row-first n key up parent (inr t) here read new is = absurd (let e = t.2 in omega (arith, e))

  pub rows-kept : (rows ups : List ℕ) (n found : ℕ) → found < length members → get_or keys n 0 ≡ get_or members found 0
      → ((m : ℕ) → m < length members → get_or members m 0 ≡ get_or members found 0 → m ≡ found)
      → get_or rows found 0 ≢ 0
      → ((m : ℕ) → m < length members → TellsRow keys parents members n (get_or members m 0) (get_or rows m 0) (get_or ups m 0))
      → (m : ℕ) → m < length members → TellsRow keys parents members (n + 1) (get_or members m 0) (get_or rows m 0) (get_or ups m 0)
  rows-kept rows ups n found lf here one some told m l =
      row-more n (get_or members m 0) (get_or rows m 0) (get_or ups m 0) (told m l)
      (elim (cases_eq m found) [
        | inl same ↦ inr (subst (λ k. get_or rows k 0 ≢ 0) (sym same) some)
        | inr other ↦ inl (λ e. other (one m l (sym e ∙ here)))
      ])

  pub rows-put : (rows ups : List ℕ) (n found : ℕ) → found < length members → get_or keys n 0 ≡ get_or members found 0
      → ((m : ℕ) → m < length members → get_or members m 0 ≡ get_or members found 0 → m ≡ found)
      → length rows ≡ length members → length ups ≡ length members
      → get_or rows found 0 ≡ 0 → (parent : Parent) → slice_get parents n ≡ Some parent → (new : ℕ) → IsUp members parent new
      → ((m : ℕ) → m < length members → TellsRow keys parents members n (get_or members m 0) (get_or rows m 0) (get_or ups m 0))
      → (m : ℕ) → m < length members → TellsRow keys parents members (n + 1) (get_or members m 0) (get_or (set rows found (n + 1)) m 0) (get_or (set ups found new) m 0)
  rows-put rows ups n found lf here one lr lu free parent read new is told m l =
      elim (cases_eq m found) [
        | inl same ↦
            let r : get_or (set rows found (n + 1)) found 0 ≡ n + 1 = get_or-set_same rows found (n + 1) 0 (omega arith) in
            let u : get_or (set ups found new) found 0 ≡ new = get_or-set_same ups found new 0 (omega arith) in
            let t = subst (λ k. TellsRow keys parents members n (get_or members found 0) k (get_or ups found 0)) free (told found lf) in
            let first = row-first n (get_or members found 0) (get_or ups found 0) parent t here read new is in
            subst (λ k. TellsRow keys parents members (n + 1) (get_or members k 0) (get_or (set rows found (n + 1)) k 0) (get_or (set ups found new) k 0)) (sym same)
            (subst (λ k. TellsRow keys parents members (n + 1) (get_or members found 0) k (get_or (set ups found new) found 0)) (sym r)
            (subst (λ k. TellsRow keys parents members (n + 1) (get_or members found 0) (n + 1) k) (sym u) first))
        | inr other ↦
            let r : get_or (set rows found (n + 1)) m 0 ≡ get_or rows m 0 = get_or-set_other rows found m (n + 1) 0 other in
            let u : get_or (set ups found new) m 0 ≡ get_or ups m 0 = get_or-set_other ups found m new 0 other in
            subst (λ k. TellsRow keys parents members (n + 1) (get_or members m 0) k (get_or (set ups found new) m 0)) (sym r)
            (subst (λ k. TellsRow keys parents members (n + 1) (get_or members m 0) (get_or rows m 0) k) (sym u)
            (row-more n (get_or members m 0) (get_or rows m 0) (get_or ups m 0) (told m l) (inl (λ e. other (one m l (sym e ∙ here))))))
      ]

-- a cell within the members
pub ups-within : (ups : List ℕ) (found new most : ℕ) → new ≤ most → ((m : ℕ) → get_or ups m 0 ≤ most) → (m : ℕ) → get_or (set ups found new) m 0 ≤ most
ups-within ups found new most le within m = elim (cases_eq m found) [
  | inr other ↦ let e = get_or-set_other ups found m new 0 other in let w = within m in omega (arith, e, w)
  | inl same ↦ elim (cases_lt found (length ups)) [
    | inl inner ↦
        let e = get_or-set_same ups found new 0 inner in
        subst (λ k. get_or (set ups found new) k 0 ≤ most) (sym same) (omega (arith, e, le))
    | inr outer ↦
        let e : get_or (set ups found new) m 0 ≡ 0 = get_or_past (set ups found new) m 0 (let l = length-set ups found new in omega (arith, l)) in
        omega (arith, e)
  ]
]
