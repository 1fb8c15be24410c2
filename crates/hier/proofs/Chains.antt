-- Chains, as lists of keys and as members.
use Rattle.std.specs.List.{slice_get}
use Rattle.std.proofs.Common.{◌≡◌, ◌≢◌, ◌⊎◌, ℕ, zero, suc, ◌+◌, ◌-◌, ◌<◌, List, [], ◌∷◌, length, Option, Some, None, inl, inr, refl, ap, arith, sym, ◌∙◌, subst}
use Rattle.std.proofs.lemmas.Bool.{cases_eq, cases_lt}
use Rattle.std.proofs.lemmas.Option.{slice_get_within}
use Rattle.hier.specs.Hierarchy.{HasRow, IsChain, IsLast, IsParent}
use Rattle.hier.specs.declared.hier.Parent.{Parent}
use Rattle.hier.proofs.Lists.{contains-get}

-- ---- a key has one parent, and one chain

module _ (keys : List ℕ) (parents : List Parent) where
  pub parent-one : (key p q : ℕ) → IsParent keys parents key p → IsParent keys parents key q → p ≡ q
  parent-one key p q a b =
      let same : a.0 ≡ b.0 = elim (cases_lt a.0 b.0) [
        | inl less ↦ absurd (b.1.least a.0 less a.1.equal)
        | inr most ↦ elim (cases_lt b.0 a.0) [
          | inl less ↦ absurd (a.1.least b.0 less b.1.equal)
          | inr equal ↦ omega arith
        ]
      ] in
      let x = subst (λ k. slice_get parents k ≡ Some (Parent.Of p)) same a.2 in
      cc (x, b.2)

  pub parent-row : (key p : ℕ) → IsParent keys parents key p → HasRow keys key
  parent-row key p a = (a.0, a.1.equal)

  get-some : {A : Type 0} (xs : List A) (i : ℕ) → i < length xs → (x : A) × (slice_get xs i ≡ Some x)
  get-some [] i l = absurd (omega (arith, l))
  get-some (x ∷ xs) zero l = (x, refl)
  get-some (x ∷ xs) (suc i) l = get-some xs i (omega arith)

  get-last : {A : Type 0} (xs : List A) (i : ℕ) (x : A) → slice_get xs i ≡ Some x → slice_get xs (i + 1) ≡ None → length xs ≡ i + 1
  get-last xs i x here end = elim (cases_lt (i + 1) (length xs)) [
    | inl more ↦ let y = get-some xs (i + 1) more in absurd (cc (y.1, end))
    | inr most ↦ let w = slice_get_within xs i x here in omega (arith, w, most)
  ]

  past : {A : Type 0} (xs : List A) (i j : ℕ) → slice_get xs i ≡ None → i < j → slice_get xs j ≡ None
  past [] i j none l = refl
  past (x ∷ xs) zero j none l = absurd (cc (none))
  past (x ∷ xs) (suc i) zero none l = absurd (omega (arith, l))
  past (x ∷ xs) (suc i) (suc j) none l = past xs i j none (omega arith)

  -- where one chain goes on, so does the other
  goes-on : (key : ℕ) (a b : List ℕ) → IsChain keys parents key a → IsChain keys parents key b → (i member next : ℕ)
      → ((j : ℕ) → j < i + 1 → slice_get a j ≡ slice_get b j) → slice_get a i ≡ Some member → slice_get a (i + 1) ≡ Some next
      → slice_get b (i + 1) ≡ Some next
  goes-on key a b p q i member next same here after = found (slice_get b (i + 1)) refl
    where
      there : slice_get b i ≡ Some member
      there = sym (same i (omega arith)) ∙ here

      found : (o : Option ℕ) → slice_get b (i + 1) ≡ o → slice_get b (i + 1) ≡ Some next
      found (Some other) is =
          is ∙ ap Some (parent-one member other next (q.goes i member other there is) (p.goes i member next here after))
      found None is =
          let len = get-last b i member there is in
          let e : i ≡ length b - 1 = omega (arith, len) in
          let last : IsLast b member = subst (λ k. slice_get b k ≡ Some member) e there in
          let in_b = contains-get b next (q.stops member next last (p.goes i member next here after) (p.rows (i + 1) next after)) in
          let w = slice_get_within b in_b.0 next in_b.1 in
          let in_a = same in_b.0 (omega (arith, w, len)) ∙ in_b.1 in
          let z = p.apart in_b.0 (i + 1) next in_a after in
          absurd (omega (arith, z, w, len))

  pub chains-agree : (key : ℕ) (a b : List ℕ) → IsChain keys parents key a → IsChain keys parents key b → HasRow keys key → (i j : ℕ) → j < i → slice_get a j ≡ slice_get b j
  chains-agree key a b p q row zero j l = absurd (omega (arith, l))
  chains-agree key a b p q row (suc zero) j l =
      let e : 0 ≡ j = omega arith in
      subst (λ k. slice_get a k ≡ slice_get b k) e (p.begins row ∙ sym (q.begins row))
  chains-agree key a b p q row (suc (suc i)) j l = elim (cases_lt j (suc i)) [
    | inl before ↦ chains-agree key a b p q row (suc i) j before
    | inr last ↦
        let e : i + 1 ≡ j = omega arith in
        let same : (k : ℕ) → k < i + 1 → slice_get a k ≡ slice_get b k = λ k h. chains-agree key a b p q row (suc i) k (omega arith) in
        subst (λ k. slice_get a k ≡ slice_get b k) e (next (slice_get a i) (slice_get a (i + 1)) (slice_get b (i + 1)) refl refl refl same)
  ]
    where
      next : (m x y : Option ℕ) → slice_get a i ≡ m → slice_get a (i + 1) ≡ x → slice_get b (i + 1) ≡ y → ((k : ℕ) → k < i + 1 → slice_get a k ≡ slice_get b k) → slice_get a (i + 1) ≡ slice_get b (i + 1)
      next (Some m) (Some x) y here is other same = is ∙ sym (goes-on key a b p q i m x same here is)
      next (Some m) None (Some y) here is other same =
          goes-on key b a q p i m y (λ k h. sym (same k h)) (sym (same i (omega arith)) ∙ here) other ∙ sym other
      next (Some m) None None here is other same = is ∙ sym other
      next None x y here is other same = past a i (i + 1) here (omega arith) ∙ sym (past b i (i + 1) (sym (same i (omega arith)) ∙ here) (omega arith))

  -- some row has the key, or none
  pub row-or : (key : ℕ) → HasRow keys key ⊎ (¬ (HasRow keys key))
  row-or key = within keys
    where
      within : (ks : List ℕ) → HasRow ks key ⊎ (¬ (HasRow ks key))
      within [] = inr (λ h. let e = h.1 in cc (e))
      within (k ∷ ks) = elim (cases_eq k key) [
        | inl same ↦ inl (0, ap Some same)
        | inr other ↦ elim (within ks) [
          | inl h ↦ inl (suc h.0, h.1)
          | inr none ↦ inr (λ h. by-place h.0 h.1 other none)
        ]
      ]
        where
          by-place : (place : ℕ) → slice_get (k ∷ ks) place ≡ Some key → k ≢ key → ¬ (HasRow ks key) → ⊥
          by-place zero e other none = other (cc (e))
          by-place (suc place) e other none = none (place, e)

  same-list : (a b : List ℕ) → ((i : ℕ) → slice_get a i ≡ slice_get b i) → a ≡ b
  same-list [] [] same = refl
  same-list [] (y ∷ ys) same = let e = same 0 in absurd (cc (e))
  same-list (x ∷ xs) [] same = let e = same 0 in absurd (cc (e))
  same-list (x ∷ xs) (y ∷ ys) same =
      let e = same 0 in
      let head : x ≡ y = cc (e) in
      let tail = same-list xs ys (λ i. same (suc i)) in
      cc (head, tail)

  -- a key has one chain
  pub chain-one : (key : ℕ) (a b : List ℕ) → IsChain keys parents key a → IsChain keys parents key b → a ≡ b
  chain-one key a b p q = elim (row-or key) [
    | inl row ↦ same-list a b (λ i. chains-agree key a b p q row (suc i) i (omega arith))
    | inr none ↦ p.none none ∙ sym (q.none none)
  ]
