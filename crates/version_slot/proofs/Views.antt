-- Views that begin with one another, entries by their numbers, and views whose entries have a fact.
use Rattle.std.proofs.Common.{◌≡◌, ℕ, zero, suc, ◌≤◌, ◌<◌, List, [], ◌∷◌, ◌++◌, length, take, refl, sym, ap, subst, ◌∙◌, ◌⊎◌, inl, inr, ⊎_elim, arith, Some, append_assoc, length-append}
use Rattle.std.proofs.lemmas.List.{append-nil}
use mathlib.Core.List.{IsPrefix}
use Rattle.version_slot.specs.Views.{Entered, entry, IsNewestOf, EachHasFact, KeepsTokens, HasEntries, first_entries}

module _ {E : Type 0} where
  pub prefix-self : (xs : List E) → IsPrefix xs xs
  prefix-self xs = ([], append-nil xs)

  pub prefix-chain : (xs ys zs : List E) → IsPrefix xs ys → IsPrefix ys zs → IsPrefix xs zs
  prefix-chain xs ys zs p q = (p.0 ++ q.0, sym (append_assoc xs p.0 q.0) ∙ (ap (λ (z : List E). z ++ q.0) p.1 ∙ q.1))

  pub prefix-append : (xs ys : List E) → IsPrefix xs (xs ++ ys)
  prefix-append xs ys = (ys, refl)

  pub prefix-take : (n : ℕ) (xs : List E) → IsPrefix (take n xs) xs
  prefix-take zero xs = (xs, refl)
  prefix-take (suc n) [] = ([], refl)
  prefix-take (suc n) (x ∷ xs) = (let rest = prefix-take n xs in rest.0, ap (λ (z : List E). x ∷ z) (prefix-take n xs).1)

  pub prefix-length : (xs ys : List E) → IsPrefix xs ys → length xs ≤ length ys
  prefix-length xs ys p = subst (λ (z : List E). length xs ≤ length z) p.1 (omega (arith, length-append xs p.0))

  -- of two lists that a third begins with, the longer begins with the shorter
  pub prefix-longer : (xs ys zs : List E) → IsPrefix xs zs → IsPrefix ys zs → length xs ≤ length ys → IsPrefix xs ys
  prefix-longer [] ys zs p q le = (ys, refl)
  prefix-longer (x ∷ xs) [] zs p q le = absurd (omega arith)
  prefix-longer (x ∷ xs) (y ∷ ys) [] p q le = absurd (cc (p.1))
  prefix-longer (x ∷ xs) (y ∷ ys) (z ∷ zs) p q le =
      let heads : x ≡ y = cc (p.1, q.1) in
      let rest = prefix-longer xs ys zs (p.0, cc (p.1)) (q.0, cc (q.1)) (omega arith) in
      (rest.0, cc (heads, rest.1))

  -- a view as long as the list that it begins with is that list
  pub prefix-whole : (xs ys : List E) → IsPrefix xs ys → length ys ≤ length xs → xs ≡ ys
  prefix-whole [] [] p le = refl
  prefix-whole [] (y ∷ ys) p le = absurd (omega arith)
  prefix-whole (x ∷ xs) [] p le = absurd (cc (p.1))
  prefix-whole (x ∷ xs) (y ∷ ys) p le =
      let rest = prefix-whole xs ys (p.0, cc (p.1)) (omega arith) in cc (p.1, rest)

  -- a list is the first entries of a view that begins with it
  pub take-prefix : (xs ys : List E) → IsPrefix xs ys → take (length xs) ys ≡ xs
  take-prefix [] ys p = refl
  take-prefix (x ∷ xs) [] p = absurd (cc (p.1))
  take-prefix (x ∷ xs) (y ∷ ys) p = let rest = take-prefix xs ys (p.0, cc (p.1)) in cc (p.1, rest)

  -- an entry stays the entry of its number in each view that begins with its own
  pub entry-prefix : (xs ys : List E) → IsPrefix xs ys → (n : ℕ) (e : E) → entry xs n ≡ Some e → entry ys n ≡ Some e
  entry-prefix xs ys p zero e at = absurd (cc at)
  entry-prefix [] ys p (suc n) e at = absurd (cc at)
  entry-prefix (x ∷ xs) [] p (suc n) e at = absurd (cc (p.1))
  entry-prefix (x ∷ xs) (y ∷ ys) p (suc zero) e at = cc (p.1, at)
  entry-prefix (x ∷ xs) (y ∷ ys) p (suc (suc n)) e at = entry-prefix xs ys (p.0, cc (p.1)) (suc n) e at

  -- what is appended is the newest entry
  pub entry-append : (xs : List E) (e : E) → entry (xs ++ e ∷ []) (length (xs ++ e ∷ [])) ≡ Some e
  entry-append [] e = refl
  entry-append (x ∷ []) e = refl
  entry-append (x ∷ y ∷ ys) e = entry-append (y ∷ ys) e

  -- each number from 1 to the length has an entry
  pub entry-within : (xs : List E) (n : ℕ) → n < length xs → (e : E) × (entry xs (suc n) ≡ Some e)
  entry-within [] n lt = absurd (omega arith)
  entry-within (x ∷ xs) zero lt = (x, refl)
  entry-within (x ∷ xs) (suc n) lt = entry-within xs n (omega arith)

  -- the newest entry stands last
  pub entry-last : (xs : List E) (e : E) → entry xs (length xs) ≡ Some e → (before : List E) × (xs ≡ before ++ e ∷ [])
  entry-last [] e at = absurd (cc at)
  entry-last (x ∷ []) e at = ([], cc at)
  entry-last (x ∷ y ∷ ys) e at = let rest = entry-last (y ∷ ys) e at in (x ∷ rest.0, ap (λ (z : List E). x ∷ z) rest.1)

  -- the entry of a number stands after as many entries as are before that number
  pub entry-after : (xs : List E) (n : ℕ) (e : E) → entry xs (suc n) ≡ Some e → (after : List E) × (xs ≡ take n xs ++ e ∷ after)
  entry-after [] n e at = absurd (cc at)
  entry-after (x ∷ xs) zero e at = (xs, cc at)
  entry-after (x ∷ xs) (suc n) e at = let rest = entry-after xs n e at in (rest.0, ap (λ (z : List E). x ∷ z) rest.1)

  -- the first entries of a list are those of each list that goes on from it
  pub take-append : (k : ℕ) (xs ys : List E) → k ≤ length xs → take k (xs ++ ys) ≡ take k xs
  take-append zero xs ys le = refl
  take-append (suc k) [] ys le = absurd (omega arith)
  take-append (suc k) (x ∷ xs) ys le = ap (λ (z : List E). x ∷ z) (take-append k xs ys (omega arith))

  pub tokens-append : (xs ys : List E) → KeepsTokens HasEntries first_entries xs (xs ++ ys)
  tokens-append xs ys k le = (omega (arith, length-append xs ys), take-append k xs ys le)

  pub tokens-same : (xs ys : List E) → ys ≡ xs → KeepsTokens HasEntries first_entries xs ys
  tokens-same xs ys same = subst (λ (z : List E). KeepsTokens HasEntries first_entries xs z) (sym same) (λ k le. (le, refl))

  -- an entry of a list with one more is that one, or stands in the list
  append-cases : (xs before after : List E) (x e : E) → xs ++ x ∷ [] ≡ before ++ e ∷ after → ((before ≡ xs) × (e ≡ x)) ⊎ ((rest : List E) × (xs ≡ before ++ e ∷ rest))
  append-cases [] [] after x e same = inl (refl, cc same)
  append-cases [] (z ∷ []) after x e same = absurd (cc same)
  append-cases [] (z ∷ u ∷ us) after x e same = absurd (cc same)
  append-cases (p ∷ ps) [] after x e same = inr (ps, cc same)
  append-cases (p ∷ ps) (z ∷ zs) after x e same = ⊎_elim (λ (t : (zs ≡ ps) × (e ≡ x)). inl (cc (t.0, same), t.1)) (λ (t : (rest : List E) × (ps ≡ zs ++ e ∷ rest)). inr (t.0, cc (t.1, same))) (append-cases ps zs after x e (cc same))

  module _ (allows : List E → E → Type 0) where
    pub fact-none : EachHasFact allows []
    fact-none [] after e same = absurd (cc same)
    fact-none (x ∷ xs) after e same = absurd (cc same)

    pub fact-append : (xs : List E) (x : E) → EachHasFact allows xs → allows xs x → EachHasFact allows (xs ++ x ∷ [])
    fact-append xs x has new before after e same = ⊎_elim (λ (t : (before ≡ xs) × (e ≡ x)). subst (λ (z : List E × E). allows z.0 z.1) (λ i. (sym t.0 i, sym t.1 i)) new) (λ (t : (rest : List E) × (xs ≡ before ++ e ∷ rest)). has before t.0 e t.1) (append-cases xs before after x e same)

    -- a list has the fact where a view that begins with it has
    pub fact-prefix : (xs ys : List E) → IsPrefix xs ys → EachHasFact allows ys → EachHasFact allows xs
    fact-prefix xs ys p has before after e same = has before (after ++ p.0) e (sym p.1 ∙ (ap (λ (z : List E). z ++ p.0) same ∙ append_assoc before (e ∷ after) p.0))

    -- the entry of a number has the fact over the entries of lesser numbers
    pub fact-entry : (xs : List E) (n : ℕ) (e : E) → EachHasFact allows xs → entry xs (suc n) ≡ Some e → allows (take n xs) e
    fact-entry xs n e has at = let split = entry-after xs n e at in has (take n xs) split.0 e split.1

    -- what is seen stands last in the view, and has the fact over the entries before it
    pub fact-newest : (view : List E) (seen : Entered E) (e : E) → EachHasFact allows view → IsNewestOf view seen → seen.version ≡ Some e → (before : List E) × (view ≡ before ++ e ∷ []) × allows before e
    fact-newest view seen e has newest is = let last = entry-last view e (sym newest.version ∙ is) in (last.0, last.1, has last.0 [] e last.1)
