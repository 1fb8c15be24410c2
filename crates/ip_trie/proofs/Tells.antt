-- The best of some rows.
use Rattle.std.proofs.Common.{◌≡◌, ◌≢◌, ◌⊎◌, Bool, ℕ, ◌+◌, ◌-◌, ◌<◌, ◌≤◌, List, length, inl, inr, refl, arith, sym, ◌∙◌, ap, subst}
use Rattle.std.proofs.lemmas.Bool.{cases_eq, cases_lt}
use Rattle.ip_trie.specs.Cells.{EndsAbove, EndsAtLevel, HasBits, TellsBest, leaf_at, level_of}
use Rattle.ip_trie.specs.declared.cells.Leaf.{Leaf}
use Rattle.ip_trie.specs.steps.Growing.{IsBettered}

-- of the same rows the same is the best
pub tells-by : (leaves : List Leaf) (P Q : ℕ → Type 0) (cell : ℕ) → ((row : ℕ) → P row → Q row) → ((row : ℕ) → Q row → P row) → TellsBest leaves P cell → TellsBest leaves Q cell
tells-by leaves P Q cell to from (inl t) = inl (t.0, λ row q. t.1 row (from row q))
tells-by leaves P Q cell to from (inr (best, is, p, most)) = inr (best, is, to best p, λ row q. most row (from row q))

module _ (leaves : List Leaf) (v6 : Bool) (n level bits : ℕ) where
  ends-more : (row : ℕ) → EndsAtLevel leaves v6 n level bits row → EndsAtLevel leaves v6 (n + 1) level bits row
  ends-more row (l, has, ends) = (omega (arith, l), has, ends)

  ends-less : (row : ℕ) → row ≢ n → EndsAtLevel leaves v6 (n + 1) level bits row → EndsAtLevel leaves v6 n level bits row
  ends-less row ne (l, has, ends) = (omega (arith, l, ne), has, ends)

  -- a row that doesn't end here
  pub tells-same : (cell : ℕ) → TellsBest leaves (EndsAtLevel leaves v6 n level bits) cell → ¬ (EndsAtLevel leaves v6 (n + 1) level bits n) → TellsBest leaves (EndsAtLevel leaves v6 (n + 1) level bits) cell
  tells-same cell t other =
      tells-by leaves (EndsAtLevel leaves v6 n level bits) (EndsAtLevel leaves v6 (n + 1) level bits) cell ends-more
      (λ row e. ends-less row (λ is. other (subst (EndsAtLevel leaves v6 (n + 1) level bits) is e)) e) t

  -- one that does
  pub tells-bettered : (old new : ℕ) → TellsBest leaves (EndsAtLevel leaves v6 n level bits) old → EndsAtLevel leaves v6 (n + 1) level bits n → IsBettered leaves n old new → TellsBest leaves (EndsAtLevel leaves v6 (n + 1) level bits) new
  tells-bettered old new t here (inl (why, is)) = inr (
    n,
    is,
    here,
    λ row e. elim (cases_eq row n) [
      | inl same ↦ inr (ap (λ r. (leaf_at leaves r).len) same, omega (arith, same))
      | inr other ↦ inl (shorter row (ends-less row other e) t why)
    ],
  )
    where
      shorter : (row : ℕ) → EndsAtLevel leaves v6 n level bits row → TellsBest leaves (EndsAtLevel leaves v6 n level bits) old → (old ≡ 0) ⊎ ((leaf_at leaves (old - 1)).len < (leaf_at leaves n).len) → (leaf_at leaves row).len < (leaf_at leaves n).len
      shorter row e (inl t) why = absurd (t.1 row e)
      shorter row e (inr (best, is, p, most)) (inl zero_old) = absurd (omega (arith, is, zero_old))
      shorter row e (inr (best, is, p, most)) (inr less) =
          let b : best ≡ old - 1 = omega (arith, is) in
          let l : (leaf_at leaves best).len < (leaf_at leaves n).len = subst (λ r. (leaf_at leaves r).len < (leaf_at leaves n).len) (sym b) less in
          elim (most row e) [
            | inl lower ↦ omega (arith, lower, l)
            | inr equal ↦ let q = equal.0 in omega (arith, q, l)
          ]
  tells-bettered old new (inl t) here (inr (some, most, is)) = absurd (let z = t.0 in omega (arith, z, some))
  tells-bettered old new (inr (best, eq, p, all)) here (inr (some, most, is)) = inr (
    best,
    is ∙ eq,
    ends-more best p,
    λ row e. elim (cases_eq row n) [
      | inr other ↦ all row (ends-less row other e)
      | inl same ↦
          let b : old - 1 ≡ best = omega (arith, eq) in
          let m : (leaf_at leaves row).len ≤ (leaf_at leaves best).len = subst (λ r. (leaf_at leaves r).len ≤ (leaf_at leaves best).len) (sym same) (subst (λ r. (leaf_at leaves n).len ≤ (leaf_at leaves r).len) b most) in
          elim (cases_lt (leaf_at leaves row).len (leaf_at leaves best).len) [
            | inl less ↦ inl less
            | inr equal ↦ inr (omega (arith, m, equal), (let q = p.0 in omega (arith, q, same)))
          ]
    ],
  )

module _ (leaves : List Leaf) (v6 : Bool) (bits : ℕ) where
  -- a level more
  pub tells-level : (level best cell next : ℕ) → TellsBest leaves (EndsAbove leaves v6 level bits) best → TellsBest leaves (EndsAtLevel leaves v6 (length leaves) level bits) cell
      → (cell ≡ 0 → next ≡ best) → (cell ≢ 0 → next ≡ cell) → TellsBest leaves (EndsAbove leaves v6 (level + 1) bits) next
  tells-level level best cell next t (inl (none, no_row)) kept new =
      subst (TellsBest leaves (EndsAbove leaves v6 (level + 1) bits)) (sym (kept none))
      (tells-by leaves (EndsAbove leaves v6 level bits) (EndsAbove leaves v6 (level + 1) bits) best
      (λ row (has, l). (has, omega (arith, l)))
      (λ row (has, l). (
        has,
        elim (cases_lt (level_of (leaf_at leaves row).len) level) [
          | inl less ↦ less
          | inr most ↦ absurd (no_row row (has.0.0, has, omega (arith, l, most)))
        ],
      )) t)
  tells-level level best cell next t (inr (row, is, here, most)) kept new =
      let some : cell ≢ 0 = λ z. omega (arith, is, z) in
      inr (
        row,
        new some ∙ is,
        (here.1, (let e = here.2 in omega (arith, e))),
        λ other (has, l). elim (cases_lt (level_of (leaf_at leaves other).len) level) [
          | inl less ↦ let e = here.2 in inl (omega (arith, less, e))
          | inr at ↦ most other (has.0.0, has, omega (arith, l, at))
        ],
      )

  -- all rows that hold the bits end above
  pub tells-all : (level best : ℕ) → ((row : ℕ) → HasBits leaves v6 bits row → level_of (leaf_at leaves row).len < level) → TellsBest leaves (EndsAbove leaves v6 level bits) best → TellsBest leaves (HasBits leaves v6 bits) best
  tells-all level best all t = tells-by leaves (EndsAbove leaves v6 level bits) (HasBits leaves v6 bits) best (λ row e. e.0) (λ row has. (has, all row has)) t

  pub tells-above : (level more best : ℕ) → level ≤ more → ((row : ℕ) → HasBits leaves v6 bits row → level_of (leaf_at leaves row).len < level) → TellsBest leaves (EndsAbove leaves v6 level bits) best → TellsBest leaves (EndsAbove leaves v6 more bits) best
  tells-above level more best le all t = tells-by leaves (EndsAbove leaves v6 level bits) (EndsAbove leaves v6 more bits) best (λ row e. (e.0, (let l = e.1 in omega (arith, l, le)))) (λ row e. (e.0, all row e.0)) t

  pub tells-none : TellsBest leaves (EndsAbove leaves v6 0 bits) 0
  tells-none = inl (refl, λ row e. let l = e.1 in omega (arith, l))
