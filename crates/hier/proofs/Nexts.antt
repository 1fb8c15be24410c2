-- The least member with a parent, from a member on.
use Rattle.std.proofs.Common.{◌≡◌, ◌≢◌, ℕ, ◌+◌, ◌-◌, ◌<◌, ◌≤◌, List, length, get_or, set, inl, inr, ap, arith, sym, ◌∙◌, subst, get_or-set_same, get_or-set_other}
use Rattle.std.proofs.lemmas.Bool.{cases_eq, cases_lt}
use Rattle.hier.specs.Members.{TellsNext}

-- a member of another parent
pub next-skip : (ups : List ℕ) (s up cell : ℕ) → TellsNext ups (s + 1) up cell → get_or ups s 0 ≢ up → TellsNext ups s up cell
next-skip ups s up cell t other = record {
  none = λ z m from l e. elim (cases_lt s m) [
    | inl less ↦ t.none z m (omega arith) l e
    | inr same ↦ let q : m ≡ s = omega arith in other (subst (λ k. get_or ups k 0 ≡ up) q e)
  ];
  within = λ some. let w = t.within some in (omega (arith, w.0), w.1);
  here = t.here;
  least = λ some m from l e. elim (cases_lt s m) [
    | inl less ↦ t.least some m (omega arith) l e
    | inr same ↦ let q : m ≡ s = omega arith in other (subst (λ k. get_or ups k 0 ≡ up) q e)
  ];
}

-- a member of this parent
pub next-here : (ups : List ℕ) (s up : ℕ) → s < length ups → get_or ups s 0 ≡ up → TellsNext ups s up (s + 1)
next-here ups s up l e = record {
  none = λ z. absurd (omega (arith, z));
  within = λ some. (omega arith, omega arith);
  here = λ some. let q : s ≡ s + 1 - 1 = omega arith in subst (λ k. get_or ups k 0 ≡ up) q e;
  least = λ some m from less. absurd (omega (arith, from, less));
}

pub next-end : (ups : List ℕ) (up : ℕ) → TellsNext ups (length ups) up 0
next-end ups up = record {
  none = λ z m from l. absurd (omega (arith, from, l));
  within = λ some. absurd (omega (arith, some));
  here = λ some. absurd (omega (arith, some));
  least = λ some. absurd (omega (arith, some));
}

-- a member of no parent
pub firsts-skip : (ups firsts : List ℕ) (left s : ℕ) → left ≡ s + 1 → get_or ups s 0 ≡ 0
    → ((m : ℕ) → m < length ups → TellsNext ups left (m + 1) (get_or firsts m 0))
    → (m : ℕ) → m < length ups → TellsNext ups s (m + 1) (get_or firsts m 0)
firsts-skip ups firsts left s is top told m l =
    next-skip ups s (m + 1) (get_or firsts m 0) (subst (λ k. TellsNext ups k (m + 1) (get_or firsts m 0)) is (told m l)) (λ e. omega (arith, e, top))

-- a member is put before those below its parent
pub firsts-put : (ups firsts : List ℕ) (left s up : ℕ) → left ≡ s + 1 → s < length ups → get_or ups s 0 ≡ up + 1 → length firsts ≡ length ups
    → ((m : ℕ) → m < length ups → TellsNext ups left (m + 1) (get_or firsts m 0))
    → (m : ℕ) → m < length ups → TellsNext ups s (m + 1) (get_or (set firsts up (s + 1)) m 0)
firsts-put ups firsts left s up is l here len told m lm =
    elim (cases_eq m up) [
      | inl same ↦
          let within : m < length firsts = omega arith in
          let read : get_or (set firsts m (s + 1)) m 0 ≡ s + 1 = get_or-set_same firsts m (s + 1) 0 within in
          let P : ℕ → Type 0 = λ k. TellsNext ups s (m + 1) (get_or (set firsts k (s + 1)) m 0) in
          subst P same (subst (TellsNext ups s (m + 1)) (sym read) (next-here ups s (m + 1) l (here ∙ ap (λ k. k + 1) (sym same))))
      | inr other ↦
          let read : get_or (set firsts up (s + 1)) m 0 ≡ get_or firsts m 0 = get_or-set_other firsts up m (s + 1) 0 other in
          subst (TellsNext ups s (m + 1)) (sym read)
          (next-skip ups s (m + 1) (get_or firsts m 0) (subst (λ k. TellsNext ups k (m + 1) (get_or firsts m 0)) is (told m lm)) (λ e. other (omega (arith, e, here))))
    ]

pub nexts-put : (ups nexts : List ℕ) (left s cell : ℕ) → left ≡ s + 1 → s < length ups → length nexts ≡ length ups
    → TellsNext ups left (get_or ups s 0) cell
    → ((m : ℕ) → left ≤ m → m < length ups → 0 < get_or ups m 0 → TellsNext ups (m + 1) (get_or ups m 0) (get_or nexts m 0))
    → (m : ℕ) → s ≤ m → m < length ups → 0 < get_or ups m 0 → TellsNext ups (m + 1) (get_or ups m 0) (get_or (set nexts s cell) m 0)
nexts-put ups nexts left s cell is l len new told m from lm some =
    elim (cases_lt s m) [
      | inl later ↦
          let read : get_or (set nexts s cell) m 0 ≡ get_or nexts m 0 = get_or-set_other nexts s m cell 0 (omega arith) in
          subst (TellsNext ups (m + 1) (get_or ups m 0)) (sym read) (told m (omega arith) lm some)
      | inr same ↦
          let e : s ≡ m = omega arith in
          let read : get_or (set nexts s cell) s 0 ≡ cell = get_or-set_same nexts s cell 0 (omega arith) in
          subst (λ k. TellsNext ups (k + 1) (get_or ups k 0) (get_or (set nexts s cell) k 0)) e
          (subst (TellsNext ups (s + 1) (get_or ups s 0)) (sym read) (subst (λ k. TellsNext ups k (get_or ups s 0) cell) is new))
    ]
