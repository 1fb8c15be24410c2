-- Lemmas on the probes of a table, whatever its cells hold and wherever the probes of a key begin.
use Rattle.std.proofs.Common.{◌≡◌, ◌≢◌, ℕ, ◌+◌, ◌-◌, ◌<◌, Option, Some, None, inl, inr, arith, sym, ◌∙◌, subst}
use Rattle.std.proofs.lemmas.Bool.{cases_lt}
use Rattle.hashed_layout.specs.Probing.{IsMet, probed}
use Rattle.hashed_layout.specs.steps.Filling.{Lands, Passes}

module _ {K : Type 0} (size home : ℕ) (held : ℕ → Option K) (key : K) where
  -- a cell that holds another key isn't the one that meets the key
  passes-other : (probe : ℕ) → Passes size home held key probe → held (probed size home probe) ≡ Some key → ⊥
  passes-other probe p met = p.2 (cc (p.1))

  -- where every probe meets another key, no probe meets the key
  pub passed-all : IsMet size home held key → ((probe : ℕ) → probe < size → Passes size home held key probe) → ⊥
  passed-all m all = passes-other m.probe (all m.probe m.near) m.met

  -- where the probes come to a free cell, no probe meets the key
  pub free-ends : (i : ℕ) → Lands size home held key i → held i ≡ None → IsMet size home held key → ⊥
  free-ends i l free m =
      let here : held (probed size home l.probe) ≡ None = subst (λ j. held j ≡ None) l.at free in
      elim (cases_lt m.probe l.probe) [
        | inl before ↦ passes-other m.probe (l.passes m.probe before) m.met
        | inr after ↦ elim (cases_lt l.probe m.probe) [
          | inl sooner ↦ m.taken l.probe sooner here
          | inr same ↦
              let e : l.probe ≡ m.probe = omega arith in
              let none : held (probed size home m.probe) ≡ None = subst (λ d. held (probed size home d) ≡ None) e here in
              absurd (cc (none, m.met))
        ]
      ]

  -- the cell that the probes came to meets the key that it holds
  pub met-here : (i : ℕ) → Lands size home held key i → held i ≡ Some key → IsMet size home held key
  met-here i l same = record {
    probe = l.probe;
    near = l.near;
    met = subst (λ j. held j ≡ Some key) l.at same;
    taken = λ earlier sooner none. let p = l.passes earlier sooner in absurd (cc (none, p.1));
  }

-- a cell that is filled
module _ {K : Type 0} (size : ℕ) (held new : ℕ → Option K) (i : ℕ) (free : held i ≡ None) (others : (j : ℕ) → j ≢ i → new j ≡ held j) where
  taken-other : (j : ℕ) → held j ≢ None → j ≢ i
  taken-other j taken e = taken (subst (λ k. held k ≡ None) (sym e) free)

  taken-still : (j : ℕ) → held j ≢ None → new j ≢ None
  taken-still j taken none = taken (sym (others j (taken-other j taken)) ∙ none)

  -- what was met is met still
  pub met-still : (home : ℕ) (key : K) → IsMet size home held key → IsMet size home new key
  met-still home key m =
      let here : held (probed size home m.probe) ≢ None = λ none. absurd (cc (none, m.met)) in
      record {
        probe = m.probe;
        near = m.near;
        met = others (probed size home m.probe) (taken-other (probed size home m.probe) here) ∙ m.met;
        taken = λ earlier less. taken-still (probed size home earlier) (m.taken earlier less);
      }

  -- a key is met in the cell that its probes came to
  pub met-new : (home : ℕ) (key : K) → Lands size home held key i → new i ≡ Some key → IsMet size home new key
  met-new home key l is = record {
    probe = l.probe;
    near = l.near;
    met = subst (λ j. new j ≡ Some key) l.at is;
    taken = λ earlier less.
        let p = l.passes earlier less in
        taken-still (probed size home earlier) (λ none. absurd (cc (none, p.1)));
  }

-- each cell is met by a probe
pub probed-by : (size home i : ℕ) → home < size → i < size → (probe : ℕ) × (probe < size) × (probed size home probe ≡ i)
probed-by size home i s l =
    elim (cases_lt i home) [
      | inl below ↦ (i + size - home, omega arith, grind arith)
      | inr above ↦ (i - home, omega arith, grind arith)
    ]
