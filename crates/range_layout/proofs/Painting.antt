-- Borders that are painted with rows.
use Rattle.std.specs.List.Sorted.{IsStrictlyIncreasing}
use Rattle.std.proofs.Common.{◌≡◌, ◌≢◌, ◌⊎◌, ℕ, ◌+◌, ◌<◌, ◌≤◌, List, length, get_or, inl, inr, refl, sym, ◌∙◌, subst, arith}
use Rattle.std.proofs.lemmas.Bool.{cases_eq, cases_lt}
use Rattle.range_layout.specs.Stretches.{Covers, end_of, stretch_at, stretch_start}
use Rattle.range_layout.specs.declared.stretches.Stretch.{Stretch}
use Rattle.range_layout.specs.steps.Painting.{ArePainted, IsOnePainted, IsPainted, IsPaintedTo, TellsFirst, row_at}
use Rattle.range_layout.proofs.Rising.{rises-less, rises-no_less}

module _ (borders : List ℕ) (stretch : Stretch) (row start : ℕ) (rises : IsStrictlyIncreasing borders) (old : List ℕ) where
  -- where the first place is found, places behind the start are painted
  pub painted-start : (at : ℕ) → start ≤ at → ArePainted old start at → IsPaintedTo borders stretch row start at old old
  painted-start at l p = record {
    len = refl;
    after = l;
    kept = λ i some. refl;
    here = λ i a b z. absurd (p i a b z);
    others = λ i o. refl;
  }

  -- a place is painted, and what is behind it is painted up to another
  pub painted-more : (at next : ℕ) (mid new : List ℕ) → at < next → get_or borders at 0 < end_of stretch → IsPaintedTo borders stretch row start at old mid → IsOnePainted row at mid new → ArePainted new (at + 1) next
      → IsPaintedTo borders stretch row start next old new
  painted-more at next mid new l inside p one skipped =
      let len = p.len in
      let a = p.after in
      let outside : get_or mid at 0 ≡ get_or old at 0 = p.others at (inr (omega arith)) in
      record {
        len = one.len ∙ p.len;
        after = omega (arith, a, l);
        kept = λ i some. elim (cases_eq i at) [
          | inr ne ↦ one.others i ne ∙ p.kept i some
          | inl is ↦
              let K : ℕ → Type 0 = λ k. get_or new k 0 ≡ get_or old k 0 in
              let s : get_or old at 0 ≢ 0 = subst (λ k. get_or old k 0 ≢ 0) is some in
              subst K (sym is) (one.kept (λ z. s (sym outside ∙ z)) ∙ outside)
        ];
        here = λ i from to zero. elim (cases_lt i at) [
          | inl less ↦
              let h = p.here i from less zero in
              let ne : i ≢ at = omega (arith, less) in
              (one.others i ne ∙ h.0, h.1)
          | inr most ↦ elim (cases_eq i at) [
            | inl is ↦
                let K : ℕ → Type 0 = λ k. (get_or new k 0 ≡ row + 1) × (get_or borders k 0 < end_of stretch) in
                let z : get_or old at 0 ≡ 0 = subst (λ k. get_or old k 0 ≡ 0) is zero in
                subst K (sym is) (one.here (outside ∙ z), inside)
            | inr ne ↦
                let there : get_or new i 0 ≢ 0 = skipped i (omega (arith, most, ne)) to in
                absurd (there (one.others i ne ∙ (p.others i (inr most) ∙ zero)))
          ]
        ];
        others = λ i outer.
            let ne : i ≢ at = elim outer [
              | inl before ↦ omega (arith, before, a)
              | inr behind ↦ omega (arith, behind, l)
            ] in
            one.others i ne ∙ p.others i (elim outer [ inl before ↦ inl before | inr behind ↦ inr (omega (arith, behind, l)) ]);
      }

  pub painted-all : (at : ℕ) (new : List ℕ) → start < length borders → get_or borders start 0 ≡ stretch_start stretch → (at < length borders → end_of stretch ≤ get_or borders at 0) → IsPaintedTo borders stretch row start at old new
      → IsPainted borders stretch row old new
  painted-all at new within is stop p = record {
    len = p.len;
    kept = p.kept;
    here = λ i l zero from to. elim (cases_lt i start) [
      | inl before ↦ let u = rises-less borders i start rises before within in absurd (omega (arith, u, is, from))
      | inr after ↦ elim (cases_lt i at) [
        | inl less ↦ (p.here i after less zero).0
        | inr most ↦
            let s = stop (omega (arith, most, l)) in
            let u = rises-no_less borders rises at i most l in
            absurd (omega (arith, s, u, to))
      ]
    ];
    others = λ i l zero outer. elim (cases_lt i start) [
      | inl before ↦ p.others i (inl before) ∙ zero
      | inr after ↦ elim (cases_lt i at) [
        | inr most ↦ p.others i (inr most) ∙ zero
        | inl less ↦
            let h = (p.here i after less zero).1 in
            elim outer [
              | inl low ↦ let u = rises-no_less borders rises start i after l in absurd (omega (arith, u, is, low))
              | inr high ↦ absurd (omega (arith, h, high))
            ]
      ]
    ];
  }

-- a rank more
pub tells-more : (stretches : List Stretch) (ranks : List ℕ) (count border old new : ℕ) → row_at ranks count < length stretches → TellsFirst stretches ranks count border old → (old ≢ 0 → new ≡ old)
    → (old ≡ 0 → stretch_start (stretch_at stretches (row_at ranks count)) ≤ border → border < end_of (stretch_at stretches (row_at ranks count)) → new ≡ row_at ranks count + 1)
    → (old ≡ 0 → (border < stretch_start (stretch_at stretches (row_at ranks count))) ⊎ (end_of (stretch_at stretches (row_at ranks count)) ≤ border) → new ≡ 0) → TellsFirst stretches ranks (count + 1) border new
tells-more stretches ranks count border old new within (inr (i, less, is, here, first)) kept painted other =
    let same : new ≡ old = kept (omega (arith, is)) in
    inr (i, omega (arith, less), same ∙ is, here, first)
tells-more stretches ranks count border old new within (inl (zero, none)) kept painted other =
    let stretch = stretch_at stretches (row_at ranks count) in
    let more : ¬ (Covers stretches (row_at ranks count) border) → (i : ℕ) → i < count + 1 → ¬ (Covers stretches (row_at ranks i) border) = λ last i l covers.
    elim (cases_lt i count) [
      | inl less ↦ none i less covers
      | inr most ↦
          let e : i ≡ count = omega (arith, most, l) in
          last (subst (λ k. Covers stretches (row_at ranks k) border) e covers)
    ] in
    elim (cases_lt border (stretch_start stretch)) [
      | inl before ↦ inl (other zero (inl before), more (λ covers. let u = covers.1 in omega (arith, u, before)))
      | inr from ↦ elim (cases_lt border (end_of stretch)) [
        | inl to ↦ inr (count, omega arith, painted zero from to, (within, from, to), none)
        | inr behind ↦ inl (other zero (inr behind), more (λ covers. let u = covers.2 in omega (arith, u, behind)))
      ]
    ]
