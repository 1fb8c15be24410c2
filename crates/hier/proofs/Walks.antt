-- Walks over members whose chains aren't counted yet.
use Rattle.std.proofs.Common.{◌≡◌, ◌≢◌, ◌⊎◌, ℕ, zero, suc, ◌+◌, ◌-◌, ◌<◌, ◌≤◌, min, List, [], ◌∷◌, length, get_or, set, replicate, inl, inr, refl, ap, arith, sym, ◌∙◌, subst, get_or-set_same, get_or-set_other, length-set, below_more}
use Rattle.std.proofs.lemmas.Bool.{cases_eq, cases_lt}
use Rattle.std.proofs.lemmas.List.{length-replicate}
use Rattle.hier.specs.Members.{IsCounted, above}
use Rattle.hier.specs.declared.lengths.Walk.{Walk}
use Rattle.hier.specs.steps.Counting.{AreCounted, EndsAs, IsFilled, IsWalked, zeros}
use Rattle.hier.proofs.Above.{above-add, above-more, above-none}

-- ---- zeros

pub zeros-set : (ns : List ℕ) (i v : ℕ) → i < length ns → get_or ns i 0 ≡ 0 → zeros (set ns i (v + 1)) + 1 ≡ zeros ns
zeros-set [] i v l z = absurd (omega arith)
zeros-set (zero ∷ ns) zero v l z = subst (λ k. zeros (k ∷ ns) + 1 ≡ zeros ns + 1) (let e : suc v ≡ v + 1 = omega arith in e) refl
zeros-set (suc n ∷ ns) zero v l z = absurd (omega (arith, z))
zeros-set (zero ∷ ns) (suc i) v l z = let u = zeros-set ns i v (omega arith) z in omega (arith, u)
zeros-set (suc n ∷ ns) (suc i) v l z = zeros-set ns i v (omega arith) z

pub zeros-most : (ns : List ℕ) → zeros ns ≤ length ns
zeros-most [] = omega arith
zeros-most (zero ∷ ns) = let u = zeros-most ns in omega (arith, u)
zeros-most (suc n ∷ ns) = let u = zeros-most ns in omega (arith, u)

-- ---- a walk that is done

module _ (ups rows : List ℕ) (start : ℕ) where
  abbrev w : ℕ → ℕ
  w i = above ups i start

  -- a chain as a part of the walk
  counted-from : (a count : ℕ) → ((j : ℕ) → j + 1 < count → 0 < get_or ups (w (a + j)) 0) → ((j : ℕ) → j < count → 0 < get_or rows (w (a + j)) 0)
      → ((i j : ℕ) → i < j → j < count → w (a + i) ≢ w (a + j))
      → (0 < get_or ups (w (a + (count - 1))) 0 → 0 < get_or rows (w (a + count)) 0 → (i : ℕ) × (i < count) × (w (a + count) ≡ w (a + i)))
      → IsCounted ups rows (w a) count
  counted-from a count linked has_rows apart stops = record {
    linked = λ j l. subst (λ m. 0 < get_or ups m 0) (above-add ups start a j) (linked j l);
    has_rows = λ j l. subst (λ m. 0 < get_or rows m 0) (above-add ups start a j) (has_rows j l);
    apart = λ i j h l e. apart i j h l (above-add ups start a i ∙ (e ∙ sym (above-add ups start a j)));
    stops = λ up row.
        let s = stops (subst (λ m. 0 < get_or ups m 0) (sym (above-add ups start a (count - 1))) up) (subst (λ m. 0 < get_or rows m 0) (sym (above-add ups start a count)) row) in
        (s.0, s.1, sym (above-add ups start a count) ∙ (s.2 ∙ above-add ups start a s.0));
  }

  -- the member is of the walk, or not
  among : (count member : ℕ) → ((i : ℕ) × (i < count) × (member ≡ w i)) ⊎ ((i : ℕ) → i < count → member ≢ w i)
  among zero member = inr (λ i l. absurd (omega (arith, l)))
  among (suc count) member = elim (among count member) [
    | inl h ↦ inl (h.0, (let l = h.1 in omega (arith, l)), h.2)
    | inr none ↦ elim (cases_eq member (w count)) [
      | inl same ↦ inl (count, omega arith, same)
      | inr other ↦ inr (λ i l e. elim (cases_lt i count) [
        | inl less ↦ none i less e
        | inr most ↦ let q : i ≡ count = omega arith in other (subst (λ k. member ≡ w k) q e)
      ])
    ]
  ]

  module _ (lengths old new : List ℕ) (walk : Walk) (c : AreCounted ups rows lengths old start) (d : IsWalked ups rows lengths old new start walk.count) (some : 0 < walk.count) where
    differ : (i j : ℕ) → i < walk.count → j < walk.count → i ≢ j → w i ≢ w j
    differ i j li lj ne e = elim (cases_lt i j) [
      | inl less ↦ d.apart i j less lj e
      | inr most ↦ d.apart j i (omega arith) li (sym e)
    ]

    -- ---- behind the walk stands a chain of so many, or nothing
    module _ (rest : ℕ) (chain : (j : ℕ) → j < rest → 0 < get_or lengths (w (walk.count + j)) 0)
        (linked : (j : ℕ) → j < rest → (0 < j) ⊎ (0 < get_or ups (w (walk.count - 1)) 0))
        (k : (0 < rest) → IsCounted ups rows (w walk.count) rest)
        (end : rest ≡ 0 → 0 < get_or ups (w (walk.count - 1)) 0 → 0 < get_or rows (w walk.count) 0 → ⊥) where
      on : (m j : ℕ) → walk.count + j ≡ m → w m ≡ above ups j (w walk.count)
      on m j e = subst (λ x. w x ≡ above ups j (w walk.count)) e (above-add ups start walk.count j)

      tail-linked : (m : ℕ) → m + 1 < walk.count + rest → 0 < get_or ups (w m) 0
      tail-linked m l = elim (cases_lt (m + 1) walk.count) [
        | inl inner ↦ d.linked m inner
        | inr edge ↦ elim (cases_lt m walk.count) [
          | inl last ↦
              let e : walk.count - 1 ≡ m = omega arith in
              elim (linked 0 (omega arith)) [
                | inl past ↦ absurd (omega (arith, past))
                | inr up ↦ subst (λ x. 0 < get_or ups (w x) 0) e up
              ]
          | inr outer ↦
              let is = on m (m - walk.count) (omega arith) in
              subst (λ x. 0 < get_or ups x 0) (sym is) ((k (omega arith)).linked (m - walk.count) (omega arith))
        ]
      ]

      tail-rows : (m : ℕ) → m < walk.count + rest → 0 < get_or rows (w m) 0
      tail-rows m l = elim (cases_lt m walk.count) [
        | inl inner ↦ d.has_rows m inner
        | inr outer ↦
            let is = on m (m - walk.count) (omega arith) in
            subst (λ x. 0 < get_or rows x 0) (sym is) ((k (omega arith)).has_rows (m - walk.count) (omega arith))
      ]

      tail-long : (m : ℕ) → walk.count ≤ m → m < walk.count + rest → 0 < get_or lengths (w m) 0
      tail-long m outer l =
          let e : walk.count + (m - walk.count) ≡ m = omega arith in
          subst (λ x. 0 < get_or lengths (w x) 0) e (chain (m - walk.count) (omega arith))

      tail-apart : (i j : ℕ) → i < j → j < walk.count + rest → w i ≢ w j
      tail-apart i j h l e = elim (cases_lt j walk.count) [
        | inl inner ↦ d.apart i j h inner e
        | inr outer ↦ elim (cases_lt i walk.count) [
          | inl first ↦
              let u = d.uncounted i first in
              let v = subst (λ x. 0 < get_or lengths x 0) (sym e) (tail-long j outer l) in
              omega (arith, u, v)
          | inr both ↦
              (k (omega arith)).apart (i - walk.count) (j - walk.count) (omega arith) (omega arith)
              (sym (on i (i - walk.count) (omega arith)) ∙ (e ∙ on j (j - walk.count) (omega arith)))
        ]
      ]

      tail-stops : (i m : ℕ) → i < walk.count → walk.count + rest ≡ m → 0 < get_or ups (w (m - 1)) 0 → 0 < get_or rows (w m) 0
          → (j : ℕ) × (i ≤ j) × (j < m) × (w m ≡ w j)
      tail-stops i m l is up row = elim (cases_eq rest 0) [
        | inl none ↦
            let e : m ≡ walk.count = omega arith in
            absurd (end none (subst (λ x. 0 < get_or ups (w (x - 1)) 0) e up) (subst (λ x. 0 < get_or rows (w x) 0) e row))
        | inr more ↦
            let u = subst (λ x. 0 < get_or ups x 0) (on (m - 1) (rest - 1) (omega arith)) up in
            let r = subst (λ x. 0 < get_or rows x 0) (on m rest is) row in
            let s = (k (omega arith)).stops u r in
            (walk.count + s.0, omega arith, (let q = s.1 in omega (arith, q)), on m rest is ∙ (s.2 ∙ sym (on (walk.count + s.0) s.0 refl)))
      ]

      tail-counted : (i : ℕ) → i < walk.count → IsCounted ups rows (w i) (walk.count + rest - i)
      tail-counted i l =
          counted-from i (walk.count + rest - i)
          (λ j h. tail-linked (i + j) (omega arith))
          (λ j h. tail-rows (i + j) (omega arith))
          (λ a b h m. tail-apart (i + a) (i + b) (omega arith) (omega arith))
          (λ up row.
          let e : i + (walk.count + rest - i - 1) ≡ walk.count + rest - 1 = omega arith in
          let f : i + (walk.count + rest - i) ≡ walk.count + rest = omega arith in
          let s = tail-stops i (walk.count + rest) l refl (subst (λ x. 0 < get_or ups (w x) 0) e up) (subst (λ x. 0 < get_or rows (w x) 0) f row) in (
            s.0 - i,
            (let a = s.1 in let b = s.2 in omega (arith, a, b)),
            (let g : i + (s.0 - i) ≡ s.0 = let a = s.1 in omega (arith, a) in
                subst (λ x. w x ≡ w (i + (s.0 - i))) (sym f) (subst (λ x. w (walk.count + rest) ≡ w x) (sym g) s.3)),
          ))

    -- ---- the walk comes round again
    module _ (up : 0 < get_or ups (w (walk.count - 1)) 0) (lap : walk.lap < walk.count) (again : w walk.count ≡ w walk.lap) where
      -- the place of the walk where the member is met first
      met : (m : ℕ) → m < walk.count + walk.count - walk.lap → (j : ℕ) × (j < walk.count) × (w m ≡ w j) × (((m < walk.count) × (j ≡ m)) ⊎ ((walk.count ≤ m) × (j + walk.count ≡ walk.lap + m)))
      met m l = elim (cases_lt m walk.count) [
        | inl inner ↦ (m, inner, refl, inl (inner, refl))
        | inr outer ↦
            let e : walk.count + (m - walk.count) ≡ m = omega arith in (
              walk.lap + (m - walk.count),
              omega arith,
              subst (λ x. w x ≡ w (walk.lap + (m - walk.count))) e
                  (above-add ups start walk.count (m - walk.count) ∙ (ap (λ x. above ups (m - walk.count) x) again ∙ sym (above-add ups start walk.lap (m - walk.count)))),
              inr (outer, omega arith),
            )
      ]

      lap-linked : (m : ℕ) → m < walk.count → 0 < get_or ups (w m) 0
      lap-linked m l = elim (cases_lt (m + 1) walk.count) [
        | inl inner ↦ d.linked m inner
        | inr last ↦ let e : walk.count - 1 ≡ m = omega arith in subst (λ x. 0 < get_or ups (w x) 0) e up
      ]

      before-counted : (i : ℕ) → i ≤ walk.lap → IsCounted ups rows (w i) (walk.count - i)
      before-counted i l =
          counted-from i (walk.count - i)
          (λ j h. lap-linked (i + j) (omega arith))
          (λ j h. d.has_rows (i + j) (omega arith))
          (λ a b h m. d.apart (i + a) (i + b) (omega arith) (omega arith))
          (λ u row.
          let f : i + (walk.count - i) ≡ walk.count = omega arith in
          let g : i + (walk.lap - i) ≡ walk.lap = omega arith in
          (walk.lap - i, omega arith, subst (λ x. w x ≡ w (i + (walk.lap - i))) (sym f) (subst (λ x. w walk.count ≡ w x) (sym g) again)))

      within-counted : (i : ℕ) → walk.lap < i → i < walk.count → IsCounted ups rows (w i) (walk.count - walk.lap)
      within-counted i l h =
          counted-from i (walk.count - walk.lap)
          (λ j s. let q = met (i + j) (omega arith) in subst (λ x. 0 < get_or ups x 0) (sym q.2) (lap-linked q.0 q.1))
          (λ j s. let q = met (i + j) (omega arith) in subst (λ x. 0 < get_or rows x 0) (sym q.2) (d.has_rows q.0 q.1))
          (λ a b s m e.
          let p = met (i + a) (omega arith) in
          let q = met (i + b) (omega arith) in
          let ne : p.0 ≢ q.0 = λ z. round i a b p.0 q.0 l h s m p.3 q.3 z in
          differ p.0 q.0 p.1 q.1 ne (sym p.2 ∙ (e ∙ q.2)))
          (λ u row.
          let q = met (i + (walk.count - walk.lap)) (omega arith) in
          let z : i + 0 ≡ i = omega arith in (
            0,
            omega arith,
            elim q.3 [
              | inl inner ↦ absurd (let n = inner.0 in omega (arith, n))
              | inr outer ↦
                  let e : q.0 ≡ i + 0 = let y = outer.1 in omega (arith, y) in
                  q.2 ∙ ap w e
            ],
          ))
        where
          round : (i a b p q : ℕ) → walk.lap < i → i < walk.count → a < b → b < walk.count - walk.lap
              → (((i + a < walk.count) × (p ≡ i + a)) ⊎ ((walk.count ≤ i + a) × (p + walk.count ≡ walk.lap + (i + a))))
              → (((i + b < walk.count) × (q ≡ i + b)) ⊎ ((walk.count ≤ i + b) × (q + walk.count ≡ walk.lap + (i + b)))) → p ≡ q → ⊥
          round i a b p q l h s m (inl x) (inl y) e = let x1 = x.1 in let y1 = y.1 in omega (arith, x1, y1, e)
          round i a b p q l h s m (inl x) (inr y) e = let x1 = x.1 in let y1 = y.1 in omega (arith, x1, y1, e)
          round i a b p q l h s m (inr x) (inl y) e = let x0 = x.0 in let y0 = y.0 in omega (arith, x0, y0)
          round i a b p q l h s m (inr x) (inr y) e = let x1 = x.1 in let y1 = y.1 in omega (arith, x1, y1, e)

    -- ---- what is counted then
    module _ (after : List ℕ) (f : IsFilled ups lengths after start walk walk.count) (ends : EndsAs ups rows lengths start walk) where
      here-some : (i : ℕ) → i < walk.count → 0 < get_or after (w i) 0
      here-some i l = let h = f.here i l in let s : min i walk.lap ≤ i = omega arith in omega (arith, h, s)

      grows : (member : ℕ) → 0 < get_or lengths member 0 → 0 < get_or after member 0
      grows member long = elim (among walk.count member) [
        | inl h ↦ subst (λ m. 0 < get_or after m 0) (sym h.2) (here-some h.0 h.1)
        | inr none ↦ let o = f.others member none in omega (arith, o, long)
      ]

      -- a chain behind the walk, or none
      chain-behind : (q : ℕ) → w walk.count ≡ q → (j : ℕ) → j < get_or lengths q 0 → 0 < get_or lengths (w (walk.count + j)) 0
      chain-behind q is j l = subst (λ m. 0 < get_or lengths m 0) (sym (above-add ups start walk.count j ∙ ap (λ m. above ups j m) is)) (c.closed q j l)

      members-counted : (i : ℕ) → i < walk.count → IsCounted ups rows (w i) (walk.behind + (walk.count - min i walk.lap))
      members-counted i l = elim ends [
        | inl top ↦
            let b = top.1 in
            let p = top.2 in
            let e : walk.count + 0 - i ≡ walk.behind + (walk.count - min i walk.lap) = omega (arith, b, p) in
            subst (IsCounted ups rows (w i)) e
            (tail-counted 0 (λ j h. absurd (omega (arith, h))) (λ j h. absurd (omega (arith, h))) (λ h. absurd (omega (arith, h))) (λ z u r. let t = top.0 in omega (arith, t, u)) i l)
        | inr more ↦ elim more [
          | inl known ↦
              let b = known.2 in
              let p = known.3 in
              let e : walk.count + get_or lengths (w walk.count) 0 - i ≡ walk.behind + (walk.count - min i walk.lap) = omega (arith, b, p) in
              subst (IsCounted ups rows (w i)) e
              (tail-counted (get_or lengths (w walk.count) 0) (chain-behind (w walk.count) refl) (λ j h. inr known.0) (c.counted (w walk.count))
              (λ z u r. elim known.1 [
                | inl rowless ↦ omega (arith, rowless, r)
                | inr long ↦ omega (arith, long, z)
              ]) i l)
          | inr round ↦
              let b = round.2 in
              elim (cases_lt walk.lap i) [
                | inl inside ↦
                    let e : walk.count - walk.lap ≡ walk.behind + (walk.count - min i walk.lap) = omega (arith, b) in
                    subst (IsCounted ups rows (w i)) e (within-counted round.0 round.1 round.3 i inside l)
                | inr before ↦
                    let e : walk.count - i ≡ walk.behind + (walk.count - min i walk.lap) = omega (arith, b) in
                    subst (IsCounted ups rows (w i)) e (before-counted round.0 round.1 round.3 i before)
              ]
        ]
      ]

      members-closed : (i j : ℕ) → i < walk.count → j < walk.behind + (walk.count - min i walk.lap) → 0 < get_or after (above ups j (w i)) 0
      members-closed i j l h =
          subst (λ m. 0 < get_or after m 0) (above-add ups start i j) (elim (cases_lt (i + j) walk.count) [
            | inl inner ↦ here-some (i + j) inner
            | inr outer ↦ elim ends [
              | inl top ↦ let b = top.1 in let p = top.2 in absurd (omega (arith, b, p, h))
              | inr more ↦ elim more [
                | inl known ↦
                    let b = known.2 in
                    let p = known.3 in
                    let e : walk.count + (i + j - walk.count) ≡ i + j = omega arith in
                    grows (w (i + j)) (subst (λ x. 0 < get_or lengths (w x) 0) e (chain-behind (w walk.count) refl (i + j - walk.count) (omega (arith, b, p, h))))
                | inr round ↦
                    let b = round.2 in
                    let lap = round.1 in
                    let q = met round.0 round.1 round.3 (i + j) (omega (arith, b, h, lap)) in
                    subst (λ m. 0 < get_or after m 0) (sym q.2) (here-some q.0 q.1)
              ]
            ]
          ])

      behind-bound : walk.behind + zeros old ≤ length ups
      behind-bound = elim ends [
        | inl top ↦ let b = top.1 in let n = c.bound start in omega (arith, b, n)
        | inr more ↦ elim more [
          | inl known ↦ let b = known.2 in let n = c.bound (w walk.count) in omega (arith, b, n)
          | inr round ↦ let b = round.2 in let n = c.bound start in omega (arith, b, n)
        ]
      ]

      pub walk-counted : AreCounted ups rows after new (start + 1)
      walk-counted = record {
        lengths_len = f.len ∙ c.lengths_len;
        places_len = d.len ∙ c.places_len;
        counted = λ member long. elim (among walk.count member) [
          | inl h ↦
              let is = f.here h.0 h.1 in
              subst (λ m. IsCounted ups rows m (get_or after m 0)) (sym h.2) (subst (IsCounted ups rows (w h.0)) (sym is) (members-counted h.0 h.1))
          | inr none ↦
              let o = f.others member none in
              subst (IsCounted ups rows member) (sym o) (c.counted member (omega (arith, o, long)))
        ];
        closed = λ member i l. elim (among walk.count member) [
          | inl h ↦
              let is : get_or after member 0 ≡ walk.behind + (walk.count - min h.0 walk.lap) = ap (λ m. get_or after m 0) h.2 ∙ f.here h.0 h.1 in
              subst (λ m. 0 < get_or after (above ups i m) 0) (sym h.2) (members-closed h.0 i h.1 (omega (arith, is, l)))
          | inr none ↦ let o = f.others member none in grows (above ups i member) (c.closed member i (omega (arith, o, l)))
        ];
        rowless = λ member rowless. elim (among walk.count member) [
          | inl h ↦
              let r = d.has_rows h.0 h.1 in
              let s = subst (λ m. get_or rows m 0 ≡ 0) h.2 rowless in
              absurd (omega (arith, r, s))
          | inr none ↦ f.others member none ∙ c.rowless member rowless
        ];
        marked = λ member mark. elim (d.others member mark) [
          | inl before ↦ grows member (c.marked member before)
          | inr h ↦ subst (λ m. 0 < get_or after m 0) (sym h.2) (here-some h.0 h.1)
        ];
        bound = λ member.
            let z = d.zeros in
            elim (among walk.count member) [
              | inl h ↦
                  let is : get_or after member 0 ≡ walk.behind + (walk.count - min h.0 walk.lap) = ap (λ m. get_or after m 0) h.2 ∙ f.here h.0 h.1 in
                  let b = behind-bound in
                  omega (arith, is, b, z)
              | inr none ↦ let o = f.others member none in let n = c.bound member in omega (arith, o, n, z)
            ];
        done = λ member l row. elim (cases_lt member start) [
          | inl before ↦ grows member (c.done member before row)
          | inr last ↦
              let e : start ≡ member = omega arith in
              subst (λ m. 0 < get_or after m 0) (above-none ups start ∙ e) (here-some 0 some)
        ];
      }

-- the walk fits into the numbers
pub walk-fits : (ups rows lengths old new : List ℕ) (start : ℕ) (walk : Walk) → AreCounted ups rows lengths old start → IsWalked ups rows lengths old new start walk.count → EndsAs ups rows lengths start walk → walk.behind + walk.count ≤ length ups
walk-fits ups rows lengths old new start walk c d ends =
    let z = d.zeros in
    elim ends [
      | inl top ↦ let b = top.1 in let n = c.bound start in omega (arith, b, n, z)
      | inr more ↦ elim more [
        | inl known ↦ let b = known.2 in let n = c.bound (above ups walk.count start) in omega (arith, b, n, z)
        | inr round ↦ let b = round.2 in let n = c.bound start in omega (arith, b, n, z)
      ]
    ]

-- ---- the members of a walk are counted one by one

pub fill-none : (ups old : List ℕ) (start : ℕ) (walk : Walk) → IsFilled ups old old start walk 0
fill-none ups old start walk = record {
  len = refl;
  here = λ i l. absurd (omega (arith, l));
  others = λ member none. refl;
}

pub fill-more : (ups old now : List ℕ) (start at n : ℕ) (walk : Walk) → IsFilled ups old now start walk n → n < walk.count
    → at ≡ above ups n start → ((i : ℕ) → i < walk.count → above ups i start < length now)
    → ((i j : ℕ) → i < j → j < walk.count → above ups i start ≢ above ups j start)
    → IsFilled ups old (set now at (walk.behind + (walk.count - min n walk.lap))) start walk (n + 1)
fill-more ups old now start at n walk f l is within apart = record {
  len = length-set now at _ ∙ f.len;
  here = λ i li. elim (cases_lt i n) [
    | inl before ↦
        let ne : above ups i start ≢ at = λ e. apart i n before l (e ∙ is) in
        get_or-set_other now at (above ups i start) _ 0 ne ∙ f.here i before
    | inr last ↦
        let e : n ≡ i = omega arith in
        subst (λ k. get_or (set now at (walk.behind + (walk.count - min n walk.lap))) (above ups k start) 0 ≡ walk.behind + (walk.count - min k walk.lap)) e
        (subst (λ k. get_or (set now at (walk.behind + (walk.count - min n walk.lap))) k 0 ≡ walk.behind + (walk.count - min n walk.lap)) is
        (get_or-set_same now at _ 0 (subst (λ k. k < length now) (sym is) (within n l))))
  ];
  others = λ member none. get_or-set_other now at member _ 0 (λ e. none n (omega arith) (e ∙ is)) ∙ f.others member (λ i li. none i (omega (arith, li)));
}

-- ---- a walk goes on

pub walk-none : (ups rows lengths places : List ℕ) (start : ℕ) → IsWalked ups rows lengths places places start 0
walk-none ups rows lengths places start = record {
  len = refl;
  linked = λ i l. absurd (omega (arith, l));
  within = λ i l. absurd (omega (arith, l));
  has_rows = λ i l. absurd (omega (arith, l));
  uncounted = λ i l. absurd (omega (arith, l));
  apart = λ i j h l. absurd (omega (arith, l));
  marked = λ i l. absurd (omega (arith, l));
  others = λ member mark. inl mark;
  zeros = omega arith;
}

pub walk-more : (ups rows lengths old now : List ℕ) (start at n : ℕ) → IsWalked ups rows lengths old now start n
    → ((i : ℕ) → i < n → 0 < get_or ups (above ups i start) 0) → at ≡ above ups n start → at < length ups → length now ≡ length ups
    → 0 < get_or rows at 0 → get_or lengths at 0 ≡ 0 → get_or now at 0 ≡ 0
    → IsWalked ups rows lengths old (set now at (n + 1)) start (n + 1)
walk-more ups rows lengths old now start at n d linked is within len row fresh free =
    let in_now : at < length now = omega arith in
    let same : get_or (set now at (n + 1)) at 0 ≡ n + 1 = get_or-set_same now at (n + 1) 0 in_now in
    let ne : (i : ℕ) → i < n → above ups i start ≢ at = λ i l e.
    let m = d.marked i l in
    let z = subst (λ k. get_or now k 0 ≡ 0) (sym e) free in
    omega (arith, m, z) in
    record {
      len = length-set now at (n + 1) ∙ d.len;
      linked = λ i l. linked i (omega arith);
      within = λ i l. elim (cases_lt i n) [
        | inl before ↦ d.within i before
        | inr last ↦ let e : n ≡ i = omega arith in subst (λ k. above ups k start < length ups) e (subst (λ k. k < length ups) is within)
      ];
      has_rows = λ i l. elim (cases_lt i n) [
        | inl before ↦ d.has_rows i before
        | inr last ↦ let e : n ≡ i = omega arith in subst (λ k. 0 < get_or rows (above ups k start) 0) e (subst (λ k. 0 < get_or rows k 0) is row)
      ];
      uncounted = λ i l. elim (cases_lt i n) [
        | inl before ↦ d.uncounted i before
        | inr last ↦ let e : n ≡ i = omega arith in subst (λ k. get_or lengths (above ups k start) 0 ≡ 0) e (subst (λ k. get_or lengths k 0 ≡ 0) is fresh)
      ];
      apart = λ i j h l e. elim (cases_lt j n) [
        | inl before ↦ d.apart i j h before e
        | inr last ↦ let q : j ≡ n = omega arith in ne i (omega arith) (e ∙ (ap (λ k. above ups k start) q ∙ sym is))
      ];
      marked = λ i l. elim (cases_lt i n) [
        | inl before ↦ get_or-set_other now at (above ups i start) (n + 1) 0 (ne i before) ∙ d.marked i before
        | inr last ↦
            let e : n ≡ i = omega arith in
            subst (λ k. get_or (set now at (n + 1)) (above ups k start) 0 ≡ k + 1) e (subst (λ k. get_or (set now at (n + 1)) k 0 ≡ n + 1) is same)
      ];
      others = λ member mark. elim (cases_eq member at) [
        | inl same_one ↦ inr (n, omega arith, same_one ∙ is)
        | inr other ↦ elim (d.others member (λ z. mark (get_or-set_other now at member (n + 1) 0 other ∙ z))) [
          | inl before ↦ inl before
          | inr h ↦ inr (h.0, (let q = h.1 in omega (arith, q)), h.2)
        ]
      ];
      zeros = let z = zeros-set now at n in_now free in let q = d.zeros in omega (arith, z, q);
    }

-- a mark of the walk tells the place of its member
pub walk-met : (ups rows lengths old now : List ℕ) (start at n : ℕ) → AreCounted ups rows lengths old start → IsWalked ups rows lengths old now start n
    → get_or lengths at 0 ≡ 0 → get_or now at 0 ≢ 0 → (get_or now at 0 - 1 < n) × (at ≡ above ups (get_or now at 0 - 1) start)
walk-met ups rows lengths old now start at n c d fresh mark =
    elim (d.others at mark) [
      | inl before ↦ let m = c.marked at before in absurd (omega (arith, m, fresh))
      | inr h ↦
          let m : get_or now at 0 ≡ h.0 + 1 = ap (λ k. get_or now k 0) h.2 ∙ d.marked h.0 h.1 in
          let e : h.0 ≡ get_or now at 0 - 1 = omega (arith, m) in
          ((let l = h.1 in omega (arith, m, l)), subst (λ k. at ≡ above ups k start) e h.2)
    ]

pub unmarked-start : (ups rows lengths places : List ℕ) (count start : ℕ) → AreCounted ups rows lengths places count → get_or lengths start 0 ≡ 0 → get_or places start 0 ≡ 0
unmarked-start ups rows lengths places count start c fresh = elim (cases_eq (get_or places start 0) 0) [
  | inl none ↦ none
  | inr mark ↦ let m = c.marked start mark in absurd (omega (arith, m, fresh))
]

-- the walk ends before a member that is counted, or has no row
pub walk-known : (ups rows lengths : List ℕ) (start at n : ℕ) → at ≡ above ups n start → 0 < get_or ups at 0
    → (get_or rows (get_or ups at 0 - 1) 0 ≡ 0) ⊎ (0 < get_or lengths (get_or ups at 0 - 1) 0)
    → EndsAs ups rows lengths start (record { count = n + 1; behind = get_or lengths (get_or ups at 0 - 1) 0; lap = n + 1 })
walk-known ups rows lengths start at n is up known =
    let next : get_or ups at 0 - 1 ≡ above ups (n + 1) start = ap (λ m. get_or ups m 0 - 1) is ∙ sym (above-more ups n start) in
    let e : n ≡ n + 1 - 1 = omega arith in
    inr (inl (
      subst (λ k. 0 < get_or ups (above ups k start) 0) e (subst (λ m. 0 < get_or ups m 0) is up),
      subst (λ m. (get_or rows m 0 ≡ 0) ⊎ (0 < get_or lengths m 0)) next known,
      ap (λ m. get_or lengths m 0) next,
      refl,
    ))

-- the walk ends before one of its members
pub walk-round : (ups rows lengths : List ℕ) (start at n lap : ℕ) → at ≡ above ups n start → 0 < get_or ups at 0
    → (lap < n + 1) × (get_or ups at 0 - 1 ≡ above ups lap start)
    → EndsAs ups rows lengths start (record { count = n + 1; behind = 0; lap = lap })
walk-round ups rows lengths start at n lap is up met =
    let next : get_or ups at 0 - 1 ≡ above ups (n + 1) start = ap (λ m. get_or ups m 0 - 1) is ∙ sym (above-more ups n start) in
    let e : n ≡ n + 1 - 1 = omega arith in
    inr (inr (
      subst (λ k. 0 < get_or ups (above ups k start) 0) e (subst (λ m. 0 < get_or ups m 0) is up),
      met.0,
      refl,
      sym next ∙ met.1,
    ))

-- nothing is counted yet
pub none-counted : (ups rows : List ℕ) → AreCounted ups rows (replicate (length ups) 0) (replicate (length ups) 0) 0
none-counted ups rows =
    let all = zeros-at in
    record {
      lengths_len = length-replicate {A = ℕ} (length ups) 0;
      places_len = length-replicate {A = ℕ} (length ups) 0;
      counted = λ member long. let z = all (length ups) member in absurd (omega (arith, z, long));
      closed = λ member i l. let z = all (length ups) member in absurd (omega (arith, z, l));
      rowless = λ member r. all (length ups) member;
      marked = λ member mark. absurd (mark (all (length ups) member));
      bound = λ member.
          let z = all (length ups) member in
          let m = zeros-most (replicate (length ups) 0) in
          let l = length-replicate {A = ℕ} (length ups) 0 in
          omega (arith, z, m, l);
      done = λ member l. absurd (omega (arith, l));
    }
  where
    zeros-at : (n i : ℕ) → get_or (replicate {A = ℕ} n 0) i 0 ≡ 0
    zeros-at zero i = refl
    zeros-at (suc n) zero = refl
    zeros-at (suc n) (suc i) = zeros-at n i

-- a member that needs no count
pub count-skipped : (ups rows lengths places : List ℕ) (member : ℕ) → AreCounted ups rows lengths places member
    → (get_or rows member 0 ≡ 0) ⊎ (get_or lengths member 0 ≢ 0) → AreCounted ups rows lengths places (member + 1)
count-skipped ups rows lengths places member c why = record {
  lengths_len = c.lengths_len;
  places_len = c.places_len;
  counted = c.counted;
  closed = c.closed;
  rowless = c.rowless;
  marked = c.marked;
  bound = c.bound;
  done = below_more _ _ c.done (λ row. elim why [
    | inl rowless ↦ absurd (omega (arith, rowless, row))
    | inr long ↦ omega (arith, long)
  ]);
}
