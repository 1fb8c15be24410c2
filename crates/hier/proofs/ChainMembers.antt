-- The members of a chain.
use Rattle.std.specs.Prelude.{Contains}
use Rattle.std.specs.List.{range_with_len, slice_get}
use Rattle.std.proofs.Common.{◌≡◌, ◌≢◌, ℕ, zero, suc, ◌+◌, ◌-◌, ◌^◌, ◌<◌, ◌≤◌, List, [], ◌∷◌, ◌++◌, length, map, get_or, Some, inl, inr, refl, ap, arith, sym, ◌∙◌, subst}
use Rattle.std.proofs.lemmas.Bool.{cases_eq, cases_lt}
use Rattle.std.proofs.lemmas.List.FromFn.{get_or-map-range_with_len, length-map-range_with_len, map-range_with_len_more}
use Rattle.std.proofs.lemmas.Option.{slice_get_within}
use Rattle.hier.specs.Hierarchy.{HasRow, IsChain, IsIn, IsParent, LongChainHas}
use Rattle.hier.specs.Kept.{IsHierOf}
use Rattle.hier.specs.Members.{Reaches, above}
use Rattle.hier.specs.declared.hier.Hier.{Hier}
use Rattle.hier.specs.declared.hier.Parent.{Parent}
use Rattle.hier.proofs.Above.{above-front, above-more, above-none}
use Rattle.hier.proofs.Chains.{chain-one, parent-one, parent-row}
use Rattle.hier.proofs.Lists.{at-get, contains-get, get-contains, rises-one}

-- the keys of the first members of a walk
abbrev pub walk_keys : List ℕ → List ℕ → ℕ → ℕ → List ℕ
walk_keys members ups start count = map (λ i. get_or members (above ups i start) 0) (range_with_len 0 count)

module _ (keys : List ℕ) (parents : List Parent) (hier : Hier) (h : IsHierOf keys parents hier) where
  abbrev size : ℕ
  size = length hier.members.items

  abbrev key_at : ℕ → ℕ
  key_at member = get_or hier.members.items member 0

  abbrev up : ℕ → ℕ
  up member = get_or hier.ups.items member 0

  abbrev len : ℕ → ℕ
  len member = get_or hier.lengths.items member 0

  abbrev w : ℕ → ℕ → ℕ
  w start i = above hier.ups.items i start

  -- the members above one
  above-within : (start i : ℕ) → start < size → ((j : ℕ) → j < i → 0 < up (w start j)) → w start i < size
  above-within start zero l links = subst (λ m. m < size) (sym (above-none hier.ups.items start)) l
  above-within start (suc i) l links =
      let e : suc i ≡ i + 1 = omega arith in
      let m = above-more hier.ups.items i start in
      let u = links i (omega arith) in
      let most = hier.sound.up (w start i) in
      subst (λ k. w start k < size) (sym e) (omega (arith, m, u, most))

  above-is : (start i : ℕ) → 0 < up (w start i) → up (w start i) ≡ w start (i + 1) + 1
  above-is start i u = let m = above-more hier.ups.items i start in omega (arith, m, u)

  -- a member with a parent has a row
  linked-row : (member : ℕ) → member < size → 0 < up member → 0 < len member
  linked-row member l u =
      let e : up member ≡ up member - 1 + 1 = omega (arith, u) in
      let row = parent-row keys parents (key_at member) _ (h.up member (up member - 1) l e) in
      elim (cases_eq (len member) 0) [
        | inl none ↦ absurd (h.rowless member l none row)
        | inr some ↦ omega (arith, some)
      ]

  row-len : (member : ℕ) → member < size → HasRow keys (key_at member) → 0 < len member
  row-len member l row = elim (cases_eq (len member) 0) [
    | inl none ↦ absurd (h.rowless member l none row)
    | inr some ↦ omega (arith, some)
  ]

  member-one : (a b : ℕ) → a < size → b < size → key_at a ≡ key_at b → a ≡ b
  member-one a b la lb e = rises-one hier.members.items a b h.rising la lb e

  -- the parent of a member is the one above it
  parent-above : (start i p : ℕ) → w start i < size → IsParent keys parents (key_at (w start i)) p → (0 < up (w start i)) × (p ≡ key_at (w start (i + 1)))
  parent-above start i p l is = elim (cases_eq (up (w start i)) 0) [
    | inl top ↦ absurd (h.top (w start i) p l top is)
    | inr some ↦
        let u : 0 < up (w start i) = omega (arith, some) in
        (u, parent-one keys parents (key_at (w start i)) p (key_at (w start (i + 1))) is (h.up (w start i) (w start (i + 1)) l (above-is start i u)))
  ]

  -- the keys of a chain
  abbrev chain_of : ℕ → List ℕ
  chain_of start = walk_keys hier.members.items hier.ups.items start (len start)

  chain-len : (start : ℕ) → length (chain_of start) ≡ len start
  chain-len start = length-map-range_with_len (λ i. key_at (w start i)) 0 (len start)

  chain-at : (start i : ℕ) → i < len start → slice_get (chain_of start) i ≡ Some (key_at (w start i))
  chain-at start i l =
      at-get (chain_of start) i (key_at (w start i)) (let n = chain-len start in omega (arith, n, l))
      (get_or-map-range_with_len (λ j. key_at (w start j)) 0 (len start) i i 0 l (omega arith))

  chain-in : (start i m : ℕ) → slice_get (chain_of start) i ≡ Some m → (i < len start) × (m ≡ key_at (w start i))
  chain-in start i m is =
      let l : i < len start = let s = slice_get_within (chain_of start) i m is in let n = chain-len start in omega (arith, s, n) in
      let at = chain-at start i l in
      (l, cc (is, at))

  module _ (start : ℕ) (inside : start < size) where
    links : (i : ℕ) → i + 1 < len start → 0 < up (w start i)
    links i l = hier.sound.linked start i l

    w-within : (i : ℕ) → i < len start → w start i < size
    w-within i l = above-within start i inside (λ j less. links j (omega arith))

    pub chain-is : IsChain keys parents (key_at start) (chain_of start)
    chain-is = record {
      none = λ rowless. elim (cases_eq (len start) 0) [
        | inl zero_len ↦ subst (λ n. walk_keys hier.members.items hier.ups.items start n ≡ []) (sym zero_len) refl
        | inr some ↦ absurd (rowless (h.row start inside (omega (arith, some))))
      ];
      begins = λ row. chain-at start 0 (row-len start inside row) ∙ ap (λ m. Some (key_at m)) (above-none hier.ups.items start);
      rows = λ i m is.
          let q = chain-in start i m is in
          let long : 0 < len start = let a = q.0 in omega (arith, a) in
          subst (HasRow keys) (sym q.1) (h.row (w start i) (w-within i q.0) ((h.counted start inside long).has_rows i q.0));
      goes = λ i m n is next.
          let q = chain-in start i m is in
          let r = chain-in start (i + 1) n next in
          let p = h.up (w start i) (w start (i + 1)) (w-within i q.0) (above-is start i (links i r.0)) in
          subst (λ k. IsParent keys parents k n) (sym q.1) (subst (λ k. IsParent keys parents (key_at (w start i)) k) (sym r.1) p);
      apart = λ i j m a b.
          let q = chain-in start i m a in
          let r = chain-in start j m b in
          let long : 0 < len start = let z = q.0 in omega (arith, z) in
          let e = member-one (w start i) (w start j) (w-within i q.0) (w-within j r.0) (sym q.1 ∙ r.1) in
          elim (cases_lt i j) [
            | inl less ↦ absurd ((h.counted start inside long).apart i j less r.0 e)
            | inr most ↦ elim (cases_lt j i) [
              | inl less ↦ absurd ((h.counted start inside long).apart j i less q.0 (sym e))
              | inr same ↦ omega arith
            ]
          ];
      stops = λ last p is parent row.
          let q = chain-in start (length (chain_of start) - 1) last is in
          let n = chain-len start in
          let long : 0 < len start = let z = q.0 in omega (arith, z) in
          let i : length (chain_of start) - 1 ≡ len start - 1 = omega (arith, n) in
          let l : len start - 1 < len start = omega (arith, long) in
          let e : last ≡ key_at (w start (len start - 1)) = q.1 ∙ ap (λ k. key_at (w start k)) i in
          let above_last = parent-above start (len start - 1) p (w-within (len start - 1) l) (subst (λ k. IsParent keys parents k p) e parent) in
          let f : len start - 1 + 1 ≡ len start = omega (arith, long) in
          let pk : p ≡ key_at (w start (len start)) = above_last.1 ∙ ap (λ k. key_at (w start k)) f in
          let there : w start (len start) < size = above-within start (len start) inside (λ j less. elim (cases_lt (j + 1) (len start)) [
            | inl inner ↦ links j inner
            | inr edge ↦ let g : len start - 1 ≡ j = omega arith in subst (λ k. 0 < up (w start k)) g above_last.0
          ]) in
          let s = (h.counted start inside long).stops above_last.0 (row-len (w start (len start)) there (subst (HasRow keys) pk row)) in
          get-contains (chain_of start) s.0 p (chain-at start s.0 s.1 ∙ ap Some (ap key_at (sym s.2) ∙ sym pk));
    }

    -- ---- the member at a level

    climbs : (of level other : ℕ) → Reaches hier.ups.items of level other
        → ((i : ℕ) → i < level → 0 < up (w other i)) × ((i : ℕ) → i < level → w other i ≢ of) × (w other level ≡ of)
    climbs of zero other r = (λ i l. absurd (omega (arith, l)), λ i l. absurd (omega (arith, l)), above-none hier.ups.items other ∙ r)
    climbs of (suc level) other r =
        let next = up other - 1 in
        let below = climbs of level next r.3 in
        let step : (i : ℕ) → w other (suc i) ≡ w next i = λ i. above-front hier.ups.items other i in (
          λ i l. first (λ k. 0 < up (w other k)) i level (subst (λ m. 0 < up m) (sym (above-none hier.ups.items other)) r.2) (λ k less. subst (λ m. 0 < up m) (sym (step k)) (below.0 k less)) l,
          λ i l. first (λ k. w other k ≢ of) i level (λ e. r.0 (sym (above-none hier.ups.items other) ∙ e)) (λ k less e. below.1 k less (sym (step k) ∙ e)) l,
          step level ∙ below.2,
        )
      where
        first : (P : ℕ → Type 0) (i level : ℕ) → P 0 → ((k : ℕ) → k < level → P (suc k)) → i < suc level → P i
        first P zero level here more l = here
        first P (suc i) level here more l = more i (omega arith)

    reach : (of level other : ℕ) → other < size → ((i : ℕ) → i < level → 0 < up (w other i)) → ((i : ℕ) → i < level → w other i ≢ of) → w other level ≡ of
        → Reaches hier.ups.items of level other
    reach of zero other l up_all new at = sym (above-none hier.ups.items other) ∙ at
    reach of (suc level) other l up_all new at =
        let next = up other - 1 in
        let step : (i : ℕ) → w other (suc i) ≡ w next i = λ i. above-front hier.ups.items other i in
        let u : 0 < up other = subst (λ m. 0 < up m) (above-none hier.ups.items other) (up_all 0 (omega arith)) in
        let most = hier.sound.up other in
        let n = hier.sound.ups_len in (
          λ e. new 0 (omega arith) (above-none hier.ups.items other ∙ e),
          omega (arith, l, n),
          u,
          reach of level next (omega (arith, u, most))
              (λ i less. subst (λ m. 0 < up m) (step i) (up_all (suc i) (omega arith)))
              (λ i less e. new (suc i) (omega arith) (step i ∙ e))
              (sym (step level) ∙ at),
        )

    -- a walk that comes round goes round
    rounds : (j m : ℕ) → j < len start → w start (len start) ≡ w start j → (k : ℕ) × (k < len start) × (w start (len start + m) ≡ w start k)
    rounds j zero l again =
        let e : len start ≡ len start + 0 = omega arith in
        (j, l, subst (λ n. w start n ≡ w start j) e again)
    rounds j (suc m) l again =
        let before = rounds j m l again in
        let e : len start + m + 1 ≡ len start + suc m = omega arith in
        let next : w start (len start + m + 1) ≡ w start (before.0 + 1) =
        above-more hier.ups.items (len start + m) start ∙ (ap (λ k. up k - 1) before.2 ∙ sym (above-more hier.ups.items before.0 start)) in
        elim (cases_lt (before.0 + 1) (len start)) [
          | inl inner ↦ (before.0 + 1, inner, subst (λ n. w start n ≡ w start (before.0 + 1)) e next)
          | inr edge ↦
              let f : before.0 + 1 ≡ len start = let q = before.1 in omega (arith, q, edge) in
              (j, l, subst (λ n. w start n ≡ w start j) e (next ∙ (ap (w start) f ∙ again)))
        ]

    -- a member that is reached for the first time isn't behind the long chain
    level-most : (of level : ℕ) → 0 < level → Reaches hier.ups.items of level start → level ≤ len start
    level-most of level some r =
        let c = climbs of level start r in
        let first : 0 < up start = subst (λ m. 0 < up m) (above-none hier.ups.items start) (c.0 0 some) in
        let long = linked-row start inside first in
        elim (cases_lt (len start) level) [
          | inr most ↦ most
          | inl more ↦
              let there : w start (len start) < size = above-within start (len start) inside (λ j less. c.0 j (omega arith)) in
              let row = linked-row (w start (len start)) there (c.0 (len start) more) in
              let s = (h.counted start inside long).stops (c.0 (len start - 1) (omega arith)) row in
              let k = rounds s.0 (level - len start) s.1 s.2 in
              let e : len start + (level - len start) ≡ level = omega arith in
              absurd (c.1 k.0 (let q = k.1 in omega (arith, q, more)) (sym k.2 ∙ (ap (w start) e ∙ c.2)))
        ]

    pub has-from : (of level : ℕ) → of < size → 0 < level → Reaches hier.ups.items of level start → LongChainHas keys parents (key_at start) level (key_at of)
    has-from of level lo some r =
        let c = climbs of level start r in
        let most = level-most of level some r in (
          chain_of start,
          chain-is,
          elim (cases_lt level (len start)) [
            | inl inner ↦ inl (chain-at start level inner ∙ ap (λ m. Some (key_at m)) c.2)
            | inr edge ↦
                let e : level ≡ len start = omega (arith, most, edge) in
                let n = chain-len start in
                let l : level - 1 < len start = omega (arith, some, e) in
                let back : level - 1 + 1 ≡ level = omega (arith, some) in
                let i : level - 1 ≡ length (chain_of start) - 1 = omega (arith, n, e) in
                let u : 0 < up (w start (level - 1)) = c.0 (level - 1) (omega (arith, some)) in
                let p : IsParent keys parents (key_at (w start (level - 1))) (key_at of) =
                subst (λ m. IsParent keys parents (key_at (w start (level - 1))) (key_at m)) (ap (w start) back ∙ c.2)
                (h.up (w start (level - 1)) (w start (level - 1 + 1)) (w-within (level - 1) l) (above-is start (level - 1) u)) in
                let long : 0 < len start = omega (arith, some, e) in
                inr (
                  omega (arith, n, e),
                  λ row.
                      let end : w start (len start) ≡ of = ap (w start) (sym e) ∙ c.2 in
                      let u2 : 0 < up (w start (len start - 1)) = subst (λ k. 0 < up (w start (k - 1))) e u in
                      let s = (h.counted start inside long).stops u2 (subst (λ m. 0 < len m) (sym end) (row-len of lo row)) in
                      c.1 s.0 (let q = s.1 in omega (arith, q, e)) (sym s.2 ∙ end),
                  (key_at (w start (level - 1)), subst (λ k. slice_get (chain_of start) k ≡ Some (key_at (w start (level - 1)))) i (chain-at start (level - 1) l), p),
                )
          ],
        )

    pub has-to : (of level : ℕ) → of < size → 0 < level → LongChainHas keys parents (key_at start) level (key_at of) → Reaches hier.ups.items of level start
    has-to of level lo some (chain, is, how) =
        let same : chain ≡ chain_of start = chain-one keys parents (key_at start) chain (chain_of start) is chain-is in
        elim how [
          | inl here ↦
              let q = chain-in start level (key_at of) (subst (λ (z : List ℕ). slice_get z level ≡ Some (key_at of)) same here) in
              let at : w start level ≡ of = member-one (w start level) of (w-within level q.0) lo (sym q.1) in
              let long : 0 < len start = let z = q.0 in omega (arith, z) in
              reach of level start inside
              (λ i l. links i (let z = q.0 in omega (arith, z, l)))
              (λ i l e. (h.counted start inside long).apart i level l q.0 (e ∙ sym at))
              at
          | inr end ↦
              let n = chain-len start in
              let ls : length chain ≡ length (chain_of start) = ap length same in
              let lev : level ≡ len start = let z = end.0 in omega (arith, z, n, ls) in
              let i : length chain - 1 ≡ len start - 1 = omega (arith, n, ls) in
              let last = end.2 in
              let got : slice_get (chain_of start) (len start - 1) ≡ Some last.0 =
              subst (λ (z : List ℕ). slice_get z (len start - 1) ≡ Some last.0) same (subst (λ k. slice_get chain k ≡ Some last.0) i last.1) in
              let q = chain-in start (len start - 1) last.0 got in
              let p = parent-above start (len start - 1) (key_at of) (w-within (len start - 1) q.0) (subst (λ k. IsParent keys parents k (key_at of)) q.1 last.2) in
              let back : len start - 1 + 1 ≡ level = omega (arith, some, lev) in
              let all_up : (j : ℕ) → j < level → 0 < up (w start j) = λ j less. elim (cases_lt (j + 1) (len start)) [
                | inl inner ↦ links j inner
                | inr edge ↦ let g : len start - 1 ≡ j = omega (arith, edge, less, lev) in subst (λ k. 0 < up (w start k)) g p.0
              ] in
              let there : w start level < size = above-within start level inside all_up in
              let at : w start level ≡ of = sym (member-one of (w start level) lo there (p.1 ∙ ap (λ k. key_at (w start k)) back)) in
              let long : 0 < len start = omega (arith, some, lev) in
              reach of level start inside all_up
              (λ j less e.
              let r = (h.counted start inside long).has_rows j (omega (arith, less, lev)) in
              end.1 (h.row of lo (subst (λ m. 0 < len m) e r)))
              at
        ]

    pub level-short : (of level : ℕ) → 0 < level → Reaches hier.ups.items of level start → level < 2 ^ 32
    level-short of level some r =
        let a = level-most of level some r in
        let b = hier.sound.most start in
        let c = hier.sound.small in
        omega (arith, a, b, c)

-- a key that is no member has no chain
pub no-chain : (keys : List ℕ) (parents : List Parent) (hier : Hier) → IsHierOf keys parents hier → (key : ℕ) (chain : List ℕ) → ¬ (Contains hier.members.items key) → chain ≡ [] → IsChain keys parents key chain
no-chain keys parents hier h key chain other empty =
    let P : List ℕ → Type 0 = IsChain keys parents key in
    let none : ¬ (HasRow keys key) = λ row. other (h.each key row) in
    subst P (sym empty) (record {
      none = λ rowless. refl;
      begins = λ row. absurd (none row);
      rows = λ i m is. absurd (cc (is));
      goes = λ i m n is. absurd (cc (is));
      apart = λ i j m is. absurd (cc (is));
      stops = λ last p is. absurd (cc (is));
    })

pub walk_keys-more : (members ups : List ℕ) (start at count : ℕ) → at ≡ above ups count start → walk_keys members ups start (count + 1) ≡ walk_keys members ups start count ++ get_or members at 0 ∷ []
walk_keys-more members ups start at count is =
    map-range_with_len_more (λ i. get_or members (above ups i start) 0) 0 count count (omega arith)
    ∙ ap (λ m. walk_keys members ups start count ++ get_or members m 0 ∷ []) (sym is)

module _ (keys : List ℕ) (parents : List Parent) (hier : Hier) (h : IsHierOf keys parents hier) (start : ℕ) (inside : start < length hier.members.items) where
  -- a member of the chain is in it
  pub in-from : (ancestor place : ℕ) → place < get_or hier.lengths.items start 0 → get_or hier.members.items (above hier.ups.items place start) 0 ≡ ancestor → IsIn keys parents (get_or hier.members.items start 0) ancestor
  in-from ancestor place l is =
      (chain_of keys parents hier h start, chain-is keys parents hier h start inside, get-contains (chain_of keys parents hier h start) place ancestor (chain-at keys parents hier h start place l ∙ ap Some is))

  -- a key in the chain is one of its members
  pub in-to : (ancestor : ℕ) → IsIn keys parents (get_or hier.members.items start 0) ancestor → (place : ℕ) × (place < get_or hier.lengths.items start 0) × (get_or hier.members.items (above hier.ups.items place start) 0 ≡ ancestor)
  in-to ancestor (chain, is, has) =
      let same = chain-one keys parents (get_or hier.members.items start 0) chain (chain_of keys parents hier h start) is (chain-is keys parents hier h start inside) in
      let at = contains-get (chain_of keys parents hier h start) ancestor (subst (λ (z : List ℕ). Contains z ancestor) same has) in
      let q = chain-in keys parents hier h start at.0 ancestor at.1 in
      (at.0, q.0, sym q.1)

-- a key that is no member has nothing in its chain
pub in-none : (keys : List ℕ) (parents : List Parent) (hier : Hier) → IsHierOf keys parents hier → (key ancestor : ℕ) → ¬ (Contains hier.members.items key) → IsIn keys parents key ancestor → ⊥
in-none keys parents hier h key ancestor other (chain, is, has) =
    let empty = is.none (λ row. other (h.each key row)) in
    let at = contains-get [] ancestor (subst (λ (z : List ℕ). Contains z ancestor) empty has) in
    let e = at.1 in
    cc (e)
