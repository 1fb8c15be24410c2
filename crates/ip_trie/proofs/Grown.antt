-- A trie with one node more.
use Rattle.std.proofs.Common.{◌≡◌, ◌≢◌, ◌⊎◌, Bool, ℕ, zero, suc, ◌+◌, ◌-◌, ◌*◌, ◌%◌, ◌^◌, ◌<◌, ◌≤◌, List, ◌++◌, length, get_or, set, replicate, inl, inr, refl, arith, sym, ◌∙◌, ap, subst, get_or-set_same, get_or-set_other, length-set, length-append}
use Rattle.std.proofs.lemmas.Bool.{cases_eq, cases_lt}
use Rattle.std.proofs.lemmas.List.{get_or-append_right, get_or_append_left, get_or_past, length-replicate}
use Rattle.ip_trie.specs.Cells.{AreLeaves, EndsAtLevel, IsOfFamily, IsTrie, TellsBest, cells_below, blank, digit, leaf_at, level_of, next_at, node, cell_row, top}
use Rattle.ip_trie.specs.declared.cells.Cell.{Cell}
use Rattle.ip_trie.specs.declared.cells.Leaf.{Leaf}
use Rattle.ip_trie.specs.declared.cells.TheConstants.{TABLE}
use Rattle.ip_trie.specs.steps.Growing.{GrowsCells, IsGrown}
use Rattle.ip_trie.proofs.Bits.{digit-small, level-below, level-within, level-least, same-more, same-top}
use Rattle.ip_trie.proofs.Nodes.{below-none, below-some, next-past, node-agree, node-next, node-none, node-sound, node-suc, row-past}

-- ---- sixteen cells more, cells_below one

pub record IsOneMore (old : List Cell) (at : ℕ) (new : List Cell) : Type 0 where
  pub len : length new ≡ length old + 16
  pub here : next_at new at ≡ length old
  pub others : (i : ℕ) → i ≢ at → next_at new i ≡ next_at old i
  pub rows : (i : ℕ) → cell_row new i ≡ cell_row old i

blanks : (n i : ℕ) → get_or (replicate n blank) i blank ≡ blank
blanks zero i = refl
blanks (suc n) zero = refl
blanks (suc n) (suc i) = blanks n i

longer : (old : List Cell) (i : ℕ) → get_or (old ++ replicate 16 blank) i blank ≡ get_or old i blank
longer old i = elim (cases_lt i (length old)) [
  | inl less ↦ get_or_append_left old (replicate 16 blank) blank i less
  | inr most ↦ get_or-append_right old (replicate 16 blank) (length old) i blank refl most ∙ (blanks 16 (i - length old) ∙ sym (get_or_past old i blank most))
]

pub one-more : (old : List Cell) (at : ℕ) → at < length old → IsOneMore old at (set (old ++ replicate 16 blank) at (record (get_or old at blank) { next = length old }))
one-more old at l =
    let all = old ++ replicate 16 blank in
    let cell : Cell = record (get_or old at blank) { next = length old } in
    let len : length all ≡ length old + 16 = length-append old (replicate 16 blank) ∙ ap (λ n. length old + n) (length-replicate 16 blank) in
    let within : at < length all = omega (arith, len, l) in
    let same : get_or (set all at cell) at blank ≡ cell = get_or-set_same all at cell blank within in
    let other : (i : ℕ) → i ≢ at → get_or (set all at cell) i blank ≡ get_or old i blank = λ i ne. get_or-set_other all at i cell blank ne ∙ longer old i in
    record {
      len = length-set all at cell ∙ len;
      here = ap (λ (c : Cell). c.next) same;
      others = λ i ne. ap (λ (c : Cell). c.next) (other i ne);
      rows = λ i. elim (cases_eq i at) [
        | inl e ↦ subst (λ k. cell_row (set all at cell) k ≡ cell_row old k) (sym e) (ap (λ (c : Cell). c.row) same)
        | inr ne ↦ ap (λ (c : Cell). c.row) (other i ne)
      ];
    }

-- two cells of nodes that stand in sixteens
same-sixteen : (s t d e : ℕ) → s % 16 ≡ 0 → t % 16 ≡ 0 → d < 16 → e < 16 → s + d ≡ t + e → (s ≡ t) × (d ≡ e)
same-sixteen s t d e zs zt ld le is = (omega (arith, zs, zt, ld, le, is), omega (arith, zs, zt, ld, le, is))

module _ (leaves : List Leaf) (v6 : Bool) (n : ℕ) (sound : AreLeaves leaves) (old new : List Cell) (t : IsTrie leaves v6 n old) where
  old-sound : (bits level : ℕ) → node old bits level ≢ 0 → (TABLE ≤ node old bits level) × (node old bits level % 16 ≡ 0) × (node old bits level + 16 ≤ length old)
  old-sound = node-sound old t.size t.nexts

  -- a cell of a node is one way's
  pub one-way : (a b level other : ℕ) → a < 2 ^ 128 → b < 2 ^ 128 → level < 32 → other < 32 → node old a level ≢ 0 → node old b other ≢ 0
      → node old a level + digit level a ≡ node old b other + digit other b → (node old a level ≡ node old b other) × ((level ≡ other) × (top (4 * level) a ≡ top (4 * level) b) × (digit level a ≡ digit other b))
  one-way a b level other la lb ll lo sa sb is =
      let x = old-sound a level sa in
      let y = old-sound b other sb in
      let q = same-sixteen (node old a level) (node old b other) (digit level a) (digit other b) x.1 y.1 (digit-small level a) (digit-small other b) is in
      let p = t.apart a b level other la lb ll lo sa q.0 in
      (q.0, (p.0, p.1, q.1))

  module _ (row level : ℕ) (of : IsOfFamily leaves v6 row) (short : level < level_of (leaf_at leaves row).len)
      (some : node old (leaf_at leaves row).bits level ≢ 0)
      (free : next_at old (node old (leaf_at leaves row).bits level + digit level (leaf_at leaves row).bits) ≡ 0)
      (more : IsOneMore old (node old (leaf_at leaves row).bits level + digit level (leaf_at leaves row).bits) new) where
    abbrev x : ℕ
    x = (leaf_at leaves row).bits

    abbrev at : ℕ
    at = node old x level + digit level x

    low : level < 31
    low = let w = level-within (leaf_at leaves row).len (sound.len row) in omega (arith, w, short)

    at-within : at < length old
    at-within = let s = old-sound x level some in let s2 = s.2 in let d = digit-small level x in omega (arith, s2, d)

    -- the new node, or the old way
    abbrev NewWay : ℕ → ℕ → Type 0
    NewWay bits m = (m ≡ level + 1) × (top (4 * m) bits ≡ top (4 * m) x) × (node new bits m ≡ length old) × (node old bits m ≡ 0)

    ways : (bits m : ℕ) → bits < 2 ^ 128 → m ≤ 32 → (node new bits m ≡ node old bits m) ⊎ NewWay bits m
    ways bits zero l lm = inl (node-none new bits ∙ sym (node-none old bits))
    ways bits (suc m) l lm = elim (ways bits m l (omega arith)) [
      | inr made ↦
          let d = digit-small m bits in
          let here : node new bits (suc m) ≡ 0 =
          node-suc new bits m ∙ (ap (λ k. cells_below new k (digit m bits)) made.2
          ∙ (below-some new (length old) (digit m bits) (let s = t.size in λ z. omega (arith, s, z))
          ∙ (more.others (length old + digit m bits) (let w = at-within in λ z. omega (arith, w, z)) ∙ next-past old (length old + digit m bits) (omega arith)))) in
          let there : node old bits (suc m) ≡ 0 = node-suc old bits m ∙ below-none old (node old bits m) (digit m bits) made.3 in
          inl (here ∙ sym there)
      | inl same ↦
          let e : suc m ≡ m + 1 = omega arith in
          elim (cases_eq (node old bits m) 0) [
            | inl none ↦
                inl (node-suc new bits m ∙ (below-none new (node new bits m) (digit m bits) (same ∙ none) ∙ sym (node-suc old bits m ∙ below-none old (node old bits m) (digit m bits) none)))
            | inr there ↦
                let into : node new bits (suc m) ≡ next_at new (node old bits m + digit m bits) =
                node-suc new bits m ∙ (ap (λ k. cells_below new k (digit m bits)) same ∙ below-some new (node old bits m) (digit m bits) there) in
                let from : node old bits (suc m) ≡ next_at old (node old bits m + digit m bits) = node-suc old bits m ∙ below-some old (node old bits m) (digit m bits) there in
                elim (cases_eq (node old bits m + digit m bits) at) [
                  | inr ne ↦ inl (into ∙ (more.others (node old bits m + digit m bits) ne ∙ sym from))
                  | inl is ↦
                      let w = low in
                      let q = one-way bits x m level l (sound.small row) (omega arith) (omega (arith, w)) there some is in
                      let lv : m ≡ level = q.1.0 in
                      let same_digit : digit m bits ≡ digit m x = q.1.2 ∙ ap (λ k. digit k x) (sym lv) in
                      let s = same-more m bits x (omega arith) q.1.1 same_digit in
                      inr (
                        omega (arith, lv),
                        subst (λ k. top (4 * k) bits ≡ top (4 * k) x) (sym e) s,
                        into ∙ (ap (next_at new) is ∙ more.here),
                        from ∙ (ap (next_at old) is ∙ free),
                      )
                ]
          ]
    ]

    kept : (bits m : ℕ) → bits < 2 ^ 128 → m ≤ 32 → node old bits m ≢ 0 → node new bits m ≢ 0
    kept bits m l lm there none = elim (ways bits m l lm) [
      | inl same ↦ there (sym same ∙ none)
      | inr made ↦ let s = t.size in let q = made.2 in omega (arith, s, q, none)
    ]

    made-here : node new x (level + 1) ≡ length old
    made-here =
        let w = low in
        elim (ways x (level + 1) (sound.small row) (omega (arith, w))) [
          | inr made ↦ made.2
          | inl same ↦
              let old_way : node old x (level + 1) ≡ 0 = node-next old x level some ∙ free in
              let now : node new x (level + 1) ≡ next_at new (node new x level + digit level x) = node-next new x level (kept x level (sound.small row) (omega (arith, w)) some) in
              let base : node new x level ≡ node old x level = elim (ways x level (sound.small row) (omega (arith, w))) [
                | inl q ↦ q
                | inr q ↦ absurd (some q.3)
              ] in
              now ∙ (ap (λ k. next_at new (k + digit level x)) base ∙ more.here)
        ]

    pub grown-trie : IsTrie leaves v6 n new
    grown-trie = record {
      size = let s = t.size in let m = more.len in omega (arith, s, m);
      whole = let s = t.whole in let m = more.len in omega (arith, s, m);
      nexts = λ i there. elim (cases_eq i at) [
        | inl is ↦
            let e : next_at new i ≡ length old = ap (next_at new) is ∙ more.here in
            let s = t.size in
            let w = t.whole in
            let m = more.len in
            (omega (arith, e, s), omega (arith, e, w), omega (arith, e, m))
        | inr ne ↦
            let e = more.others i ne in
            let q = t.nexts i (λ z. there (e ∙ z)) in
            let q0 = q.0 in
            let q1 = q.1 in
            let q2 = q.2 in
            let m = more.len in
            (omega (arith, e, q0), omega (arith, e, q1), omega (arith, e, q2, m))
      ];
      rows = λ i. let r = more.rows i in let b = t.rows i in omega (arith, r, b);
      apart = λ a b l m la lb ll lm there same. elim (ways a l la (omega arith)) [
        | inl olda ↦ elim (ways b m lb (omega arith)) [
          | inl oldb ↦ t.apart a b l m la lb ll lm (λ z. there (olda ∙ z)) (sym olda ∙ (same ∙ oldb))
          | inr newb ↦
              let s = (old-sound a l (λ z. there (olda ∙ z))).2 in
              let q : node old a l ≡ length old = sym olda ∙ (same ∙ newb.2) in
              absurd (omega (arith, s, q))
        ]
        | inr newa ↦ elim (ways b m lb (omega arith)) [
          | inl oldb ↦
              let q : node old b m ≡ length old = sym oldb ∙ (sym same ∙ newa.2) in
              let z = t.size in
              let s = (old-sound b m (λ e. omega (arith, q, e, z))).2 in
              absurd (omega (arith, s, q))
          | inr newb ↦
              let e : l ≡ m = newa.0 ∙ sym newb.0 in
              (e, newa.1 ∙ sym (subst (λ k. top (4 * k) b ≡ top (4 * k) x) (sym e) newb.1))
        ]
      ];
      paths = λ r l less inside le.
          let w = level-within (leaf_at leaves r).len (sound.len r) in
          kept (leaf_at leaves r).bits l (sound.small r) (omega (arith, le, w)) (t.paths r l less inside le);
      used = λ bits l lb ll there. elim (ways bits (l + 1) lb (omega (arith, ll))) [
        | inl same ↦ t.used bits l lb ll (λ z. there (same ∙ z))
        | inr made ↦
            let e = made.0 in
            let b = level-below (leaf_at leaves row).len level short in
            (row, of, omega (arith, b, e), sym made.1)
      ];
      told = λ bits l lb ll there. elim (ways bits l lb (omega (arith, ll))) [
        | inl same ↦
            let r : cell_row new (node new bits l + digit l bits) ≡ cell_row old (node old bits l + digit l bits) =
            more.rows (node new bits l + digit l bits) ∙ ap (λ k. cell_row old (k + digit l bits)) same in
            subst (TellsBest leaves (EndsAtLevel leaves v6 n l bits)) (sym r) (t.told bits l lb ll (λ z. there (same ∙ z)))
        | inr made ↦
            let z : cell_row new (node new bits l + digit l bits) ≡ 0 =
            more.rows (node new bits l + digit l bits) ∙ row-past old (node new bits l + digit l bits) (let q = made.2 in omega (arith, q)) in
            inl (
              z,
              λ r (less, has, ends).
                  let m = level-least (leaf_at leaves r).len in
                  let there_old = t.paths r l less has.0 (omega (arith, ends)) in
                  let same = node-agree old (leaf_at leaves r).bits bits l (omega (arith, ll)) (same-top (4 * l) (leaf_at leaves r).len (leaf_at leaves r).bits bits (omega (arith, m, ends)) (sound.len r) has.1) in
                  there_old (same ∙ made.3),
            )
      ];
    }

    pub grown-way : IsGrown leaves v6 row level (node old x level) old → n ≡ row → IsGrown leaves v6 row (level + 1) (length old) new
    grown-way g e = record {
      trie = subst (λ k. IsTrie leaves v6 k new) e grown-trie;
      here = sym made-here;
      some = let s = t.size in λ z. omega (arith, s, z);
      way = λ above le. elim (cases_lt above (level + 1)) [
        | inl less ↦ let w = low in kept x above (sound.small row) (omega (arith, less, w)) (g.way above (omega (arith, less)))
        | inr last ↦
            let q : level + 1 ≡ above = omega (arith, le, last) in
            let s = t.size in
            subst (λ k. node new x k ≢ 0) q (λ z. let m = made-here in omega (arith, m, z, s))
      ];
    }

-- ---- the way of a row

pub way-start : (leaves : List Leaf) (v6 : Bool) (row : ℕ) (cells : List Cell) → IsTrie leaves v6 row cells → IsGrown leaves v6 row 0 TABLE cells
way-start leaves v6 row cells t = record {
  trie = t;
  here = sym (node-none cells (leaf_at leaves row).bits);
  some = λ z. omega (arith, z);
  way = λ above le z.
      let e : above ≡ 0 = omega (arith, le) in
      let n = node-none cells (leaf_at leaves row).bits in
      let q = subst (λ k. node cells (leaf_at leaves row).bits k ≡ 0) e z in
      omega (arith, n, q);
}

pub way-more : (leaves : List Leaf) (v6 : Bool) (row level start next : ℕ) (old new : List Cell) → AreLeaves leaves → IsOfFamily leaves v6 row → level < level_of (leaf_at leaves row).len
    → IsGrown leaves v6 row level start old → GrowsCells old (start + digit level (leaf_at leaves row).bits) new next → IsGrown leaves v6 row (level + 1) next new
way-more leaves v6 row level start next old new sound of short g (inl (some, same, is)) =
    let x = (leaf_at leaves row).bits in
    let there : node old x level ≢ 0 = λ z. g.some (g.here ∙ z) in
    let on : node old x (level + 1) ≡ next = node-next old x level there ∙ (ap (λ k. next_at old (k + digit level x)) (sym g.here) ∙ sym is) in
    let more : next ≢ 0 = λ z. some (sym is ∙ z) in
    subst (λ (c : List Cell). IsGrown leaves v6 row (level + 1) next c) (sym same) (record {
      trie = g.trie;
      here = sym on;
      some = more;
      way = λ above le. elim (cases_lt above (level + 1)) [
        | inl less ↦ g.way above (omega (arith, less))
        | inr last ↦ let e : level + 1 ≡ above = omega (arith, le, last) in subst (λ k. node old x k ≢ 0) e (λ z. more (sym on ∙ z))
      ];
    })
way-more leaves v6 row level start next old new sound of short g (inr (free, is, made)) =
    let x = (leaf_at leaves row).bits in
    let there : node old x level ≢ 0 = λ z. g.some (g.here ∙ z) in
    let s = (node-sound old g.trie.size g.trie.nexts x level there).2 in
    let d = digit-small level x in
    let within : node old x level + digit level x < length old = omega (arith, s, d) in
    let free_at : next_at old (node old x level + digit level x) ≡ 0 = ap (λ k. next_at old (k + digit level x)) (sym g.here) ∙ free in
    let cells : new ≡ set (old ++ replicate 16 blank) (node old x level + digit level x) (record (get_or old (node old x level + digit level x) blank) { next = length old }) =
    made ∙ ap (λ k. set (old ++ replicate 16 blank) (k + digit level x) (record (get_or old (k + digit level x) blank) { next = length old })) g.here in
    let more = subst (IsOneMore old (node old x level + digit level x)) (sym cells) (one-more old (node old x level + digit level x) within) in
    let grown = grown-way leaves v6 row sound old new g.trie row level of short there free_at more (subst (λ k. IsGrown leaves v6 row level k old) g.here g) refl in
    subst (λ k. IsGrown leaves v6 row (level + 1) k new) (sym is) grown

pub way-room : (leaves : List Leaf) (v6 : Bool) (row level start : ℕ) (cells : List Cell) → IsGrown leaves v6 row level start cells → start + 16 ≤ length cells
way-room leaves v6 row level start cells g =
    let s = (node-sound cells g.trie.size g.trie.nexts (leaf_at leaves row).bits level (λ z. g.some (g.here ∙ z))).2 in
    let h = g.here in
    omega (arith, s, h)
