-- A trie with a row more.
use Rattle.std.proofs.Common.{◌≡◌, ◌≢◌, ◌⊎◌, Bool, ℕ, ◌+◌, ◌-◌, ◌*◌, ◌^◌, ◌<◌, ◌≤◌, List, inl, inr, arith, sym, ◌∙◌, ap, subst}
use Rattle.std.proofs.lemmas.Bool.{cases_eq, cases_lt}
use Rattle.ip_trie.specs.Cells.{AreLeaves, EndsAtLevel, IsOfFamily, IsTrie, TellsBest, digit, leaf_at, level_of, node, cell_row, top}
use Rattle.ip_trie.specs.declared.cells.Cell.{Cell}
use Rattle.ip_trie.specs.declared.cells.Leaf.{Leaf}
use Rattle.ip_trie.specs.steps.Growing.{AreBettered, IsGrown}
use Rattle.ip_trie.proofs.Bits.{covered-from, covered-to, covered-within, digit-small, level-within}
use Rattle.ip_trie.proofs.Nodes.{node-agree, node-same, node-sound}
use Rattle.ip_trie.proofs.Tells.{tells-bettered, tells-same}

-- a row of the other family
pub other-family : (leaves : List Leaf) (v6 : Bool) (n : ℕ) (cells : List Cell) → ¬ (IsOfFamily leaves v6 n) → IsTrie leaves v6 n cells → IsTrie leaves v6 (n + 1) cells
other-family leaves v6 n cells other t = record {
  size = t.size;
  whole = t.whole;
  nexts = t.nexts;
  rows = λ i. let r = t.rows i in omega (arith, r);
  apart = t.apart;
  paths = λ row level l inside le. elim (cases_eq row n) [
    | inl same ↦ absurd (other (subst (IsOfFamily leaves v6) same inside))
    | inr ne ↦ t.paths row level (omega (arith, l, ne)) inside le
  ];
  used = t.used;
  told = λ bits level lb ll there. tells-same leaves v6 n level bits _ (t.told bits level lb ll there) (λ e. other e.1.0);
}

module _ (leaves : List Leaf) (v6 : Bool) (n level start : ℕ) (sound : AreLeaves leaves) (old new : List Cell) (of : IsOfFamily leaves v6 n)
    (lv : level ≡ level_of (leaf_at leaves n).len) (g : IsGrown leaves v6 n level start old)
    (b : AreBettered leaves n (start + digit level (leaf_at leaves n).bits) (start + digit level (leaf_at leaves n).bits + 2 ^ (4 * level + 4 - (leaf_at leaves n).len)) old new) where
  abbrev x : ℕ
  x = (leaf_at leaves n).bits

  abbrev width : ℕ
  width = 2 ^ (4 * level + 4 - (leaf_at leaves n).len)

  t : IsTrie leaves v6 n old
  t = g.trie

  ll : level < 32
  ll = let w = level-within (leaf_at leaves n).len (sound.len n) in omega (arith, w, lv)

  there : node old x level ≢ 0
  there z = g.some (g.here ∙ z)

  within : digit level x + width ≤ 16
  within = covered-within (leaf_at leaves n).len level x 0 ll lv (sound.len n) (sound.cleared n)

  same : (bits m : ℕ) → node new bits m ≡ node old bits m
  same bits m = node-same old new bits m (λ i l. b.nexts i) (λ k some. (node-sound old t.size t.nexts bits k some).0)

  -- a cell on a way is bettered where the row ends at it
  covered : (bits m : ℕ) → bits < 2 ^ 128 → m < 32 → node old bits m ≢ 0 → start + digit level x ≤ node old bits m + digit m bits → node old bits m + digit m bits < start + digit level x + width
      → EndsAtLevel leaves v6 (n + 1) m bits n
  covered bits m lb lm some from to =
      let s = node-sound old t.size t.nexts bits m some in
      let r = node-sound old t.size t.nexts x level there in
      let s1 = s.1 in
      let r1 = r.1 in
      let h = g.here in
      let w = within in
      let d = digit-small m bits in
      let node_same : node old bits m ≡ node old x level = omega (arith, s1, r1, h, w, d, from, to) in
      let p = t.apart bits x m level lb (sound.small n) lm ll some node_same in
      let e : m ≡ level = p.0 in
      let digits : digit m bits ≡ digit level bits = ap (λ k. digit k bits) e in
      let q = covered-from (leaf_at leaves n).len level x bits ll lv (sound.len n) (sound.cleared n)
      (sym (subst (λ k. top (4 * k) bits ≡ top (4 * k) x) e p.1)) (omega (arith, from, node_same, h, digits)) (omega (arith, to, node_same, h, digits)) in
      (omega arith, (of, q), sym lv ∙ sym e)

  -- and nowhere else
  uncovered : (bits m : ℕ) → bits < 2 ^ 128 → m < 32 → (node old bits m + digit m bits < start + digit level x) ⊎ (start + digit level x + width ≤ node old bits m + digit m bits) → ¬ (EndsAtLevel leaves v6 (n + 1) m bits n)
  uncovered bits m lb lm out (less, has, ends) =
      let e : m ≡ level = sym ends ∙ sym lv in
      let q = covered-to (leaf_at leaves n).len level x bits ll lv (sound.len n) (sound.cleared n) has.1 in
      let l = ll in
      let nodes : node old x level ≡ node old bits level = node-agree old x bits level (omega (arith, l)) q.0 in
      let here : node old bits m + digit m bits ≡ node old x level + digit level bits = ap (λ k. node old bits k + digit k bits) e ∙ ap (λ k. k + digit level bits) (sym nodes) in
      let h = g.here in
      let q1 = q.1 in
      let q2 = q.2 in
      elim out [
        | inl before ↦ omega (arith, before, here, h, q1)
        | inr behind ↦ omega (arith, behind, here, h, q2)
      ]

  pub marked-trie : IsTrie leaves v6 (n + 1) new
  marked-trie = record {
    size = let s = t.size in let l = b.len in omega (arith, s, l);
    whole = let s = t.whole in let l = b.len in omega (arith, s, l);
    nexts = λ i some.
        let e = b.nexts i in
        let q = t.nexts i (λ z. some (e ∙ z)) in
        let l = b.len in
        let q0 = q.0 in
        let q1 = q.1 in
        let q2 = q.2 in
        (omega (arith, e, q0), omega (arith, e, q1), omega (arith, e, q2, l));
    rows = λ i. elim (cases_lt i (start + digit level x)) [
      | inl before ↦ let e = b.outside i (inl before) in let r = t.rows i in omega (arith, e, r)
      | inr from ↦ elim (cases_lt i (start + digit level x + width)) [
        | inr behind ↦ let e = b.outside i (inr behind) in let r = t.rows i in omega (arith, e, r)
        | inl inside ↦ elim (b.inside i from inside) [
          | inl better ↦ let e = better.1 in omega (arith, e)
          | inr no_better ↦ let e = no_better.2 in let r = t.rows i in omega (arith, e, r)
        ]
      ]
    ];
    apart = λ a c l m la lc l1 l2 some is.
        t.apart a c l m la lc l1 l2 (λ z. some (same a l ∙ z)) (sym (same a l) ∙ (is ∙ same c m));
    paths = λ row l less inside le none.
        let z = sym (same (leaf_at leaves row).bits l) ∙ none in
        elim (cases_eq row n) [
          | inl e ↦ g.way l (let q = ap (λ r. level_of (leaf_at leaves r).len) e in omega (arith, le, q, lv)) (subst (λ r. node old (leaf_at leaves r).bits l ≡ 0) e z)
          | inr ne ↦ t.paths row l (omega (arith, less, ne)) inside le z
        ];
    used = λ bits l lb l1 some. t.used bits l lb l1 (λ z. some (same bits (l + 1) ∙ z));
    told = λ bits m lb lm some.
        let old_some : node old bits m ≢ 0 = λ z. some (same bits m ∙ z) in
        let was = t.told bits m lb lm old_some in
        subst (λ k. TellsBest leaves (EndsAtLevel leaves v6 (n + 1) m bits) (cell_row new (k + digit m bits))) (sym (same bits m))
        (elim (cases_lt (node old bits m + digit m bits) (start + digit level x)) [
          | inl before ↦
              subst (TellsBest leaves (EndsAtLevel leaves v6 (n + 1) m bits)) (sym (b.outside _ (inl before)))
              (tells-same leaves v6 n m bits _ was (uncovered bits m lb lm (inl before)))
          | inr from ↦ elim (cases_lt (node old bits m + digit m bits) (start + digit level x + width)) [
            | inr behind ↦
                subst (TellsBest leaves (EndsAtLevel leaves v6 (n + 1) m bits)) (sym (b.outside _ (inr behind)))
                (tells-same leaves v6 n m bits _ was (uncovered bits m lb lm (inr behind)))
            | inl inside ↦
                tells-bettered leaves v6 n m bits _ _ was (covered bits m lb lm old_some from inside) (b.inside _ from inside)
          ]
        ]);
  }
