-- The search in a trie.
use Rattle.std.proofs.Common.{◌≡◌, ◌≢◌, ◌⊎◌, Bool, ℕ, zero, suc, ◌+◌, ◌-◌, ◌*◌, ◌^◌, ◌<◌, ◌≤◌, List, length, get_or, set, Some, inl, inr, refl, arith, sym, ◌∙◌, ap, subst, get_or-set_same, get_or-set_other, length-set}
use Rattle.std.specs.List.{slice_get}
use Rattle.std.proofs.lemmas.Bool.{cases_eq, cases_lt}
use Rattle.std.proofs.lemmas.Option.{get_or_from_slice_get}
use Rattle.ip_trie.specs.Cells.{AreLeaves, EndsAbove, EndsAtLevel, HasBits, IsClosed, IsBucket, IsTrie, Shares, TellsBest, blank, digit, leaf_at, level_of, next_at, node, cell_row, top}
use Rattle.ip_trie.specs.declared.cells.Cell.{Cell}
use Rattle.ip_trie.specs.declared.cells.Leaf.{Leaf}
use Rattle.ip_trie.specs.declared.cells.TheConstants.{TABLE}
use Rattle.ip_trie.proofs.Bits.{level-least, level-most, level-within, same-top, top-none}
use Rattle.ip_trie.proofs.Nodes.{node-agree, node-next, node-same, node-sound, node-up}
use Rattle.ip_trie.proofs.Tells.{tells-by, tells-level}

module _ (leaves : List Leaf) (v6 : Bool) (cells : List Cell) (sound : AreLeaves leaves) (t : IsTrie leaves v6 (length leaves) cells) (bits : ℕ) (small : bits < 2 ^ 128) where
  -- where a way ends, all rows that hold the bits end above
  pub ended : (level : ℕ) → level ≤ 32 → node cells bits level ≡ 0 → (row : ℕ) → HasBits leaves v6 bits row → level_of (leaf_at leaves row).len < level
  ended level l none row has = elim (cases_lt (level_of (leaf_at leaves row).len) level) [
    | inl less ↦ less
    | inr most ↦
        let m = level-least (leaf_at leaves row).len in
        let same = node-agree cells (leaf_at leaves row).bits bits level l (same-top (4 * level) (leaf_at leaves row).len (leaf_at leaves row).bits bits (omega (arith, m, most)) (sound.len row) has.1) in
        absurd (t.paths row level has.0.0 has.0 most (same ∙ none))
  ]

  pub ended-all : (row : ℕ) → HasBits leaves v6 bits row → level_of (leaf_at leaves row).len < 32
  ended-all row has = level-within (leaf_at leaves row).len (sound.len row)

  -- a step by the cell that was read
  pub step-row : (level best next : ℕ) (cell : Cell) → level < 32 → node cells bits level ≢ 0 → get_or cells (node cells bits level + digit level bits) blank ≡ cell
      → (cell.row ≡ 0 → next ≡ best) → (cell.row ≢ 0 → next ≡ cell.row) → TellsBest leaves (EndsAbove leaves v6 level bits) best → TellsBest leaves (EndsAbove leaves v6 (level + 1) bits) next
  step-row level best next cell l some read kept new b =
      let told = t.told bits level small l some in
      let r = ap (λ (c : Cell). c.row) read in
      tells-level leaves v6 bits level best cell.row next b (subst (TellsBest leaves (EndsAtLevel leaves v6 (length leaves) level bits)) r told) kept new

  pub step-node : (level : ℕ) (cell : Cell) → node cells bits level ≢ 0 → get_or cells (node cells bits level + digit level bits) blank ≡ cell → cell.next ≡ node cells bits (level + 1)
  step-node level cell some read = sym (ap (λ (c : Cell). c.next) read) ∙ sym (node-next cells bits level some)

-- a cell that was read
pub cell-read : (cells : List Cell) (i : ℕ) (cell : Cell) → slice_get cells i ≡ Some cell → get_or cells i blank ≡ cell
cell-read cells i cell read = get_or_from_slice_get cells i cell blank read

-- ---- the table

-- the cells of a table, and a trie as it was
module _ (leaves : List Leaf) (v6 : Bool) (old new : List Cell) (bucket : ℕ) (cell : Cell) (low : bucket < TABLE) (is : new ≡ set old bucket cell)
    (sound : AreLeaves leaves) (t : IsTrie leaves v6 (length leaves) old)
    (within : cell.next ≢ 0 → (cell.next ≡ TABLE) ⊎ ((i : ℕ) × (cell.next ≡ next_at old i))) (row : cell.row ≤ length leaves) where
  len : length new ≡ length old
  len = ap length is ∙ length-set old bucket cell

  inside : bucket < length old
  inside = let s = t.size in let l = low in omega (arith, s, l)

  here : get_or new bucket blank ≡ cell
  here = ap (λ (z : List Cell). get_or z bucket blank) is ∙ get_or-set_same old bucket cell blank inside

  other : (i : ℕ) → i ≢ bucket → get_or new i blank ≡ get_or old i blank
  other i ne = ap (λ (z : List Cell). get_or z i blank) is ∙ get_or-set_other old bucket i cell blank ne

  pub bucket-node : (bits level : ℕ) → node new bits level ≡ node old bits level
  bucket-node bits level = node-same old new bits level
      (λ i far. ap (λ (c : Cell). c.next) (other i (let l = low in λ e. omega (arith, e, far, l))))
      (λ k some. (node-sound old t.size t.nexts bits k some).0)

  pub bucket-trie : IsTrie leaves v6 (length leaves) new
  bucket-trie = record {
    size = let s = t.size in let l = len in omega (arith, s, l);
    whole = let s = t.whole in let l = len in omega (arith, s, l);
    nexts = λ i some. elim (cases_eq i bucket) [
      | inr ne ↦
          let e = ap (λ (c : Cell). c.next) (other i ne) in
          let q = t.nexts i (λ z. some (e ∙ z)) in
          let q0 = q.0 in let q1 = q.1 in let q2 = q.2 in let l = len in
          (omega (arith, e, q0), omega (arith, e, q1), omega (arith, e, q2, l))
      | inl e ↦
          let n : next_at new i ≡ cell.next = ap (next_at new) e ∙ ap (λ (c : Cell). c.next) here in
          let l = len in
          let s = t.size in
          elim (within (λ z. some (n ∙ z))) [
            | inl root ↦ (omega (arith, n, root), omega (arith, n, root), omega (arith, n, root, s, l))
            | inr one ↦
                let m = one.1 in
                let q = t.nexts one.0 (λ z. some (n ∙ (m ∙ z))) in
                let q0 = q.0 in let q1 = q.1 in let q2 = q.2 in
                (omega (arith, n, m, q0), omega (arith, n, m, q1), omega (arith, n, m, q2, l))
          ]
    ];
    rows = λ i. elim (cases_eq i bucket) [
      | inr ne ↦ let e = ap (λ (c : Cell). c.row) (other i ne) in let r = t.rows i in omega (arith, e, r)
      | inl e ↦ let n : cell_row new i ≡ cell.row = ap (cell_row new) e ∙ ap (λ (c : Cell). c.row) here in let r = row in omega (arith, n, r)
    ];
    apart = λ a b l m la lb ll lm some same. t.apart a b l m la lb ll lm (λ z. some (bucket-node a l ∙ z)) (sym (bucket-node a l) ∙ (same ∙ bucket-node b m));
    paths = λ r l less in_family le none. t.paths r l less in_family le (sym (bucket-node (leaf_at leaves r).bits l) ∙ none);
    used = λ bits l lb ll some. t.used bits l lb ll (λ z. some (bucket-node bits (l + 1) ∙ z));
    told = λ bits l lb ll some.
        let old_some : node old bits l ≢ 0 = λ z. some (bucket-node bits l ∙ z) in
        let far = (node-sound old t.size t.nexts bits l old_some).0 in
        let e : cell_row new (node new bits l + digit l bits) ≡ cell_row old (node old bits l + digit l bits) =
        ap (λ k. cell_row new (k + digit l bits)) (bucket-node bits l) ∙ ap (λ (c : Cell). c.row) (other (node old bits l + digit l bits) (let w = low in λ z. omega (arith, z, far, w))) in
        subst (TellsBest leaves (EndsAtLevel leaves v6 (length leaves) l bits)) (sym e) (t.told bits l lb ll old_some);
  }

  -- the other buckets tell what they told
  pub bucket-kept : (s : ℕ) → s ≢ bucket → IsBucket leaves v6 old s → IsBucket leaves v6 new s
  bucket-kept s ne h = λ bits small first.
      let q = h bits small first in
      let e = other s ne in
      (ap (λ (c : Cell). c.next) e ∙ (q.0 ∙ sym (bucket-node bits 4)), subst (TellsBest leaves (EndsAbove leaves v6 4 bits)) (sym (ap (λ (c : Cell). c.row) e)) q.1)

  -- the new one tells what the first levels tell of some bits
  pub bucket-made : (first : ℕ) → top 16 first ≡ bucket → cell.next ≡ node old first 4 → TellsBest leaves (EndsAbove leaves v6 4 first) cell.row → IsBucket leaves v6 new bucket
  bucket-made first at n b = λ bits small same.
      let agree : top 16 first ≡ top 16 bits = at ∙ sym same in
      let way : node old first 4 ≡ node old bits 4 = node-agree old first bits 4 (omega arith) agree in
      let short : (r : ℕ) → level_of (leaf_at leaves r).len < 4 → (leaf_at leaves r).len ≤ 16 = λ r l. let m = level-most (leaf_at leaves r).len in omega (arith, m, l) in
      let tops : (r : ℕ) → level_of (leaf_at leaves r).len < 4 → top (leaf_at leaves r).len first ≡ top (leaf_at leaves r).len bits = λ r l.
      same-top (leaf_at leaves r).len 16 first bits (short r l) (omega arith) agree in (
        ap (λ (c : Cell). c.next) here ∙ (n ∙ (way ∙ sym (bucket-node bits 4))),
        subst (TellsBest leaves (EndsAbove leaves v6 4 bits)) (sym (ap (λ (c : Cell). c.row) here))
            (tells-by leaves (EndsAbove leaves v6 4 first) (EndsAbove leaves v6 4 bits) cell.row
            (λ r (has, l). ((has.0, has.1 ∙ tops r l), l)) (λ r (has, l). ((has.0, has.1 ∙ sym (tops r l)), l)) b),
      )

pub tells-within : (leaves : List Leaf) (v6 : Bool) (level bits cell : ℕ) → TellsBest leaves (EndsAbove leaves v6 level bits) cell → cell ≤ length leaves
tells-within leaves v6 level bits cell (inl t) = let z = t.0 in omega (arith, z)
tells-within leaves v6 level bits cell (inr (best, is, here, most)) = let l = here.0.0.0 in omega (arith, is, l)

-- ---- the empty trie

pub empty-trie : (leaves : List Leaf) (v6 : Bool) (cells : List Cell) → length cells ≡ TABLE + 16 → ((i : ℕ) → next_at cells i ≡ 0) → ((i : ℕ) → cell_row cells i ≡ 0) → IsTrie leaves v6 0 cells
empty-trie leaves v6 cells len nexts rows = record {
  size = omega (arith, len);
  whole = omega (arith, len);
  nexts = λ i some. absurd (some (nexts i));
  rows = λ i. let r = rows i in omega (arith, r);
  apart = λ a b l m la lb ll lm some same.
      let zl : l ≡ 0 = root a l some in
      let zm : m ≡ 0 = root b m (λ z. some (same ∙ z)) in
      let ta : top (4 * l) a ≡ 0 = ap (λ k. top (4 * k) a) zl ∙ top-none a la in
      let tb : top (4 * l) b ≡ 0 = ap (λ k. top (4 * k) b) zl ∙ top-none b lb in
      (zl ∙ sym zm, ta ∙ sym tb);
  paths = λ row l less. absurd (omega (arith, less));
  used = λ bits l lb ll some. absurd (let z = root bits (l + 1) some in omega (arith, z));
  told = λ bits l lb ll some. inl (rows (node cells bits l + digit l bits), λ r e. let less = e.0 in omega (arith, less));
}
  where
    root : (bits l : ℕ) → node cells bits l ≢ 0 → l ≡ 0
    root bits zero some = refl
    root bits (suc l) some =
        let e : suc l ≡ l + 1 = omega arith in
        let s : node cells bits (l + 1) ≢ 0 = subst (λ k. node cells bits k ≢ 0) e some in
        absurd (s (node-next cells bits l (node-up cells bits l s) ∙ nexts (node cells bits l + digit l bits)))

-- the 16 cells below a cell of a trie are there
pub closed-trie : (leaves : List Leaf) (v6 : Bool) (n : ℕ) (cells : List Cell) → IsTrie leaves v6 n cells → IsClosed cells
closed-trie leaves v6 n cells t = record {
  nexts = λ i some. (t.nexts i (λ z. omega (arith, z, some))).2;
}

-- a node that was read is shared
pub next-shared : (leaves : List Leaf) (v6 : Bool) (n : ℕ) (cells : List Cell) → IsTrie leaves v6 n cells → (bits level : ℕ) → bits < 2 ^ 128 → 0 < level → level < 32 → node cells bits level ≢ 0 → Shares leaves v6 bits (4 * (level + 1 - 1))
next-shared leaves v6 n cells t bits level small some l there =
    let e : level - 1 + 1 ≡ level = omega (arith, some) in
    let f : level - 1 + 1 ≡ level + 1 - 1 = omega (arith, some) in
    subst (λ k. Shares leaves v6 bits (4 * k)) f (t.used bits (level - 1) small (omega (arith, some, l)) (λ z. there (ap (node cells bits) (sym e) ∙ z)))

-- a closed list with a sound cell
pub closed-bucket : (cells : List Cell) (bucket : ℕ) (cell : Cell) → IsClosed cells → TABLE + 16 ≤ length cells → bucket < length cells
    → (cell.next ≢ 0 → (cell.next ≡ TABLE) ⊎ ((i : ℕ) × (cell.next ≡ next_at cells i))) → IsClosed (set cells bucket cell)
closed-bucket cells bucket cell c size l within =
    let len = length-set cells bucket cell in
    record {
      nexts = λ i some. elim (cases_eq i bucket) [
        | inr ne ↦
            let e = ap (λ (x : Cell). x.next) (get_or-set_other cells bucket i cell blank ne) in
            let n = c.nexts i (omega (arith, some, e)) in
            omega (arith, n, e, len)
        | inl is ↦
            let e : next_at (set cells bucket cell) i ≡ cell.next = ap (next_at (set cells bucket cell)) is ∙ ap (λ (x : Cell). x.next) (get_or-set_same cells bucket cell blank l) in
            elim (within (λ z. omega (arith, some, e, z))) [
              | inl root ↦ omega (arith, e, root, size, len)
              | inr one ↦
                  let m = one.1 in
                  let n = c.nexts one.0 (omega (arith, some, e, m)) in
                  omega (arith, n, e, m, len)
            ]
      ];
    }
