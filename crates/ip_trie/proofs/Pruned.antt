-- The search among cells with rows in place of nodes.
use Rattle.std.proofs.Common.{◌≡◌, ◌≢◌, ◌⊎◌, Bool, ℕ, ◌+◌, ◌-◌, ◌*◌, ◌%◌, ◌^◌, ◌<◌, ◌≤◌, List, [], length, inl, inr, refl, arith, sym, ◌∙◌, ap, subst}
use Rattle.std.proofs.lemmas.Bool.{cases_eq, cases_lt}
use Rattle.dict_value.specs.declared.value.TheConstants.{MOST_ROWS}
use Rattle.ip_trie.specs.Cells.{AreLeaves, EndsAbove, HasBits, IsOfFamily, IsTrie, TellsBest, digit, leaf_at, level_of, next_at, node, top}
use Rattle.ip_trie.specs.Below.{AreBelow, AreCut, IsLastOf, IsPruned, IsPrunedNext, IsSafe, PassesBucket, PassesCell, next_of_row, one_below}
use Rattle.ip_trie.specs.Kept.{AreTrieCells, IsWholeTrie}
use Rattle.ip_trie.specs.declared.cells.Cell.{Cell}
use Rattle.ip_trie.specs.declared.cells.Leaf.{Leaf}
use Rattle.ip_trie.specs.declared.cells.TheConstants.{TABLE}
use Rattle.ip_trie.specs.declared.prune.TheConstants.{MANY}
use Rattle.ip_trie.proofs.Bits.{level-least, same-digit, same-top}
use Rattle.ip_trie.proofs.Grown.{one-way}
use Rattle.ip_trie.proofs.Nodes.{next-past, node-agree, node-next, node-sound, row-past}
use Rattle.ip_trie.proofs.Tells.{tells-all}

-- what is said of a cell is a row, or that they are many
pub below-within : (leaves : List Leaf) (v6 : Bool) (cells : List Cell) (n : ℕ) (below : List ℕ) → length leaves ≤ MOST_ROWS → AreBelow leaves v6 cells n below
    → (i : ℕ) → (one_below below i ≡ MANY) ⊎ (one_below below i ≤ MOST_ROWS)
below-within leaves v6 cells n below rows b i = elim (cases_eq (one_below below i) MANY) [
  | inl many ↦ inl many
  | inr few ↦ elim (cases_eq (one_below below i) 0) [
    | inl none ↦ inr (omega (arith, none))
    | inr some ↦
        let l = (b.one i (one_below below i - 1) (omega (arith, some)) few).0.0 in
        inr (omega (arith, l, rows, some))
  ]
]

-- what was cut is pruned
pub cut-pruned : (leaves : List Leaf) (v6 : Bool) (old new : List Cell) (below : List ℕ) → AreBelow leaves v6 old (length leaves) below → AreCut below old new → IsPruned leaves v6 old new
cut-pruned leaves v6 old new below b c = record {
  len = c.len;
  rows = λ i. elim (cases_lt i (length old)) [
    | inl inside ↦ (c.each i inside).0
    | inr past ↦ row-past new i (let l = c.len in omega (arith, l, past)) ∙ sym (row-past old i past)
  ];
  nexts = λ i. elim (cases_lt i (length old)) [
    | inr past ↦ inl (next-past new i (let l = c.len in omega (arith, l, past)) ∙ sym (next-past old i past))
    | inl inside ↦ elim (c.each i inside).1 [
      | inl same ↦ inl same
      | inr (some, few, next, is) ↦
          let x : ℕ = one_below below i in
          inr (
            x - 1,
            is,
            next,
            b.one i (x - 1) (omega (arith, some)) few,
            λ other lies. elim (b.all i other lies.0.0 lies) [
              | inl told ↦ omega (arith, told)
              | inr many ↦ absurd (few many)
            ],
          )
    ]
  ];
}

pub pruned-safe : (leaves : List Leaf) (v6 : Bool) (n : ℕ) (whole cells : List Cell) → IsTrie leaves v6 n whole → IsPruned leaves v6 whole cells → IsSafe (length leaves) cells
pruned-safe leaves v6 n whole cells t p = record {
  size = λ some. let s = t.size in let l = p.len in omega (arith, s, l);
  nodes = λ i some node. elim (p.nexts i) [
    | inl same ↦
        let q = (t.nexts i (λ z. some (same ∙ z))).2 in
        let l = p.len in
        omega (arith, same, q, l)
    | inr one ↦ let is = one.1 in absurd (omega (arith, is, node))
  ];
  rows = λ i row row_is. elim (p.nexts i) [
    | inl same ↦
        let q = (t.nexts i (λ z. omega (arith, z, same, row_is))).1 in
        absurd (omega (arith, q, same, row_is))
    | inr one ↦
        let is = one.1 in
        let l = one.3.0.0 in
        omega (arith, is, row_is, l)
  ];
}

pub safe-none : (count : ℕ) (cells : List Cell) → cells ≡ [] → IsSafe count cells
safe-none count cells none = subst (IsSafe count) (sym none) (record {
  size = λ some. absurd (some refl);
  nodes = λ i some node. absurd (some (next-past [] i (omega arith)));
  rows = λ i row is. let z = next-past [] i (omega arith) in absurd (omega (arith, z, is));
})

pub whole-of : (leaves : List Leaf) (v6 : Bool) (cells : List Cell) → cells ≢ [] → AreTrieCells leaves v6 cells → (whole : List Cell) × IsWholeTrie leaves v6 whole × IsPruned leaves v6 whole cells
whole-of leaves v6 cells some (inl none) = absurd (some none.0)
whole-of leaves v6 cells some (inr whole) = whole

-- the row is the only one that may hold the bits and doesn't end above the level
pub record IsOnly (leaves : List Leaf) (v6 : Bool) (bits level row : ℕ) : Type 0 where
  pub inside : IsOfFamily leaves v6 row
  pub deep : level ≤ level_of (leaf_at leaves row).len
  pub only : (other : ℕ) → HasBits leaves v6 bits other → level ≤ level_of (leaf_at leaves other).len → other ≡ row

-- what follows on a way: a node, or the only row
abbrev pub Follows : List Leaf → Bool → List Cell → ℕ → ℕ → ℕ → Type 0
Follows leaves v6 whole bits level next =
    (next ≡ node whole bits level) ⊎ ((row : ℕ) × (next ≡ next_of_row row) × (node whole bits level ≢ 0) × IsOnly leaves v6 bits level row)

module _ (leaves : List Leaf) (v6 : Bool) (whole : List Cell) (sound : AreLeaves leaves) (filled : IsWholeTrie leaves v6 whole) (bits : ℕ) (small : bits < 2 ^ 128) where
  -- a row that has the bits has the first ones of a level above its end
  has-top : (row level : ℕ) → HasBits leaves v6 bits row → level ≤ level_of (leaf_at leaves row).len → top (4 * level) (leaf_at leaves row).bits ≡ top (4 * level) bits
  has-top row level has deep =
      let m = level-least (leaf_at leaves row).len in
      same-top (4 * level) (leaf_at leaves row).len (leaf_at leaves row).bits bits (omega (arith, m, deep)) (sound.len row) has.1

  -- behind a cell of the table
  pub follows-bucket : (i next : ℕ) → i < TABLE → top 16 bits ≡ i → IsPrunedNext leaves v6 whole i next → Follows leaves v6 whole bits 4 next
  follows-bucket i next low at (inl same) = inl (same ∙ (filled.table i low bits small at).0)
  follows-bucket i next low at (inr (row, is, some, lies, only)) = inr (
    row,
    is,
    λ z. some ((filled.table i low bits small at).0 ∙ z),
    record {
      inside = lies.0;
      deep = deep lies.1;
      only = λ other has le. only other (has.0, inl (le, sym at ∙ sym (has-top other 4 has le)));
    },
  )
    where
      deep : PassesBucket leaves row i ⊎ ((level : ℕ) × PassesCell leaves whole row i level) → 4 ≤ level_of (leaf_at leaves row).len
      deep (inl bucket) = bucket.0
      deep (inr (level, (from, short, here))) = omega (arith, from, short)

  -- behind a cell of a level
  pub follows-cell : (level i next : ℕ) → 4 ≤ level → level < 32 → node whole bits level ≢ 0 → node whole bits level + digit level bits ≡ i → IsPrunedNext leaves v6 whole i next → Follows leaves v6 whole bits (level + 1) next
  follows-cell level i next low l there at (inl same) = inl (same ∙ (ap (next_at whole) (sym at) ∙ sym (node-next whole bits level there)))
  follows-cell level i next low l there at (inr (row, is, some, lies, only)) = inr (
    row,
    is,
    λ z. some (ap (next_at whole) (sym at) ∙ (sym (node-next whole bits level there) ∙ z)),
    record {
      inside = lies.0;
      deep = deep lies.1;
      only = λ other has le. only other (
        has.0,
        inr (
          level,
          (
            low,
            omega (arith, le),
            let tops = has-top other (level + 1) has le in
                let above = has-top other level has (omega (arith, le)) in
                let nodes = node-agree whole bits (leaf_at leaves other).bits level (omega (arith, l)) (sym above) in
                let digits = same-digit level bits (leaf_at leaves other).bits l (sym tops) in
                omega (arith, at, nodes, digits),
          ),
        ),
      );
    },
  )
    where
      t : IsTrie leaves v6 (length leaves) whole
      t = filled.trie

      deep : PassesBucket leaves row i ⊎ ((other : ℕ) × PassesCell leaves whole row i other) → level + 1 ≤ level_of (leaf_at leaves row).len
      deep (inl bucket) =
          let far = (node-sound whole t.size t.nexts bits level there).0 in
          let b = bucket.1 in
          let s = sound.small row in
          let first : top 16 (leaf_at leaves row).bits < 65536 = omega (arith, s) in
          absurd (omega (arith, far, b, first, at))
      deep (inr (other, (from, short, here))) =
          let below : other < 32 = let n = sound.len row in omega (arith, n, short) in
          let some_row = t.paths row other lies.0.0 lies.0 (omega (arith, short)) in
          let q = one-way leaves v6 (length leaves) sound whole whole t bits (leaf_at leaves row).bits level other small (sound.small row) l below there some_row (at ∙ here) in
          let e = q.1.0 in
          omega (arith, e, short)

  -- a node follows where no row does
  pub follows-node : (level next : ℕ) → next % 16 ≢ 1 → Follows leaves v6 whole bits level next → next ≡ node whole bits level
  follows-node level next no_row (inl same) = same
  follows-node level next no_row (inr one) = let is = one.1 in absurd (omega (arith, is, no_row))

  pub follows-row : (level next row : ℕ) → next ≡ next_of_row row → Follows leaves v6 whole bits level next → (node whole bits level ≢ 0) × IsOnly leaves v6 bits level row
  follows-row level next row row_is (inr (one, is, some, only)) = (some, subst (IsOnly leaves v6 bits level) (omega (arith, is, row_is)) only)
  follows-row level next row row_is (inl same) = absurd (elim (cases_eq (node whole bits level) 0) [
    | inl none ↦ omega (arith, none, same, row_is)
    | inr some ↦ let q = (node-sound whole filled.trie.size filled.trie.nexts bits level some).1 in omega (arith, q, same, row_is)
  ])

  -- the answer after the only row
  pub tells-last : (level row best result : ℕ) → IsOnly leaves v6 bits level row → IsLastOf (leaf_at leaves row) row bits best result → TellsBest leaves (EndsAbove leaves v6 level bits) best → TellsBest leaves (HasBits leaves v6 bits) result
  tells-last level row best result only (inl (same, is)) t = inr (
    row,
    is,
    (only.inside, same),
    λ other has. elim (cases_lt (level_of (leaf_at leaves other).len) level) [
      | inl less ↦ let d = only.deep in inl (omega (arith, less, d))
      | inr most ↦ let e = only.only other has most in inr (ap (λ r. (leaf_at leaves r).len) e, omega (arith, e))
    ],
  )
  tells-last level row best result only (inr (other_bits, is)) t =
      subst (TellsBest leaves (HasBits leaves v6 bits)) (sym is) (tells-all leaves v6 bits level best (λ other has. elim (cases_lt (level_of (leaf_at leaves other).len) level) [
        | inl less ↦ less
        | inr most ↦ absurd (other_bits (subst (HasBits leaves v6 bits) (only.only other has most) has).1)
      ]) t)
