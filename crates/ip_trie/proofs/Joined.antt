-- What is said of the cells after one row more.
use Rattle.std.proofs.Common.{◌≡◌, ◌≢◌, Bool, ℕ, ◌+◌, ◌<◌, ◌≤◌, List, length, inl, inr, arith, sym, ◌∙◌, subst}
use Rattle.std.proofs.lemmas.Bool.{cases_eq}
use Rattle.ip_trie.specs.Cells.{IsOfFamily, digit, leaf_at, level_of, node, top}
use Rattle.ip_trie.specs.Below.{AllowsFor, AreBelow, Joins, LiesBelow, one_below}
use Rattle.ip_trie.specs.declared.cells.Cell.{Cell}
use Rattle.ip_trie.specs.declared.cells.Leaf.{Leaf}
use Rattle.ip_trie.specs.declared.prune.TheConstants.{MANY}

-- the rows before are below, and one row down to a level
pub record AreJoined (leaves : List Leaf) (v6 : Bool) (cells : List Cell) (row level : ℕ) (below : List ℕ) : Type 0 where
  pub len : length below ≡ length cells
  pub all : (i other : ℕ) → other < row → LiesBelow leaves v6 cells i other → AllowsFor below i other
  pub one : (i other : ℕ) → one_below below i ≡ other + 1 → one_below below i ≢ MANY → LiesBelow leaves v6 cells i other
  pub bucket : AllowsFor below (top 16 (leaf_at leaves row).bits) row
  pub way : (above : ℕ) → 4 ≤ above → above < level → AllowsFor below (node cells (leaf_at leaves row).bits above + digit above (leaf_at leaves row).bits) row

module _ (leaves : List Leaf) (v6 : Bool) (cells : List Cell) (row : ℕ) where
  -- a row that lies below no cell
  pub passed-over : (below : List ℕ) → ((i : ℕ) → ¬ (LiesBelow leaves v6 cells i row)) → AreBelow leaves v6 cells row below → AreBelow leaves v6 cells (row + 1) below
  passed-over below none b = record {
    len = b.len;
    all = λ i other l lies. elim (cases_eq other row) [
      | inl same ↦ absurd (none i (subst (LiesBelow leaves v6 cells i) same lies))
      | inr ne ↦ b.all i other (omega (arith, l, ne)) lies
    ];
    one = b.one;
  }

  one-more : (at : ℕ) (old new : List ℕ) → Joins at row old new → LiesBelow leaves v6 cells at row
      → ((i other : ℕ) → one_below old i ≡ other + 1 → one_below old i ≢ MANY → LiesBelow leaves v6 cells i other)
      → (i other : ℕ) → one_below new i ≡ other + 1 → one_below new i ≢ MANY → LiesBelow leaves v6 cells i other
  one-more at old new j lies one i other is few = elim (j.told i) [
    | inl same ↦ one i other (sym same ∙ is) (λ many. few (same ∙ many))
    | inr (inl many) ↦ absurd (few many)
    | inr (inr (here, new_one)) ↦
        let e : row ≡ other = omega (arith, is, new_one) in
        subst (LiesBelow leaves v6 cells i) e (subst (λ k. LiesBelow leaves v6 cells k row) (sym here) lies)
  ]

  -- the cell of the table
  pub bucket-joined : (at : ℕ) (old new : List ℕ) → Joins at row old new → at ≡ top 16 (leaf_at leaves row).bits → IsOfFamily leaves v6 row → 4 ≤ level_of (leaf_at leaves row).len
      → AreBelow leaves v6 cells row old → AreJoined leaves v6 cells row 4 new
  bucket-joined at old new j is inside deep b = record {
    len = j.len ∙ b.len;
    all = λ i other l lies. j.kept i other (b.all i other l lies);
    one = one-more at old new j (inside, inl (deep, is)) b.one;
    bucket = subst (λ k. AllowsFor new k row) is j.here;
    way = λ above low l. absurd (omega (arith, low, l));
  }

  -- a cell of a level
  pub level-joined : (level at : ℕ) (old new : List ℕ) → Joins at row old new → at ≡ node cells (leaf_at leaves row).bits level + digit level (leaf_at leaves row).bits → IsOfFamily leaves v6 row
      → 4 ≤ level → level < level_of (leaf_at leaves row).len → AreJoined leaves v6 cells row level old → AreJoined leaves v6 cells row (level + 1) new
  level-joined level at old new j is inside low short b = record {
    len = j.len ∙ b.len;
    all = λ i other l lies. j.kept i other (b.all i other l lies);
    one = one-more at old new j (inside, inr (level, (low, short, is))) b.one;
    bucket = j.kept _ row b.bucket;
    way = λ above deep l. elim (cases_eq above level) [
      | inl same ↦ subst (λ k. AllowsFor new (node cells (leaf_at leaves row).bits k + digit k (leaf_at leaves row).bits) row) (sym same) (subst (λ k. AllowsFor new k row) is j.here)
      | inr ne ↦ j.kept _ row (b.way above deep (omega (arith, l, ne)))
    ];
  }

  -- the whole way
  pub way-joined : (below : List ℕ) → AreJoined leaves v6 cells row (level_of (leaf_at leaves row).len) below → AreBelow leaves v6 cells (row + 1) below
  way-joined below b = record {
    len = b.len;
    all = λ i other l lies. elim (cases_eq other row) [
      | inr ne ↦ b.all i other (omega (arith, l, ne)) lies
      | inl same ↦ subst (AllowsFor below i) (sym same) (here i (subst (LiesBelow leaves v6 cells i) same lies))
    ];
    one = b.one;
  }
    where
      here : (i : ℕ) → LiesBelow leaves v6 cells i row → AllowsFor below i row
      here i (inside, inl (deep, is)) = subst (λ k. AllowsFor below k row) (sym is) b.bucket
      here i (inside, inr (level, (low, short, is))) = subst (λ k. AllowsFor below k row) (sym is) (b.way level low short)
