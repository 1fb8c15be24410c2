-- The nodes on the way of some bits.
use Rattle.std.proofs.Common.{◌≡◌, ◌≢◌, ℕ, zero, suc, ◌+◌, ◌*◌, ◌%◌, ◌≤◌, List, length, cond, eqb, inl, inr, refl, arith, sym, ◌∙◌, ap, subst, ne_eqb}
use Rattle.std.proofs.lemmas.Bool.{cases_eq}
use Rattle.std.proofs.lemmas.List.{get_or_past}
use Rattle.ip_trie.specs.Cells.{cells_below, blank, digit, next_at, node, cell_row, top}
use Rattle.ip_trie.specs.declared.cells.Cell.{Cell}
use Rattle.ip_trie.specs.declared.cells.TheConstants.{TABLE}
use Rattle.ip_trie.proofs.Bits.{same-digit, same-top}

pub node-none : (cells : List Cell) (bits : ℕ) → node cells bits 0 ≡ TABLE
unfolding node
node-none cells bits = refl

pub node-suc : (cells : List Cell) (bits level : ℕ) → node cells bits (suc level) ≡ cells_below cells (node cells bits level) (digit level bits)
unfolding node
node-suc cells bits level = refl

pub node-more : (cells : List Cell) (bits level : ℕ) → node cells bits (level + 1) ≡ cells_below cells (node cells bits level) (digit level bits)
node-more cells bits level =
    let e : suc level ≡ level + 1 = omega arith in
    subst (λ k. node cells bits k ≡ cells_below cells (node cells bits level) (digit level bits)) e (node-suc cells bits level)

pub below-some : (cells : List Cell) (start d : ℕ) → start ≢ 0 → cells_below cells start d ≡ next_at cells (start + d)
below-some cells start d some = ap (λ b. cond b 0 (next_at cells (start + d))) (ne_eqb start 0 some)

pub below-none : (cells : List Cell) (start d : ℕ) → start ≡ 0 → cells_below cells start d ≡ 0
below-none cells start d none = ap (λ k. cond (eqb k 0) 0 (next_at cells (k + d))) none

pub node-next : (cells : List Cell) (bits level : ℕ) → node cells bits level ≢ 0 → node cells bits (level + 1) ≡ next_at cells (node cells bits level + digit level bits)
node-next cells bits level some = node-more cells bits level ∙ below-some cells (node cells bits level) (digit level bits) some

-- ways that agree so far come to one node
pub node-agree : (cells : List Cell) (a b level : ℕ) → level ≤ 32 → top (4 * level) a ≡ top (4 * level) b → node cells a level ≡ node cells b level
node-agree cells a b zero l s = node-none cells a ∙ sym (node-none cells b)
node-agree cells a b (suc level) l s =
    let e : 4 * suc level ≡ 4 * (level + 1) = omega arith in
    let s4 = subst (λ k. top k a ≡ top k b) e s in
    let before = node-agree cells a b level (omega arith) (same-top (4 * level) (4 * (level + 1)) a b (omega arith) (omega arith) s4) in
    let d = same-digit level a b (omega arith) s4 in
    node-suc cells a level ∙ (ap (λ k. cells_below cells k (digit level a)) before ∙ (ap (λ k. cells_below cells (node cells b level) k) d ∙ sym (node-suc cells b level)))

-- a way that ended stays so
pub node-past : (cells : List Cell) (bits level more : ℕ) → node cells bits level ≡ 0 → node cells bits (level + more) ≡ 0
node-past cells bits level zero none = let e : level ≡ level + 0 = omega arith in subst (λ k. node cells bits k ≡ 0) e none
node-past cells bits level (suc more) none =
    let e : level + more + 1 ≡ level + suc more = omega arith in
    subst (λ k. node cells bits k ≡ 0) e (node-more cells bits (level + more) ∙ below-none cells (node cells bits (level + more)) (digit (level + more) bits) (node-past cells bits level more none))

pub node-up : (cells : List Cell) (bits level : ℕ) → node cells bits (level + 1) ≢ 0 → node cells bits level ≢ 0
node-up cells bits level some none = some (node-past cells bits level 1 none)

-- only what follows a node tells its way
pub node-same : (old new : List Cell) (bits level : ℕ) → ((i : ℕ) → TABLE ≤ i → next_at new i ≡ next_at old i) → ((k : ℕ) → node old bits k ≢ 0 → TABLE ≤ node old bits k) → node new bits level ≡ node old bits level
node-same old new bits zero same far = node-none new bits ∙ sym (node-none old bits)
node-same old new bits (suc level) same far =
    let before = node-same old new bits level same far in
    let step : cells_below new (node new bits level) (digit level bits) ≡ cells_below old (node old bits level) (digit level bits) =
    ap (λ k. cells_below new k (digit level bits)) before ∙ (elim (cases_eq (node old bits level) 0) [
      | inl none ↦ below-none new (node old bits level) (digit level bits) none ∙ sym (below-none old (node old bits level) (digit level bits) none)
      | inr some ↦
          let f = far level some in
          below-some new (node old bits level) (digit level bits) some ∙ (same (node old bits level + digit level bits) (omega (arith, f)) ∙ sym (below-some old (node old bits level) (digit level bits) some))
    ]) in
    node-suc new bits level ∙ (step ∙ sym (node-suc old bits level))

-- nodes stand behind the table, in sixteens
pub node-sound : (cells : List Cell) → TABLE + 16 ≤ length cells
    → ((i : ℕ) → next_at cells i ≢ 0 → (TABLE ≤ next_at cells i) × (next_at cells i % 16 ≡ 0) × (next_at cells i + 16 ≤ length cells))
    → (bits level : ℕ) → node cells bits level ≢ 0 → (TABLE ≤ node cells bits level) × (node cells bits level % 16 ≡ 0) × (node cells bits level + 16 ≤ length cells)
node-sound cells size nexts bits zero some =
    let e = node-none cells bits in
    subst (λ k. (TABLE ≤ k) × (k % 16 ≡ 0) × (k + 16 ≤ length cells)) (sym e) (omega arith, omega arith, size)
node-sound cells size nexts bits (suc level) some =
    let e : suc level ≡ level + 1 = omega arith in
    let s : node cells bits (level + 1) ≢ 0 = subst (λ k. node cells bits k ≢ 0) e some in
    let up = node-up cells bits level s in
    let n = node-next cells bits level up in
    let q = nexts (node cells bits level + digit level bits) (λ z. s (n ∙ z)) in
    subst (λ k. (TABLE ≤ k) × (k % 16 ≡ 0) × (k + 16 ≤ length cells)) (sym n ∙ ap (node cells bits) (sym e)) q

pub next-past : (cells : List Cell) (i : ℕ) → length cells ≤ i → next_at cells i ≡ 0
next-past cells i l = ap (λ (c : Cell). c.next) (get_or_past cells i blank l)

pub row-past : (cells : List Cell) (i : ℕ) → length cells ≤ i → cell_row cells i ≡ 0
row-past cells i l = ap (λ (c : Cell). c.row) (get_or_past cells i blank l)
