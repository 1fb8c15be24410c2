-- Lemmas on the table of a list of keys.
use Rattle.std.proofs.Common.{◌≡◌, ◌≢◌, ℕ, zero, suc, ◌+◌, ◌-◌, ◌*◌, ◌/◌, ◌^◌, ◌<◌, ◌≤◌, List, [], ◌∷◌, length, get_or, set, replicate, Some, None, Bool, true, false, cond, eqb, inl, inr, refl, ap, arith, sym, ◌∙◌, subst, length-set, ne_eqb}
use Rattle.std.specs.List.{slice_get}
use Rattle.std.proofs.Math.Nat.{mul-le-mul_right}
use Rattle.std.proofs.lemmas.Bool.{cases_eq, cases_lt}
use Rattle.std.proofs.lemmas.List.{length-replicate}
use Rattle.std.proofs.lemmas.Option.{get_or_from_slice_get, slice_get-get_or, slice_get_read, slice_get_within}
use Rattle.dict_value.specs.FindByKey.{FindsByKey, IsLeastPlace}
use Rattle.hashed_layout.specs.Probing.{IsMet, home_of, mixed, probed}
use Rattle.hashed_layout.specs.Tables.{IsTableOf, held, key_in, key_of}
use Rattle.hashed_layout.specs.declared.hashed.Cell.{Cell}
use Rattle.hashed_layout.specs.steps.Filling.{IsLeastBelow, IsTableTo, Lands, Passes, free_cells}
use Rattle.hashed_layout.proofs.Lists.{get-set_other, get-set_same}
use Rattle.hashed_layout.proofs.Probes.{free-ends, met-here, met-new, met-still, passed-all, probed-by}

-- ---- what a cell holds

held-free : (cells : List Cell) (i : ℕ) (cell : Cell) → slice_get cells i ≡ Some cell → cell.next ≡ 0 → held cells i ≡ None
held-free cells i cell here free = ap key_in here ∙ ap (λ n. cond (eqb n 0) None (Some (key_of cell))) free

held-taken : (cells : List Cell) (i : ℕ) (cell : Cell) → slice_get cells i ≡ Some cell → 0 < cell.next → held cells i ≡ Some (key_of cell)
held-taken cells i cell here taken = ap key_in here ∙ ap (λ b. cond b None (Some (key_of cell))) (ne_eqb cell.next 0 (λ e. omega (arith, e, taken)))

held-none : (cells : List Cell) (i : ℕ) (cell : Cell) → slice_get cells i ≡ Some cell → held cells i ≡ None → cell.next ≡ 0
held-none cells i cell here none = elim (cases_eq cell.next 0) [
  | inl free ↦ free
  | inr taken ↦ let some = held-taken cells i cell here (omega arith) in absurd (cc (some, none))
]

-- ---- free cells

free-none : (cells : List Cell) → ((i : ℕ) → i < length cells → held cells i ≢ None) → free_cells cells ≡ 0
free-none [] taken = refl
free-none (cell ∷ cells) taken =
    let rest = free-none cells (λ i less. taken (suc i) (omega arith)) in
    elim (cases_eq cell.next 0) [
      | inl free ↦ absurd (taken 0 (omega arith) (held-free (cell ∷ cells) 0 cell refl free))
      | inr other ↦ ap (λ b. cond b 1 0 + free_cells cells) (ne_eqb cell.next 0 other) ∙ omega (arith, rest)
    ]

one-or-none : (b : Bool) → cond b 1 0 ≤ 1
one-or-none true = omega arith
one-or-none false = omega arith

free-set : (cells : List Cell) (i : ℕ) (v : Cell) → free_cells cells ≤ free_cells (set cells i v) + 1
free-set [] i v = omega arith
free-set (cell ∷ cells) zero v = let u = one-or-none (eqb cell.next 0) in omega (arith, u)
free-set (cell ∷ cells) (suc i) v = let rest = free-set cells i v in omega (arith, rest)

free-replicate : (n : ℕ) (cell : Cell) → cell.next ≡ 0 → free_cells (replicate n cell) ≡ n
free-replicate zero cell free = refl
free-replicate (suc n) cell free =
    let rest = free-replicate n cell free in
    ap (λ b. cond (eqb b 0) 1 0 + free_cells (replicate n cell)) free ∙ omega (arith, rest)

-- where each probe meets another key there is no free cell
pub full : (cells : List Cell) (home key : ℕ) → home < length cells → ((probe : ℕ) → probe < length cells → Passes (length cells) home (held cells) key probe) → free_cells cells ≡ 0
full cells home key within all =
    free-none cells (λ i less none.
    let p = probed-by (length cells) home i within less in
    let q = all p.0 p.1 in
    let some = subst (λ j. held cells j ≡ Some q.0) p.2 q.1 in
    absurd (cc (some, none)))

-- ---- what is found

pub found-nowhere : (keys : List ℕ) (cells : List Cell) (key : ℕ) → IsTableOf keys cells
    → ((probe : ℕ) → probe < length cells → Passes (length cells) (home_of (length cells) key) (held cells) key probe) → FindsByKey keys key None
found-nowhere keys cells key t all = λ place has. passed-all (length cells) (home_of (length cells) key) (held cells) key (t.met place key has) all

pub found-free : (keys : List ℕ) (cells : List Cell) (key i : ℕ) (cell : Cell) → IsTableOf keys cells
    → Lands (length cells) (home_of (length cells) key) (held cells) key i → slice_get cells i ≡ Some cell → cell.next ≡ 0 → FindsByKey keys key None
found-free keys cells key i cell t l here free =
    λ place has. free-ends (length cells) (home_of (length cells) key) (held cells) key i l (held-free cells i cell here free) (t.met place key has)

pub found-taken : (keys : List ℕ) (cells : List Cell) (key i : ℕ) (cell : Cell) → IsTableOf keys cells
    → Lands (length cells) (home_of (length cells) key) (held cells) key i → slice_get cells i ≡ Some cell → 0 < cell.next → IsLeastPlace keys key (cell.next - 1)
found-taken keys cells key i cell t l here taken =
    let some = held-taken cells i cell here taken in
    elim l.stops [
      | inl none ↦ absurd (cc (some, none))
      | inr same ↦
          let e : key_of cell ≡ key = cc (some, same) in
          subst (λ k. IsLeastPlace keys k (cell.next - 1)) e (t.least i cell here taken)
    ]

-- ---- a row more

more : (keys : List ℕ) (n key place : ℕ) → IsLeastBelow keys n key place → IsLeastBelow keys (n + 1) key place
more keys n key place h = let w = h.within in record { within = omega (arith, w); equal = h.equal; least = h.least }

-- a row whose key the table has
pub kept : (keys : List ℕ) (cells : List Cell) (n i : ℕ) → IsTableTo keys n cells
    → Lands (length cells) (home_of (length cells) (get_or keys n 0)) (held cells) (get_or keys n 0) i → held cells i ≡ Some (get_or keys n 0) → IsTableTo keys (n + 1) cells
kept keys cells n i t l same = record {
  least = λ j cell here taken. more keys n (key_of cell) (cell.next - 1) (t.least j cell here taken);
  met = λ place less. elim (cases_lt place n) [
    | inl old ↦ t.met place old
    | inr new ↦
        let e : n ≡ place = omega arith in
        subst (λ p. IsMet (length cells) (home_of (length cells) (get_or keys p 0)) (held cells) (get_or keys p 0)) e
        (met-here (length cells) (home_of (length cells) (get_or keys n 0)) (held cells) (get_or keys n 0) i l same)
  ];
  room = let r = t.room in omega (arith, r);
}

-- a row with a new key
pub added : (keys : List ℕ) (cells : List Cell) (n i : ℕ) (cell : Cell) → i < length cells → IsTableTo keys n cells
    → Lands (length cells) (home_of (length cells) (get_or keys n 0)) (held cells) (get_or keys n 0) i → held cells i ≡ None
    → cell.next ≡ n + 1 → key_of cell ≡ get_or keys n 0 → IsTableTo keys (n + 1) (set cells i cell)
added keys cells n i cell within t l free next same =
    let size : length (set cells i cell) ≡ length cells = length-set cells i cell in
    let here : slice_get (set cells i cell) i ≡ Some cell = get-set_same cells i cell within in
    let some : held (set cells i cell) i ≡ Some (get_or keys n 0) = held-taken (set cells i cell) i cell here (omega (arith, next)) ∙ ap Some same in
    let others : (j : ℕ) → j ≢ i → held (set cells i cell) j ≡ held cells j = λ j other. ap key_in (get-set_other cells i j cell other) in
    let Met : ℕ → ℕ → Type 0 = λ m k. IsMet m (home_of m k) (held (set cells i cell)) k in
    let new : (p : ℕ) → p < n → get_or keys p 0 ≢ get_or keys n 0 =
    λ p less e. free-ends (length cells) (home_of (length cells) (get_or keys n 0)) (held cells) (get_or keys n 0) i l free
    (subst (λ k. IsMet (length cells) (home_of (length cells) k) (held cells) k) e (t.met p less)) in
    record {
      least = λ j other at taken. elim (cases_eq j i) [
        | inl e ↦
            let it : Some cell ≡ Some other = sym here ∙ (subst (λ k. slice_get (set cells i cell) k ≡ Some other) e at) in
            let is : cell ≡ other = cc (it) in
            subst (λ (c : Cell). IsLeastBelow keys (n + 1) (key_of c) (c.next - 1)) is
            (record {
              within = omega (arith, next);
              equal = ap (λ p. get_or keys (p - 1) 0) next ∙ (ap (λ p. get_or keys p 0) (omega arith) ∙ sym same);
              least = λ earlier less e. new earlier (omega (arith, next)) (e ∙ same);
            })
        | inr ne ↦ more keys n (key_of other) (other.next - 1) (t.least j other (sym (get-set_other cells i j cell ne) ∙ at) taken)
      ];
      met = λ place less. subst (λ m. Met m (get_or keys place 0)) (sym size) (elim (cases_lt place n) [
        | inl old ↦ met-still (length cells) (held cells) (held (set cells i cell)) i free others (home_of (length cells) (get_or keys place 0)) (get_or keys place 0) (t.met place old)
        | inr last ↦
            let e : n ≡ place = omega arith in
            subst (λ p. Met (length cells) (get_or keys p 0)) e
            (met-new (length cells) (held cells) (held (set cells i cell)) i free others (home_of (length cells) (get_or keys n 0)) (get_or keys n 0) l some)
      ]);
      room = let r = t.room in let f = free-set cells i cell in omega (arith, r, f, size);
    }

-- ---- the whole table

-- the empty table
pub none-yet : (keys : List ℕ) (n : ℕ) (cell : Cell) → cell.next ≡ 0 → IsTableTo keys 0 (replicate n cell)
none-yet keys n cell free = record {
  least = λ i other at taken. absurd (
      let within = slice_get_within (replicate n cell) i other at in
      let is : other ≡ cell = replicated n cell i other at in
      let z : other.next ≡ 0 = ap (λ (c : Cell). c.next) is ∙ free in
      omega (arith, z, taken));
  met = λ place less. absurd (omega arith);
  room = let f = free-replicate n cell free in let l = length-replicate {A = Cell} n cell in omega (arith, f, l);
}
  where
    replicated : (n : ℕ) (cell : Cell) (i : ℕ) (other : Cell) → slice_get (replicate n cell) i ≡ Some other → other ≡ cell
    replicated zero cell i other at = absurd (cc (at))
    replicated (suc n) cell zero other at = sym (cc (at))
    replicated (suc n) cell (suc i) other at = replicated n cell i other at

-- a table of all rows
pub whole : (keys : List ℕ) (cells : List Cell) → IsTableTo keys (length keys) cells → IsTableOf keys cells
whole keys cells t = record {
  least = λ i cell here taken.
      let h = t.least i cell here taken in
      record {
        equal = slice_get-get_or keys (cell.next - 1) 0 h.within ∙ ap Some h.equal;
        least = λ earlier less has. h.least earlier less (get_or_from_slice_get keys earlier (key_of cell) 0 has);
      };
  met = λ place key has.
      let is : get_or keys place 0 ≡ key = get_or_from_slice_get keys place key 0 has in
      subst (λ k. IsMet (length cells) (home_of (length cells) k) (held cells) k) is (t.met place (slice_get_within keys place key has));
}

-- ---- what the code reads

-- a cell that was read
pub read : (cells : List Cell) (i : ℕ) (cell : Cell) → i < length cells → cell ≡ get_or cells i cell → slice_get cells i ≡ Some cell
read cells i cell within is = slice_get_read cells (length cells) i cell refl within is

-- a probe that meets another key
pub passes-here : (cells : List Cell) (home at key probe : ℕ) (cell : Cell) → slice_get cells at ≡ Some cell → cell.next ≢ 0 → key_of cell ≢ key
    → at ≡ probed (length cells) home probe → Passes (length cells) home (held cells) key probe
passes-here cells home at key probe cell here taken other is =
    (key_of cell, subst (λ j. held cells j ≡ Some (key_of cell)) is (held-taken cells at cell here (omega arith)), other)

-- a taken cell that the probes of a key came to has the key
pub lands-taken : (cells : List Cell) (home key i : ℕ) (cell : Cell) → Lands (length cells) home (held cells) key i
    → slice_get cells i ≡ Some cell → cell.next ≢ 0 → held cells i ≡ Some key
lands-taken cells home key i cell l here taken = elim l.stops [
  | inl none ↦ let some = held-taken cells i cell here (omega arith) in absurd (cc (some, none))
  | inr same ↦ same
]

pub lands-free : (cells : List Cell) (i : ℕ) (cell : Cell) → slice_get cells i ≡ Some cell → cell.next ≡ 0 → held cells i ≡ None
lands-free cells i cell here free = held-free cells i cell here free

-- the probes begin within the table
pub part-within : (size bits : ℕ) → 0 < size → bits < 2 ^ 32 → bits * size / 2 ^ 32 < size
part-within size bits some small =
    let most : bits * size ≤ (2 ^ 32 - 1) * size = mul-le-mul_right size (omega arith) in
    omega (arith, most)

pub home-within : (size key : ℕ) → 0 < size → home_of size key < size
unfolding home_of mixed
home-within size key some = part-within size _ some (omega arith)
