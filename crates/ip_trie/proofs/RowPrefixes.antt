-- Rows as prefixes of texts and as leaves.
use Rattle.std.specs.List.{slice_get}
use Rattle.std.proofs.Common.{◌≡◌, ◌≢◌, ◌⊎◌, Bool, true, false, cond, ℕ, zero, suc, ◌+◌, ◌-◌, ◌*◌, ◌/◌, ◌%◌, ◌^◌, ◌<◌, ◌≤◌, List, [], ◌∷◌, ◌++◌, length, Option, Some, None, Ok, inl, inr, refl, arith, sym, ◌∙◌, ap, subst, length-append}
use Rattle.std.proofs.lemmas.Bool.{cases_eq, cases_lt}
use Rattle.std.proofs.lemmas.List.{get_or_append_left, get_or_past, get_or_push}
use Rattle.dict_value.specs.Numbers.{given}
use Rattle.dict_value.specs.declared.value.BadValue.TheVariants.{BadAddress}
use Rattle.std.proofs.lemmas.Nat.{shl-shr, shr-shr, shr_split}
use Rattle.std.proofs.lemmas.Option.{get_or_from_slice_get, slice_get_within}
use Rattle.dict_value.specs.Addresses.{IsPrefix, first_bits, prefix_of, prefix_width}
use Rattle.dict_value.specs.declared.value.Address.{Address}
use Rattle.dict_value.specs.declared.value.Address.TheVariants as address
use Rattle.dict_value.specs.declared.value.Prefix.{Prefix}
use Rattle.ip_trie.specs.Cells.{AreLeaves, HasBits, Shares, TellsBest, aligned, leaf_at, leaf_of, no_leaf, top}
use Rattle.ip_trie.specs.FindByAddress.{FindsByAddress, HasInCommon, HasPrefixAt, HoldsAddress, IsLongest, shortened}
use Rattle.ip_trie.specs.Kept.{AreLeavesOf}
use Rattle.ip_trie.specs.declared.cells.Leaf.{Leaf}

-- the bits of an address of a family
pub data IsBits : Address → Bool → ℕ → Type 0 where
  short : (n : ℕ) → IsBits (address.V4 n) false (n * 2 ^ 96)
  long : (n : ℕ) → IsBits (address.V6 n) true n

-- the first bits of an IPv4 address, of 128 or of 32
top-short : (count n : ℕ) → count ≤ 32 → top count (n * 2 ^ 96) ≡ n / 2 ^ (32 - count)
top-short count n l =
    let e : 96 + (32 - count) ≡ 128 - count = omega arith in
    subst (λ k. n * 2 ^ 96 / 2 ^ k ≡ n / 2 ^ (32 - count)) e (sym (shr-shr (n * 2 ^ 96) 96 (32 - count)) ∙ ap (λ (m : ℕ). m / 2 ^ (32 - count)) (shl-shr n 96))

same-prefix : (p : Prefix) (v6 : Bool) (bits len : ℕ) → p.v6 ≡ v6 → p.bits ≡ bits → p.len ≡ len → (let q : Prefix = record { v6 = v6; bits = bits; len = len } in q ≡ p)
same-prefix p v6 bits len a b c =
    sym (ap (λ v. let q : Prefix = record { v6 = v; bits = p.bits; len = p.len } in q) a
    ∙ (ap (λ z. let q : Prefix = record { v6 = v6; bits = z; len = p.len } in q) b
    ∙ ap (λ z. let q : Prefix = record { v6 = v6; bits = bits; len = z } in q) c))

-- the bits of a prefix are their first ones
whole-bits : (k bits : ℕ) → bits % 2 ^ k ≡ 0 → bits ≡ bits / 2 ^ k * 2 ^ k
whole-bits k bits z = let s = shr_split bits k in omega (arith, s, z)

-- the prefix is of the family and holds the bits
abbrev pub HoldsBits : Prefix → Bool → ℕ → Type 0
HoldsBits p v6 bits = (p.v6 ≡ v6) × (top p.len (aligned p.v6 p.bits) ≡ top p.len bits)

width-is : (p : Prefix) (v6 : Bool) → p.v6 ≡ v6 → prefix_width p ≡ cond v6 128 32
width-is p v6 e = ap (λ b. cond b 128 32) e

aligned-is : (p : Prefix) (v6 : Bool) → p.v6 ≡ v6 → aligned p.v6 p.bits ≡ aligned v6 p.bits
aligned-is p v6 e = ap (λ b. aligned b p.bits) e

pub holds-to : (p : Prefix) (a : Address) (v6 : Bool) (bits : ℕ) → IsPrefix p → IsBits a v6 bits → HoldsAddress p a → HoldsBits p v6 bits
holds-to p a v6 bits is (short n) h =
    let v : p.v6 ≡ false = sym (ap (λ (q : Prefix). q.v6) h) in
    let b : p.bits ≡ first_bits 32 p.len n = sym (ap (λ (q : Prefix). q.bits) h) in
    let l : p.len ≤ 32 = subst (λ k. p.len ≤ k) (width-is p false v) is.len in
    (v, ap (top p.len) (aligned-is p false v) ∙ (top-short p.len p.bits l ∙ (ap (λ (m : ℕ). m / 2 ^ (32 - p.len)) b ∙ (shl-shr (n / 2 ^ (32 - p.len)) (32 - p.len) ∙ sym (top-short p.len n l)))))
holds-to p a v6 bits is (long n) h =
    let v : p.v6 ≡ true = sym (ap (λ (q : Prefix). q.v6) h) in
    let b : p.bits ≡ first_bits 128 p.len n = sym (ap (λ (q : Prefix). q.bits) h) in
    (v, ap (top p.len) (aligned-is p true v) ∙ (ap (λ (m : ℕ). m / 2 ^ (128 - p.len)) b ∙ shl-shr (n / 2 ^ (128 - p.len)) (128 - p.len)))

pub holds-from : (p : Prefix) (a : Address) (v6 : Bool) (bits : ℕ) → IsPrefix p → IsBits a v6 bits → HoldsBits p v6 bits → HoldsAddress p a
holds-from p a v6 bits is (short n) (v, t) =
    let w = width-is p false v in
    let l : p.len ≤ 32 = subst (λ k. p.len ≤ k) w is.len in
    let c : p.bits % 2 ^ (32 - p.len) ≡ 0 = subst (λ k. p.bits % 2 ^ (k - p.len) ≡ 0) w is.cleared in
    let q : p.bits / 2 ^ (32 - p.len) ≡ n / 2 ^ (32 - p.len) = sym (top-short p.len p.bits l) ∙ (sym (ap (top p.len) (aligned-is p false v)) ∙ (t ∙ top-short p.len n l)) in
    same-prefix p false (first_bits 32 p.len n) p.len v (whole-bits (32 - p.len) p.bits c ∙ ap (λ m. m * 2 ^ (32 - p.len)) q) refl
holds-from p a v6 bits is (long n) (v, t) =
    let w = width-is p true v in
    let c : p.bits % 2 ^ (128 - p.len) ≡ 0 = subst (λ k. p.bits % 2 ^ (k - p.len) ≡ 0) w is.cleared in
    let q : p.bits / 2 ^ (128 - p.len) ≡ n / 2 ^ (128 - p.len) = sym (ap (top p.len) (aligned-is p true v)) ∙ t in
    same-prefix p true (first_bits 128 p.len n) p.len v (whole-bits (128 - p.len) p.bits c ∙ ap (λ m. m * 2 ^ (128 - p.len)) q) refl

-- so many bits in common
pub common-from : (p : Prefix) (a : Address) (v6 : Bool) (bits count : ℕ) → IsPrefix p → IsBits a v6 bits → p.v6 ≡ v6 → count ≤ p.len → top count (aligned p.v6 p.bits) ≡ top count bits → prefix_of a count ≡ shortened p count
common-from p a v6 bits count is (short n) v l t =
    let w = width-is p false v in
    let most : p.len ≤ 32 = subst (λ k. p.len ≤ k) w is.len in
    let q : p.bits / 2 ^ (32 - count) ≡ n / 2 ^ (32 - count) = sym (top-short count p.bits (omega arith)) ∙ (sym (ap (top count) (aligned-is p false v)) ∙ (t ∙ top-short count n (omega arith))) in
    same-prefix (shortened p count) false (first_bits 32 count n) count v (ap (λ k. first_bits k count p.bits) w ∙ ap (λ m. m * 2 ^ (32 - count)) q) refl
common-from p a v6 bits count is (long n) v l t =
    let w = width-is p true v in
    let q : p.bits / 2 ^ (128 - count) ≡ n / 2 ^ (128 - count) = sym (ap (top count) (aligned-is p true v)) ∙ t in
    same-prefix (shortened p count) true (first_bits 128 count n) count v (ap (λ k. first_bits k count p.bits) w ∙ ap (λ m. m * 2 ^ (128 - count)) q) refl

get-some : {A : Type 0} (xs : List A) (i : ℕ) → i < length xs → (x : A) × (slice_get xs i ≡ Some x)
get-some [] i l = absurd (omega (arith, l))
get-some (x ∷ xs) zero l = (x, refl)
get-some (x ∷ xs) (suc i) l = get-some xs i (omega arith)

module _ (texts : List (List ℕ)) (leaves : List Leaf) (read : AreLeavesOf texts leaves) (a : Address) (v6 : Bool) (bits : ℕ) (of : IsBits a v6 bits) where
  -- the prefix of a row
  row-prefix : (row : ℕ) → row < length leaves → (p : Prefix) × HasPrefixAt texts row p × IsPrefix p × (leaf_at leaves row ≡ leaf_of p)
  row-prefix row l =
      let text = get-some texts row (let n = read.len in omega (arith, n, l)) in
      let e = read.each row text.0 text.1 in
      (e.0, (text.0, text.1, e.1), e.2, get_or_from_slice_get leaves row (leaf_of e.0) no_leaf e.3)

  -- the leaf of a prefix
  prefix-row : (row : ℕ) (p : Prefix) → HasPrefixAt texts row p → (row < length leaves) × IsPrefix p × (leaf_at leaves row ≡ leaf_of p)
  prefix-row row p (text, here, reads) =
      let e = read.each row text here in
      let same : e.0 ≡ p = let x = e.1 in cc (x, reads) in
      (slice_get_within leaves row (leaf_of e.0) e.3, subst IsPrefix same e.2, get_or_from_slice_get leaves row (leaf_of e.0) no_leaf e.3 ∙ ap leaf_of same)

  has-from : (row : ℕ) (p : Prefix) → row < length leaves → IsPrefix p → leaf_at leaves row ≡ leaf_of p → HoldsAddress p a → HasBits leaves v6 bits row
  has-from row p l is e h =
      let q = holds-to p a v6 bits is of h in
      ((l, ap (λ (x : Leaf). x.v6) e ∙ q.0), subst (λ (x : Leaf). top x.len x.bits ≡ top x.len bits) (sym e) q.1)

  has-to : (row : ℕ) (p : Prefix) → IsPrefix p → leaf_at leaves row ≡ leaf_of p → HasBits leaves v6 bits row → HoldsAddress p a
  has-to row p is e (inside, same) =
      holds-from p a v6 bits is of (sym (ap (λ (x : Leaf). x.v6) e) ∙ inside.1, subst (λ (x : Leaf). top x.len x.bits ≡ top x.len bits) e same)

  -- the best row is the answer
  pub found-none : TellsBest leaves (HasBits leaves v6 bits) 0 → FindsByAddress texts a None
  found-none (inl (z, none)) = λ place p here holds.
      let r = prefix-row place p here in
      none place (has-from place p r.0 r.1 r.2 holds)
  found-none (inr t) = absurd (let is = t.1 in omega (arith, is))

  pub found-some : (cell : ℕ) → cell ≢ 0 → TellsBest leaves (HasBits leaves v6 bits) cell → FindsByAddress texts a (Some (cell - 1))
  found-some cell some (inl (z, none)) = absurd (some z)
  found-some cell some (inr (best, is, here, most)) =
      let e : best ≡ cell - 1 = omega (arith, is) in
      let p = row-prefix best here.0.0 in
      subst (IsLongest texts a) e (record {
        prefix = p.0;
        here = p.1;
        holds = has-to best p.0 p.2 p.3 here;
        longest = λ other q has holds.
            let r = prefix-row other q has in
            let lens : (leaf_at leaves best).len ≡ p.0.len = ap (λ (x : Leaf). x.len) p.3 in
            let lq : (leaf_at leaves other).len ≡ q.len = ap (λ (x : Leaf). x.len) r.2 in
            elim (most other (has-from other q r.0 r.1 r.2 holds)) [
              | inl less ↦ inl (omega (arith, less, lens, lq))
              | inr same ↦ inr (let s = same.0 in omega (arith, s, lens, lq), same.1)
            ];
      })

  -- what a row shares, its prefix has in common
  pub in-common : (count : ℕ) → (count ≡ 0) ⊎ Shares leaves v6 bits count → HasInCommon texts a count
  in-common count (inl none) = inl none
  in-common count (inr (row, inside, l, same)) =
      let p = row-prefix row inside.0 in
      let v : p.0.v6 ≡ v6 = sym (ap (λ (x : Leaf). x.v6) p.3) ∙ inside.1 in
      let len : (leaf_at leaves row).len ≡ p.0.len = ap (λ (x : Leaf). x.len) p.3 in
      let less : count ≤ p.0.len = omega (arith, l, len) in
      inr (row, p.0, p.1, less, common-from p.0 a v6 bits count p.2 of v less (subst (λ (x : Leaf). top count x.bits ≡ top count bits) p.3 same))

-- what was read of a text
pub reads-prefix : {text : Option Prefix} (seen : Option Prefix) (p : Prefix) → text ≡ seen → Ok p ≡ given seen BadAddress Ok → text ≡ Some p
reads-prefix None p same e = absurd (cc (e))
reads-prefix (Some q) p same e = let s : q ≡ p = cc (e) in same ∙ ap Some s

-- a leaf more
pub leaves-push : (leaves : List Leaf) (e : Leaf) → AreLeaves leaves → e.len ≤ 128 → e.bits < 2 ^ 128 → e.bits % 2 ^ (128 - e.len) ≡ 0 → AreLeaves (leaves ++ e ∷ [])
leaves-push leaves e sound len small cleared = record {
  len = λ row. at (λ (x : Leaf). x.len ≤ 128) row (sound.len row) len (omega arith);
  small = λ row. at (λ (x : Leaf). x.bits < 2 ^ 128) row (sound.small row) small (omega arith);
  cleared = λ row. at (λ (x : Leaf). x.bits % 2 ^ (128 - x.len) ≡ 0) row (sound.cleared row) cleared refl;
}
  where
    at : (P : Leaf → Type 0) (row : ℕ) → P (leaf_at leaves row) → P e → P no_leaf → P (leaf_at (leaves ++ e ∷ []) row)
    at P row old new none = elim (cases_lt row (length leaves)) [
      | inl less ↦ subst P (sym (get_or_append_left leaves (e ∷ []) no_leaf row less)) old
      | inr most ↦ elim (cases_eq row (length leaves)) [
        | inl last ↦ subst P (sym (get_or_push leaves e no_leaf row (sym last))) new
        | inr past ↦ subst P (sym (get_or_past (leaves ++ e ∷ []) row no_leaf (let l = length-append leaves (e ∷ []) in omega (arith, l, most, past)))) none
      ]
    ]
