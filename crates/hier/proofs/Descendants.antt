-- Descendants, as keys and as members.
use Rattle.std.specs.Prelude.{Contains, ◌↔◌}
use Rattle.std.specs.List.{slice_get}
use Rattle.std.proofs.Common.{◌≡◌, ℕ, zero, suc, ◌-◌, ◌<◌, List, [], drop, length, map, get_or, Some, inl, inr, arith, sym, subst}
use Rattle.hier.specs.Hierarchy.{IsDescendant, IsRisingListOf, LongChainHas}
use Rattle.hier.specs.Kept.{IsHierOf}
use Rattle.hier.specs.Members.{IsFoundAt}
use Rattle.hier.specs.declared.hier.Hier.{Hier}
use Rattle.hier.specs.declared.hier.Parent.{Parent}
use Rattle.hier.specs.steps.Finding.{StandsFrom}
use Rattle.hier.proofs.ChainMembers.{has-from, has-to, level-short}
use Rattle.hier.proofs.Chains.{row-or}
use Rattle.hier.proofs.Finds.{found-within, keys-stand}
use Rattle.hier.proofs.Lists.{contains-at}

module _ (keys : List ℕ) (parents : List Parent) (hier : Hier) (h : IsHierOf keys parents hier) where
  -- in a long chain are members alone
  has-member : (other level key : ℕ) → LongChainHas keys parents other level key → Contains hier.members.items key
  has-member other level key (chain, is, inl here) = h.each key (is.rows level key here)
  has-member other level key (chain, is, inr end) = h.each_parent end.2.0 key end.2.2

  -- a key with a long chain is a member
  has-row : (other level key : ℕ) → LongChainHas keys parents other level key → Contains hier.members.items other
  has-row other level key (chain, is, how) = elim (row-or keys parents other) [
    | inl row ↦ h.each other row
    | inr none ↦
        let empty = is.none none in
        elim how [
          | inl here ↦ let e = subst (λ (z : List ℕ). slice_get z level ≡ Some key) empty here in absurd (cc (e))
          | inr end ↦
              let l = end.2 in
              let e = subst (λ (z : List ℕ). slice_get z (length z - 1) ≡ Some l.0) empty l.1 in
              absurd (cc (e))
        ]
  ]

  -- a key that is no member has no descendants
  pub no-descendants : (key level : ℕ) (list : List ℕ) → ¬ (Contains hier.members.items key) → list ≡ [] → IsRisingListOf (IsDescendant keys parents key level) list
  no-descendants key level list other empty =
      subst (IsRisingListOf (IsDescendant keys parents key level)) (sym empty) (record {
        rises = λ k l. absurd (omega (arith, l));
        each = λ n. (λ c. absurd (let l = c.1 in omega (arith, l)), λ d. absurd (other (member level n d)));
      })
    where
      member : (level n : ℕ) → IsDescendant keys parents key level n → Contains hier.members.items key
      member zero n (level, some, has) = has-member n level key has
      member (suc level) n has = has-member n (suc level) key has

  module _ (of key : ℕ) (lo : of < length hier.members.items) (named : get_or hier.members.items of 0 ≡ key) where
    found-to : (level n : ℕ) → IsDescendant keys parents key level n → (member : ℕ) × IsFoundAt hier.ups.items of level member × (get_or hier.members.items member 0 ≡ n)
    found-to zero n (level, some, has) =
        let m = contains-at hier.members.items n (has-row n level key has) in
        let r = has-to keys parents hier h m.0 m.1 of level lo some (subst (λ k. LongChainHas keys parents k level (get_or hier.members.items of 0)) (sym m.2) (subst (λ k. LongChainHas keys parents n level k) (sym named) has)) in
        (m.0, (level, some, level-short keys parents hier h m.0 m.1 of level some r, r), m.2)
    found-to (suc level) n has =
        let m = contains-at hier.members.items n (has-row n (suc level) key has) in
        (m.0, has-to keys parents hier h m.0 m.1 of (suc level) lo (omega arith) (subst (λ k. LongChainHas keys parents k (suc level) (get_or hier.members.items of 0)) (sym m.2) (subst (λ k. LongChainHas keys parents n (suc level) k) (sym named) has)), m.2)

    found-from : (level member : ℕ) → IsFoundAt hier.ups.items of level member → IsDescendant keys parents key level (get_or hier.members.items member 0)
    found-from zero member (level, some, short, r) =
        let w = found-within hier.ups.items of 0 member (level, some, short, r) in
        let n = hier.sound.ups_len in
        (level, some, subst (λ k. LongChainHas keys parents (get_or hier.members.items member 0) level k) named (has-from keys parents hier h member (omega (arith, w, n)) of level lo some r))
    found-from (suc level) member r =
        let w = found-within hier.ups.items of (suc level) member r in
        let n = hier.sound.ups_len in
        subst (λ k. LongChainHas keys parents (get_or hier.members.items member 0) (suc level) k) named (has-from keys parents hier h member (omega (arith, w, n)) of (suc level) lo (omega arith) r)

    -- the keys of the members that were found, rising
    pub descendants-all : (level start : ℕ) (found keys_found list : List ℕ) → ((other : ℕ) → StandsFrom found start other ↔ IsFoundAt hier.ups.items of level other)
        → keys_found ≡ map (λ m. get_or hier.members.items m 0) (drop start found) → IsRisingListOf (Contains keys_found) list → IsRisingListOf (IsDescendant keys parents key level) list
    descendants-all level start found keys_found list told is r = record {
      rises = r.rises;
      each = λ n.
          let s = keys-stand hier.members.items found keys_found start n is in (
            λ c.
                let q = s.0 ((r.each n).0 c) in
                subst (IsDescendant keys parents key level) q.2 (found-from level q.0 ((told q.0).0 q.1)),
            λ d.
                let q = found-to level n d in
                (r.each n).1 (s.1 (q.0, (told q.0).1 q.1, q.2)),
          );
    }
