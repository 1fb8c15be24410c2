-- What is kept of a row list is what its definition says.
use Rattle.std.specs.Prelude.{Contains}
use Rattle.std.specs.List.{slice_get}
use Rattle.std.specs.List.Sorted.{IsStrictlyIncreasing}
use Rattle.std.proofs.Common.{◌≡◌, ◌≢◌, ℕ, ◌+◌, ◌<◌, List, length, get_or, Some, inl, inr, refl, ap, arith, sym, ◌∙◌, subst}
use Rattle.std.proofs.lemmas.Bool.{cases_eq, cases_lt}
use Rattle.std.proofs.lemmas.List.{get_or_past}
use Rattle.std.proofs.lemmas.Option.{get_or_from_slice_get, slice_get_within}
use Rattle.dict_value.specs.FindByKey.{HasKeyAt, IsLeastPlace}
use Rattle.hier.specs.Hierarchy.{HasRow, IsParent}
use Rattle.hier.specs.Kept.{IsHierOf}
use Rattle.hier.specs.Members.{IsCounted, above}
use Rattle.hier.specs.declared.hier.Hier.{Hier}
use Rattle.hier.specs.declared.hier.Parent.{Parent}
use Rattle.hier.specs.declared.hier.Parent.TheVariants.{Of, Top}
use Rattle.hier.specs.steps.Linking.{IsUp, TellsRow}
use Rattle.hier.proofs.Lists.{at-get}

-- a number that isn't 0 stands in the list
some-within : (ns : List ℕ) (i : ℕ) → 0 < get_or ns i 0 → i < length ns
some-within ns i some = elim (cases_lt i (length ns)) [
  | inl less ↦ less
  | inr most ↦ let e = get_or_past ns i 0 most in absurd (omega (arith, e, some))
]

-- a count by rows is one by lengths
counted-by : (ups rows lengths : List ℕ) (member count : ℕ) → length rows ≡ length ups → ((m : ℕ) → get_or rows m 0 ≡ 0 → get_or lengths m 0 ≡ 0)
    → ((m : ℕ) → m < length ups → 0 < get_or rows m 0 → 0 < get_or lengths m 0) → IsCounted ups rows member count → IsCounted ups lengths member count
counted-by ups rows lengths member count len rowless row c = record {
  linked = c.linked;
  has_rows = λ i l. let r = c.has_rows i l in row (above ups i member) (let w = some-within rows (above ups i member) r in omega (arith, w, len)) r;
  apart = c.apart;
  stops = λ up long. c.stops up (elim (cases_eq (get_or rows (above ups count member) 0) 0) [
    | inl none ↦ let z = rowless (above ups count member) none in absurd (omega (arith, z, long))
    | inr some ↦ omega (arith, some)
  ]);
}

module _ (keys : List ℕ) (parents : List Parent) (members : List ℕ) where
  least : (key first : ℕ) → first < length keys → get_or keys first 0 ≡ key → ((place : ℕ) → place < first → get_or keys place 0 ≢ key) → IsLeastPlace keys key first
  least key first l here none = record {
    equal = at-get keys first key l here;
    least = λ earlier less has. none earlier less (get_or_from_slice_get keys earlier key 0 has);
  }

  least-one : (key a b : ℕ) → IsLeastPlace keys key a → IsLeastPlace keys key b → a ≡ b
  least-one key a b p q = elim (cases_lt a b) [
    | inl less ↦ absurd (q.least a less p.equal)
    | inr most ↦ elim (cases_lt b a) [
      | inl less ↦ absurd (p.least b less q.equal)
      | inr same ↦ omega arith
    ]
  ]

  up-is : (key number : ℕ) (parent : Parent) → IsUp members parent (number + 1) → (q : ℕ) × (parent ≡ Of q) × (get_or members number 0 ≡ q)
  up-is key number Top is = absurd (omega (arith, is))
  up-is key number (Of q) (other, e, l, named) =
      let same : other ≡ number = omega (arith, e) in
      (q, refl, subst (λ k. get_or members k 0 ≡ q) same named)

  no-up : (parent : Parent) → IsUp members parent 0 → (q : ℕ) → parent ≡ Of q → ⊥
  no-up Top is q e = cc (e)
  no-up (Of p) (other, e, l, named) q same = omega (arith, e)

  told-up : (key row up number : ℕ) → TellsRow keys parents members (length keys) key row up → up ≡ number + 1 → IsParent keys parents key (get_or members number 0)
  told-up key row up number (inl t) is = absurd (let u = t.1 in omega (arith, u, is))
  told-up key row up number (inr (first, parent, r, l, here, none, read, linked)) is =
      let q = up-is key number parent (subst (IsUp members parent) is linked) in
      (first, least key first l here none, read ∙ (ap Some q.1 ∙ ap (λ k. Some (Of k)) (sym q.2)))

  told-top : (key row up : ℕ) → TellsRow keys parents members (length keys) key row up → up ≡ 0 → (p : ℕ) → IsParent keys parents key p → ⊥
  told-top key row up (inl t) is p (place, l, read) =
      t.2 place (slice_get_within keys place key l.equal) (get_or_from_slice_get keys place key 0 l.equal)
  told-top key row up (inr (first, parent, r, l, here, none, got, linked)) is p (place, low, read) =
      let same = least-one key first place (least key first l here none) low in
      let got_there = subst (λ k. slice_get parents k ≡ Some parent) same got in
      let e : parent ≡ Of p = cc (got_there, read) in
      no-up parent (subst (IsUp members parent) is linked) p e

  told-none : (key row up : ℕ) → TellsRow keys parents members (length keys) key row up → row ≡ 0 → HasRow keys key → ⊥
  told-none key row up (inl t) is (place, has) = t.2 place (slice_get_within keys place key has) (get_or_from_slice_get keys place key 0 has)
  told-none key row up (inr t) is has = let e = t.2 in omega (arith, e, is)

  told-some : (key row up : ℕ) → TellsRow keys parents members (length keys) key row up → 0 < row → HasRow keys key
  told-some key row up (inl t) some = absurd (let e = t.0 in omega (arith, e, some))
  told-some key row up (inr (first, parent, r, l, here, none, read, linked)) some = (first, at-get keys first key l here)

  pub built : (hier : Hier) (rows : List ℕ) → hier.members.items ≡ members → IsStrictlyIncreasing members → length rows ≡ length members
      → ((place key : ℕ) → HasKeyAt keys key place → Contains members key)
      → ((place parent : ℕ) → slice_get parents place ≡ Some (Of parent) → Contains members parent)
      → ((m : ℕ) → m < length members → TellsRow keys parents members (length keys) (get_or members m 0) (get_or rows m 0) (get_or hier.ups.items m 0))
      → ((m : ℕ) → get_or rows m 0 ≡ 0 → get_or hier.lengths.items m 0 ≡ 0)
      → ((m : ℕ) → m < length hier.ups.items → 0 < get_or rows m 0 → 0 < get_or hier.lengths.items m 0)
      → ((m : ℕ) → 0 < get_or hier.lengths.items m 0 → IsCounted hier.ups.items rows m (get_or hier.lengths.items m 0))
      → IsHierOf keys parents hier
  built hier rows is rises len each each_parent told rowless row counted =
      let ups_len = hier.sound.ups_len in
      let same = ap length is in
      let at : (m : ℕ) → m < length hier.members.items → m < length members = λ m l. omega (arith, same, l) in
      record {
        rising = subst IsStrictlyIncreasing (sym is) rises;
        each = λ key has. subst (λ (z : List ℕ). Contains z key) (sym is) (each has.0 key has.1);
        each_parent = λ key parent p. subst (λ (z : List ℕ). Contains z parent) (sym is) (each_parent p.0 parent p.2);
        up = λ m number l e.
            subst (λ (z : List ℕ). IsParent keys parents (get_or z m 0) (get_or z number 0)) (sym is) (told-up (get_or members m 0) (get_or rows m 0) (get_or hier.ups.items m 0) number (told m (at m l)) e);
        top = λ m parent l e p.
            told-top (get_or members m 0) (get_or rows m 0) (get_or hier.ups.items m 0) (told m (at m l)) e parent (subst (λ (z : List ℕ). IsParent keys parents (get_or z m 0) parent) is p);
        rowless = λ m l e has. elim (cases_eq (get_or rows m 0) 0) [
          | inl none ↦ told-none (get_or members m 0) (get_or rows m 0) (get_or hier.ups.items m 0) (told m (at m l)) none (subst (λ (z : List ℕ). HasRow keys (get_or z m 0)) is has)
          | inr some ↦ let long = row m (omega (arith, ups_len, l)) (omega (arith, some)) in omega (arith, long, e)
        ];
        row = λ m l long. elim (cases_eq (get_or rows m 0) 0) [
          | inl none ↦ let e = rowless m none in absurd (omega (arith, e, long))
          | inr some ↦ subst (λ (z : List ℕ). HasRow keys (get_or z m 0)) (sym is) (told-some (get_or members m 0) (get_or rows m 0) (get_or hier.ups.items m 0) (told m (at m l)) (omega (arith, some)))
        ];
        counted = λ m l long. counted-by hier.ups.items rows hier.lengths.items m (get_or hier.lengths.items m 0) (omega (arith, len, ups_len, same)) rowless row (counted m long);
      }
