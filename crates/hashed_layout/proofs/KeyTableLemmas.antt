-- Lemmas on the table of a list of key lists.
use Rattle.std.proofs.Common.{◌≡◌, ◌≢◌, ◌↔◌, ℕ, zero, suc, ◌+◌, ◌-◌, ◌<◌, ◌≤◌, cond, true, false, eqb, List, [], ◌∷◌, ◌++◌, length, take, drop, get_or, set, replicate, Option, Some, None, inl, inr, refl, ap, arith, sym, ◌∙◌, subst, length-set, length-append, append-nil, ne_eqb, get_or-set_same, get_or-set_other}
use Rattle.std.specs.List.{slice_get}
use Rattle.std.specs.Prelude.{Bool, IsTrue, is_some}
use Rattle.std.proofs.Math.Seq.{drop-append_seam, take-length}
use Rattle.std.proofs.lemmas.Bool.{cases_eq, cases_lt}
use Rattle.std.proofs.lemmas.List.{append_assoc, drop-append-le, drop_all, get_or-replicate, get_or_default, get_or_past, length-drop, length-replicate}
use Rattle.std.proofs.lemmas.Option.{slice_get-get_or, slice_get_past, slice_get_read, slice_get_within}
use Rattle.dict_value.specs.FindByKey.{FindsByKey, HasKeyAt, IsLeastPlace}
use Rattle.dict_value.specs.declared.value.Value.{Value}
use Rattle.hashed_layout.specs.KeyBytes.{BeginsWithKey, key_bytes}
use Rattle.hashed_layout.specs.KeyTables.{IsKeyTableOf, key_held, key_home, number_at, number_below_tag, entry_start, tag_in, tag_of}
use Rattle.hashed_layout.specs.Probing.{IsMet}
use Rattle.hashed_layout.specs.declared.complex.Entry.{Entry}
use Rattle.hashed_layout.specs.steps.Filling.{Lands, Passes}
use Rattle.hashed_layout.specs.steps.KeyFilling.{IsKeyTableTo, IsLeastOf, Skips, Stops, StopsAt, TellsKey, zeros}
use Rattle.hashed_layout.proofs.KeyLemmas.{keys-same}
use Rattle.hashed_layout.proofs.Lists.{get-append_here, get-append_left, zeros-replicate, zeros-set}
use Rattle.hashed_layout.proofs.Probes.{free-ends, met-here, met-new, met-still, passed-all, probed-by}

-- ---- the bytes of a key

no-key : (key : List Value) (rest : List ℕ) → [] ≡ key_bytes key ++ rest → ⊥
no-key [] rest e = absurd (cc (e))
no-key (v ∷ vs) rest e = absurd (cc (e))

pub begins-within : (bytes : List ℕ) (start : ℕ) (key : List Value) → BeginsWithKey (drop start bytes) key → start < length bytes
begins-within bytes start key b = elim (cases_lt start (length bytes)) [
  | inl within ↦ within
  | inr past ↦ absurd (no-key key b.0 (sym (drop_all start bytes past) ∙ b.1))
]

pub begins-one : (bytes : List ℕ) (a b : List Value) → BeginsWithKey bytes a → BeginsWithKey bytes b → a ≡ b
begins-one bytes a b f g = keys-same a b f.0 g.0 (sym f.1 ∙ g.1)

-- a cell with another tag tells another key
pub other-tag : (entries : List Entry) (bytes : List ℕ) (key : List Value) (cell : ℕ) (b : Bool) → b ≡ false → tag_in cell ≢ tag_of key → IsTrue b ↔ TellsKey entries bytes key cell
other-tag entries bytes key cell b untrue other = (λ t. absurd (cc (t, untrue)), λ tells. absurd (other tells.0))

-- the entry that was read tells whether the key is told
pub told-by : (entries : List Entry) (bytes : List ℕ) (key : List Value) (cell : ℕ) (entry : Entry) (b : Bool) → tag_in cell ≡ tag_of key
    → slice_get entries (number_below_tag cell - 1) ≡ Some entry → (IsTrue b ↔ BeginsWithKey (drop (entry_start entry) bytes) key) → IsTrue b ↔ TellsKey entries bytes key cell
told-by entries bytes key cell entry b tag here h = (
  λ t. (tag, entry, here, h.0 t),
  λ tells. let same : tells.1 ≡ entry = cc (tells.2, here) in h.1 (subst (λ (e : Entry). BeginsWithKey (drop (entry_start e) bytes) key) same tells.3),
)

-- ---- what the cells hold

module _ (distinct : List (List Value)) (bytes : List ℕ) (entries : List Entry) (cells : List ℕ) (same : length entries ≡ length distinct)
    (stored : (n : ℕ) (key : List Value) (entry : Entry) → slice_get distinct n ≡ Some key → slice_get entries n ≡ Some entry → BeginsWithKey (drop (entry_start entry) bytes) key)
    (numbered : (i : ℕ) → i < length cells → number_at cells i ≤ length distinct)
    (tagged : (i : ℕ) (key : List Value) → key_held distinct cells i ≡ Some key → tag_in (get_or cells i 0) ≡ tag_of key) where
  held-of : (i : ℕ) (n : ℕ) → number_at cells i ≡ n → n ≢ 0 → key_held distinct cells i ≡ slice_get distinct (n - 1)
  held-of i n is some =
      ap (λ m. cond (eqb m 0) None (slice_get distinct (m - 1))) is ∙ ap (λ b. cond b None (slice_get distinct (n - 1))) (ne_eqb n 0 some)

  pub held-none : (i : ℕ) → number_at cells i ≡ 0 → key_held distinct cells i ≡ None
  held-none i free = ap (λ m. cond (eqb m 0) None (slice_get distinct (m - 1))) free

  -- a taken cell holds a key, whose tag it has, and whose bytes its entry has
  held-some : (i : ℕ) → i < length cells → number_at cells i ≢ 0
      → (key : List Value) × (key_held distinct cells i ≡ Some key) × (slice_get distinct (number_at cells i - 1) ≡ Some key) × TellsKey entries bytes key (get_or cells i 0)
  held-some i within some =
      let n = number_at cells i in
      let most = numbered i within in
      let key = get_or distinct (n - 1) [] in
      let entry = get_or entries (n - 1) (record { low = 0; high = 0; place = 0 }) in
      let here : slice_get distinct (n - 1) ≡ Some key = slice_get-get_or distinct (n - 1) [] (omega (arith, most)) in
      let at : slice_get entries (n - 1) ≡ Some entry = slice_get-get_or entries (n - 1) _ (omega (arith, most, same)) in
      let held = held-of i n refl some ∙ here in
      (key, held, here, (tagged i key held, entry, at, stored (n - 1) key entry here at))

  -- a cell that tells the key holds it
  pub tells-held : (i : ℕ) (key : List Value) → i < length cells → number_at cells i ≢ 0 → TellsKey entries bytes key (get_or cells i 0)
      → (key_held distinct cells i ≡ Some key) × (slice_get distinct (number_at cells i - 1) ≡ Some key)
  tells-held i key within some tells =
      let h = held-some i within some in
      let entry : h.3.1 ≡ tells.1 = cc (h.3.2, tells.2) in
      let is : h.0 ≡ key = begins-one (drop (entry_start tells.1) bytes) h.0 key (subst (λ (e : Entry). BeginsWithKey (drop (entry_start e) bytes) h.0) entry h.3.3) tells.3 in
      (h.1 ∙ ap Some is, h.2 ∙ ap Some is)

  -- a cell that is skipped holds another key
  skips-other : (key : List Value) (i : ℕ) → Skips entries bytes cells key i → (other : List Value) × (key_held distinct cells i ≡ Some other) × (other ≢ key)
  skips-other key i s =
      let h = held-some i s.0 s.1 in
      (h.0, h.1, λ e. s.2 (subst (λ k. TellsKey entries bytes k (get_or cells i 0)) e h.3))

  pub passed : (key : List Value) → StopsAt entries bytes cells key None
      → (probe : ℕ) → probe < length cells → Passes (length cells) (key_home (length cells) key) (key_held distinct cells) key probe
  passed key all probe near = skips-other key _ (all probe near)

  pub lands : (key : List Value) (i : ℕ) → i < length cells → Stops entries bytes cells key i → Lands (length cells) (key_home (length cells) key) (key_held distinct cells) key i
  lands key i within s = record {
    probe = s.probe;
    near = s.near;
    at = s.at;
    passes = λ earlier less. skips-other key _ (s.skips earlier less);
    stops = elim s.stops [
      | inl free ↦ inl (held-none i free)
      | inr tells ↦ elim (cases_eq (number_at cells i) 0) [
        | inl free ↦ inl (held-none i free)
        | inr some ↦ inr ((tells-held i key within some tells).0)
      ]
    ];
  }

-- ---- what is found

module _ (keys : List (List Value)) (bytes : List ℕ) (entries : List Entry) (cells : List ℕ) (key : List Value) (t : IsKeyTableOf keys bytes entries cells) where
  begins : (n : ℕ) (k : List Value) (entry : Entry) → slice_get t.distinct n ≡ Some k → slice_get entries n ≡ Some entry → BeginsWithKey (drop (entry_start entry) bytes) k
  begins n k entry here at = (t.stored n k entry here at).0

  pub found-nowhere : StopsAt entries bytes cells key None → FindsByKey keys key None
  found-nowhere all = λ place has.
      passed-all (length cells) (key_home (length cells) key) (key_held t.distinct cells) key (t.met place key has)
      (passed t.distinct bytes entries cells t.count begins t.numbered t.tagged key all)

  pub found-free : (i : ℕ) → i < length cells → Stops entries bytes cells key i → number_at cells i ≡ 0 → FindsByKey keys key None
  found-free i within s free = λ place has.
      free-ends (length cells) (key_home (length cells) key) (key_held t.distinct cells) key i
      (lands t.distinct bytes entries cells t.count begins t.numbered t.tagged key i within s)
      (held-none t.distinct bytes entries cells t.count begins t.numbered t.tagged i free) (t.met place key has)

  pub found-taken : (i : ℕ) (entry : Entry) → i < length cells → Stops entries bytes cells key i → number_at cells i ≢ 0
      → slice_get entries (number_at cells i - 1) ≡ Some entry → IsLeastPlace keys key entry.place
  found-taken i entry within s some at = elim s.stops [
    | inl free ↦ absurd (some free)
    | inr tells ↦
        let h = tells-held t.distinct bytes entries cells t.count begins t.numbered t.tagged i key within some tells in
        (t.stored (number_at cells i - 1) key entry h.1 at).1
  ]

-- ---- a row more

zeros-none : (cs : List ℕ) → ((i : ℕ) → i < length cs → get_or cs i 0 ≢ 0) → zeros cs ≡ 0
zeros-none [] taken = refl
zeros-none (zero ∷ cs) taken = absurd (taken 0 (omega arith) refl)
zeros-none (suc c ∷ cs) taken = zeros-none cs (λ i less. taken (suc i) (omega arith))

-- where each probe meets another key there is no free cell
pub full-keys : (entries : List Entry) (bytes cells : List ℕ) (key : List Value) → key_home (length cells) key < length cells → StopsAt entries bytes cells key None → zeros cells ≡ 0
full-keys entries bytes cells key home all =
    zeros-none cells (λ i less.
    let p = probed-by (length cells) (key_home (length cells) key) i home less in
    let some = subst (λ j. number_at cells j ≢ 0) p.2 ((all p.0 p.1).1) in
    λ none. some (ap number_below_tag none))

more : (keys : List (List Value)) (n : ℕ) (key : List Value) (place : ℕ) → IsLeastOf keys n key place → IsLeastOf keys (n + 1) key place
more keys n key place h = let w = h.within in record { within = omega (arith, w); equal = h.equal; least = h.least }

module _ (keys : List (List Value)) (bytes : List ℕ) (entries : List Entry) (cells : List ℕ) (row : ℕ) (key : List Value) (here : HasKeyAt keys key row)
    (t : IsKeyTableTo keys row bytes entries cells) (i : ℕ) (within : i < length cells) (s : Stops entries bytes cells key i) where
  begins-at : (n : ℕ) (k : List Value) (entry : Entry) → slice_get t.distinct n ≡ Some k → slice_get entries n ≡ Some entry → BeginsWithKey (drop (entry_start entry) bytes) k
  begins-at n k entry here at = (t.stored n k entry here at).0

  landed : Lands (length cells) (key_home (length cells) key) (key_held t.distinct cells) key i
  landed = lands t.distinct bytes entries cells t.same begins-at t.numbered t.tagged key i within s

  -- the key of the row that was put
  the-key : (k : List Value) (place : ℕ) → row ≡ place → HasKeyAt keys k place → key ≡ k
  the-key k place e has = let at : HasKeyAt keys k row = subst (λ p. HasKeyAt keys k p) (sym e) has in cc (here, at)

  -- a row whose key the table has
  pub kept-key : number_at cells i ≢ 0 → IsKeyTableTo keys (row + 1) bytes entries cells
  kept-key some = record {
    distinct = t.distinct;
    same = t.same;
    few = let f = t.few in omega (arith, f);
    stored = λ n k entry here at. let h = t.stored n k entry here at in (h.0, more keys row k entry.place h.1);
    numbered = t.numbered;
    tagged = t.tagged;
    met = λ place k less has. elim (cases_lt place row) [
      | inl old ↦ t.met place k old has
      | inr new ↦
          let e : row ≡ place = omega arith in
          let tells : TellsKey entries bytes key (get_or cells i 0) = elim s.stops [ inl free ↦ absurd (some free) | inr tells ↦ tells ] in
          let held = (tells-held t.distinct bytes entries cells t.same begins-at t.numbered t.tagged i key within some tells).0 in
          subst (λ k. IsMet (length cells) (key_home (length cells) k) (key_held t.distinct cells) k) (the-key k place e has)
          (met-here (length cells) (key_home (length cells) key) (key_held t.distinct cells) key i landed held)
    ];
    room = let r = t.room in omega (arith, r);
  }

  -- a row with a new key
  module _ (free : number_at cells i ≡ 0) (entry : Entry) (start : entry_start entry ≡ length bytes) (place : entry.place ≡ row) (cell : ℕ)
      (number : number_below_tag cell ≡ length entries + 1) (tag : tag_in cell ≡ tag_of key) where
    more-keys : List (List Value)
    more-keys = t.distinct ++ key ∷ []

    more-cells : List ℕ
    more-cells = set cells i cell

    new-key : (p : ℕ) → p < row → HasKeyAt keys key p → ⊥
    new-key p less has =
        free-ends (length cells) (key_home (length cells) key) (key_held t.distinct cells) key i landed
        (held-none t.distinct bytes entries cells t.same begins-at t.numbered t.tagged i free) (t.met p key less has)

    cell-new : get_or (set cells i cell) i 0 ≡ cell
    cell-new = get_or-set_same cells i cell 0 within

    cell-old : (j : ℕ) → j ≢ i → get_or (set cells i cell) j 0 ≡ get_or cells j 0
    cell-old j other = get_or-set_other cells i j cell 0 other

    held-new : key_held more-keys more-cells i ≡ Some key
    unfolding more-keys more-cells
    held-new =
        let is : number_at (set cells i cell) i ≡ length entries + 1 = ap number_below_tag cell-new ∙ number in
        let n : length entries + 1 - 1 ≡ length t.distinct = let e = t.same in omega (arith, e) in
        ap (λ m. cond (eqb m 0) None (slice_get (t.distinct ++ key ∷ []) (m - 1))) is
        ∙ ap (λ b. cond b None (slice_get (t.distinct ++ key ∷ []) (length entries + 1 - 1))) (ne_eqb (length entries + 1) 0 (λ e. omega (arith, e)))
        ∙ ap (slice_get (t.distinct ++ key ∷ [])) n ∙ get-append_here t.distinct key

    held-old : (j : ℕ) → j ≢ i → key_held more-keys more-cells j ≡ key_held t.distinct cells j
    unfolding more-keys more-cells
    held-old j other =
        let is : number_at (set cells i cell) j ≡ number_at cells j = ap number_below_tag (cell-old j other) in
        ap (λ m. cond (eqb m 0) None (slice_get (t.distinct ++ key ∷ []) (m - 1))) is
        ∙ elim (cases_eq (number_at cells j) 0) [
          | inl none ↦
              ap (λ m. cond (eqb m 0) None (slice_get (t.distinct ++ key ∷ []) (m - 1))) none
              ∙ sym (ap (λ m. cond (eqb m 0) None (slice_get t.distinct (m - 1))) none)
          | inr some ↦
              let inside : j < length cells = elim (cases_lt j (length cells)) [
                | inl less ↦ less
                | inr past ↦ absurd (some (ap number_below_tag (get_or_past cells j 0 past)))
              ] in
              let most = t.numbered j inside in
              ap (λ o. cond (eqb (number_at cells j) 0) None o) (get-append_left t.distinct (key ∷ []) (number_at cells j - 1) (omega (arith, most)))
        ]

    tagged-new : (j : ℕ) (k : List Value) → key_held more-keys more-cells j ≡ Some k → tag_in (get_or (set cells i cell) j 0) ≡ tag_of k
    tagged-new j k held = elim (cases_eq j i) [
      | inl e ↦
          let here : key_held more-keys more-cells i ≡ Some k = subst (λ m. key_held more-keys more-cells m ≡ Some k) e held in
          let is : key ≡ k = cc (held-new, here) in
          ap (λ m. tag_in (get_or (set cells i cell) m 0)) e ∙ (ap tag_in cell-new ∙ (tag ∙ ap tag_of is))
      | inr other ↦ ap tag_in (cell-old j other) ∙ t.tagged j k (sym (held-old j other) ∙ held)
    ]

    stored-new : (n : ℕ) (k : List Value) (e : Entry) → slice_get (t.distinct ++ key ∷ []) n ≡ Some k → slice_get (entries ++ entry ∷ []) n ≡ Some e
        → BeginsWithKey (drop (entry_start e) (bytes ++ key_bytes key)) k × IsLeastOf keys (row + 1) k e.place
    stored-new n k e has at = elim (cases_lt n (length entries)) [
      | inl old ↦
          let same = t.same in
          let h = t.stored n k e (sym (get-append_left t.distinct (key ∷ []) n (omega (arith, same))) ∙ has) (sym (get-append_left entries (entry ∷ []) n old) ∙ at) in
          let inside = begins-within bytes (entry_start e) k h.0 in
          let longer : drop (entry_start e) (bytes ++ key_bytes key) ≡ key_bytes k ++ (h.0.0 ++ key_bytes key) =
          drop-append-le (entry_start e) bytes (key_bytes key) (omega (arith, inside)) ∙ ap (λ l. l ++ key_bytes key) h.0.1 ∙ append_assoc (key_bytes k) h.0.0 (key_bytes key) in
          ((h.0.0 ++ key_bytes key, longer), more keys row k e.place h.1)
      | inr last ↦ elim (cases_lt (length entries) n) [
        | inl past ↦ absurd (
            let long = length-append entries (entry ∷ []) in
            let none = slice_get_past (entries ++ entry ∷ []) n (omega (arith, long)) in
            cc (none, at))
        | inr most ↦
            let n-is : length entries ≡ n = omega arith in
            let m-is : length t.distinct ≡ n = sym t.same ∙ n-is in
            let e-is : Some entry ≡ Some e = sym (get-append_here entries entry) ∙ (ap (slice_get (entries ++ entry ∷ [])) n-is ∙ at) in
            let k-is : Some key ≡ Some k = sym (get-append_here t.distinct key) ∙ (ap (slice_get (t.distinct ++ key ∷ [])) m-is ∙ has) in
            let entry-is : entry ≡ e = cc (e-is) in
            let key-is : key ≡ k = cc (k-is) in
            let begins : drop (entry_start entry) (bytes ++ key_bytes key) ≡ key_bytes key ++ [] =
            ap (λ m. drop m (bytes ++ key_bytes key)) start ∙ drop-append_seam bytes (key_bytes key) ∙ sym (append-nil (key_bytes key)) in
            let least : IsLeastOf keys (row + 1) key entry.place = record {
              within = omega (arith, place);
              equal = subst (λ p. HasKeyAt keys key p) (sym place) here;
              least = λ earlier less has. new-key earlier (omega (arith, place)) has;
            } in
            subst (λ (x : Entry). BeginsWithKey (drop (entry_start x) (bytes ++ key_bytes key)) k × IsLeastOf keys (row + 1) k x.place) entry-is
            (subst (λ y. BeginsWithKey (drop (entry_start entry) (bytes ++ key_bytes key)) y × IsLeastOf keys (row + 1) y entry.place) key-is (([], begins), least))
      ]
    ]

    pub added-key : IsKeyTableTo keys (row + 1) (bytes ++ key_bytes key) (entries ++ entry ∷ []) (set cells i cell)
    unfolding more-keys more-cells
    added-key =
        let size : length (set cells i cell) ≡ length cells = length-set cells i cell in
        let long-keys = length-append t.distinct (key ∷ []) in
        let long-entries = length-append entries (entry ∷ []) in
        let same = t.same in
        record {
          distinct = t.distinct ++ key ∷ [];
          same = omega (arith, long-keys, long-entries, same);
          few = let f = t.few in omega (arith, f, long-entries);
          stored = stored-new;
          numbered = λ j less. elim (cases_eq j i) [
            | inl e ↦
                let at : number_at (set cells i cell) j ≡ length entries + 1 = ap (λ m. number_at (set cells i cell) m) e ∙ (ap number_below_tag cell-new ∙ number) in
                omega (arith, at, long-keys, same)
            | inr other ↦
                let is : number_at (set cells i cell) j ≡ number_at cells j = ap number_below_tag (cell-old j other) in
                let most = t.numbered j (omega (arith, size)) in
                omega (arith, is, most, long-keys)
          ];
          tagged = tagged-new;
          met = λ p k less has. subst (λ m. IsMet m (key_home m k) (key_held (t.distinct ++ key ∷ []) (set cells i cell)) k) (sym size) (elim (cases_lt p row) [
            | inl old ↦
                met-still (length cells) (key_held t.distinct cells) (key_held more-keys more-cells) i
                (held-none t.distinct bytes entries cells t.same begins-at t.numbered t.tagged i free) held-old (key_home (length cells) k) k (t.met p k old has)
            | inr new ↦
                let e : row ≡ p = omega arith in
                subst (λ k. IsMet (length cells) (key_home (length cells) k) (key_held more-keys more-cells) k) (the-key k p e has)
                (met-new (length cells) (key_held t.distinct cells) (key_held more-keys more-cells) i
                (held-none t.distinct bytes entries cells t.same begins-at t.numbered t.tagged i free) held-old (key_home (length cells) key) key landed held-new)
          ]);
          room = let r = t.room in let z = zeros-set cells i cell in omega (arith, r, z, size);
        }

-- ---- the whole table

nothing-held : (cells : List ℕ) (i : ℕ) (key : List Value) → key_held [] cells i ≢ Some key
nothing-held cells i key held = nothing (eqb (number_at cells i) 0) held
  where
    nothing : (b : Bool) → cond b None None ≡ Some key → ⊥
    nothing true e = absurd (cc (e))
    nothing false e = absurd (cc (e))

pub no-rows : (keys : List (List Value)) (n : ℕ) → IsKeyTableTo keys 0 [] [] (replicate n 0)
no-rows keys n = record {
  distinct = [];
  same = refl;
  few = omega arith;
  stored = λ n key entry here at. absurd (cc (here));
  numbered = λ i less. let z = get_or-replicate {A = ℕ} n i 0 0 (let l = length-replicate {A = ℕ} n 0 in omega (arith, l)) in omega (arith, z);
  tagged = λ i key held. absurd (nothing-held (replicate n 0) i key held);
  met = λ place key less has. absurd (omega arith);
  room = let z = zeros-replicate n in let l = length-replicate {A = ℕ} n 0 in omega (arith, z, l);
}

pub all-rows : (keys : List (List Value)) (bytes : List ℕ) (entries : List Entry) (cells : List ℕ) → IsKeyTableTo keys (length keys) bytes entries cells → IsKeyTableOf keys bytes entries cells
all-rows keys bytes entries cells t = record {
  distinct = t.distinct;
  count = t.same;
  stored = λ n key entry here at.
      let h = t.stored n key entry here at in
      let least = h.1 in
      (h.0, record { equal = least.equal; least = least.least });
  numbered = t.numbered;
  tagged = t.tagged;
  met = λ place key has. t.met place key (slice_get_within keys place key has) has;
}

-- ---- what the code reads

-- the same of lists that are the same
pub stops-moved : (es fs : List Entry) (bs ds cs gs : List ℕ) (key : List Value) (end : Option ℕ) → es ≡ fs → bs ≡ ds → cs ≡ gs → StopsAt es bs cs key end → StopsAt fs ds gs key end
stops-moved es fs bs ds cs gs key end e b c h =
    subst (λ (x : List Entry). StopsAt x ds gs key end) e (subst (λ (y : List ℕ). StopsAt es y gs key end) b (subst (λ (z : List ℕ). StopsAt es bs z key end) c h))

-- a number and an entry that were read
pub number-read : (cells : List ℕ) (i n : ℕ) → i < length cells → n ≡ get_or cells i n → get_or cells i 0 ≡ n
number-read cells i n within is = get_or_default cells i 0 n within ∙ sym is

pub entry-read : (es fs : List Entry) (n m : ℕ) (entry : Entry) → es ≡ fs → n ≡ m → n < length es → entry ≡ get_or es n entry → slice_get fs m ≡ Some entry
entry-read es fs n m entry same at within is =
    subst (λ k. slice_get fs k ≡ Some entry) at (subst (λ (x : List Entry). slice_get x n ≡ Some entry) same (slice_get_read es (length es) n entry refl within is))

pub row-read : (keys : List (List Value)) (row : ℕ) (key : List Value) → row < length keys → key ≡ get_or keys row key → HasKeyAt keys key row
row-read keys row key within is = slice_get_read keys (length keys) row key refl within is

-- the bytes from a place on
pub bytes-from : (bytes : List ℕ) (start : ℕ) → take (length bytes - start) (drop start bytes) ≡ drop start bytes
bytes-from bytes start = ap (λ n. take n (drop start bytes)) (sym (length-drop start bytes)) ∙ take-length (drop start bytes)

-- whether something is found
pub has-told : (keys : List (List Value)) (key : List Value) (o : Option ℕ) (b : Bool) → b ≡ is_some o → FindsByKey keys key o → IsTrue b ↔ ((place : ℕ) × HasKeyAt keys key place)
has-told keys key None b e f = (λ t. absurd (cc (e, t)), λ h. absurd (f h.0 h.1))
has-told keys key (Some p) b e f = (λ t. (p, f.equal), λ h. e)

-- the same table, given otherwise
pub table-moved : (keys : List (List Value)) (row : ℕ) (bs ds : List ℕ) (es fs : List Entry) (cs : List ℕ) → bs ≡ ds → es ≡ fs
    → IsKeyTableTo keys row ds fs cs → IsKeyTableTo keys row bs es cs
table-moved keys row bs ds es fs cs b e t =
    subst (λ (x : List ℕ). IsKeyTableTo keys row x es cs) (sym b) (subst (λ (x : List Entry). IsKeyTableTo keys row ds x cs) (sym e) t)
