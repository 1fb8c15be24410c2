-- What stands is one list, of the rows' types and with one row for each key.
use Rattle.std.proofs.Common.{◌≡◌, ◌≢◌, ◌<◌, ◌⊎◌, ◌++◌, ℕ, zero, suc, List, [], ◌∷◌, map, take, Some, Contains, refl, sym, ◌∙◌, ap, subst, inl, inr, arith, get_or, slice_get, option_map}
use Rattle.std.specs.List.{All, AllPairs, AllZip}
use Rattle.std.proofs.lemmas.List.Elements.{All-append}
use Rattle.std.proofs.lemmas.Option.{none-some, same_Some, slice_get_within, slice_get-get_or, slice_get-map, get_or_from_slice_get}
use Rattle.dict_value.specs.Values.{FitsColumn}
use Rattle.dict_value.specs.declared.value.AttrType.{AttrType}
use Rattle.dict_value.specs.declared.value.Value.{Value}
use Rattle.packed_rows.specs.Columns.{RowList}
use Rattle.overlay.specs.Overlays.{HaveTypes, keys_of, Overlay}

-- numbers that rise
abbrev Rises : List ℕ → Type 0
Rises xs = AllPairs (λ earlier later. earlier < later) xs

contains-tail : (x : ℕ) (xs : List ℕ) (z : ℕ) → Contains xs z → Contains (x ∷ xs) z
contains-tail x xs z (k, l, e) = (suc k, omega (arith, l), e)

contains-cases : (x : ℕ) (xs : List ℕ) (z : ℕ) → Contains (x ∷ xs) z → (x ≡ z) ⊎ Contains xs z
contains-cases x xs z (zero, l, e) = inl e
contains-cases x xs z (suc k, l, e) = inr (k, omega (arith, l), e)

rises-tail : (x : ℕ) (xs : List ℕ) → Rises (x ∷ xs) → Rises xs
rises-tail x xs r i j d h l = r (suc i) (suc j) d (omega arith) (omega arith)

head-below : (x : ℕ) (xs : List ℕ) (z : ℕ) → Rises (x ∷ xs) → Contains xs z → x < z
head-below x xs z r (k, l, e) = subst (λ (n : ℕ). x < n) e (r 0 (suc k) z (omega arith) (omega arith))

-- two rising lists of the same numbers are one
same-rising : (xs ys : List ℕ) → Rises xs → Rises ys → ((z : ℕ) → Contains xs z → Contains ys z) → ((z : ℕ) → Contains ys z → Contains xs z) → xs ≡ ys
same-rising [] [] r s there back = refl
same-rising [] (y ∷ ys) r s there back = absurd (let c = back y (0, omega arith, refl) in let l : c.0 < 0 = c.1 in omega arith)
same-rising (x ∷ xs) [] r s there back = absurd (let c = there x (0, omega arith, refl) in let l : c.0 < 0 = c.1 in omega arith)
same-rising (x ∷ xs) (y ∷ ys) r s there back =
    let first : x ≡ y = heads (contains-cases y ys x (there x (0, omega arith, refl))) (contains-cases x xs y (back y (0, omega arith, refl))) in
    ap (λ (ns : List ℕ). x ∷ ns) (same-rising xs ys (rises-tail x xs r) (rises-tail y ys s) (down first) (up first)) ∙ ap (λ (n : ℕ). n ∷ ys) first
  where
    heads : (y ≡ x) ⊎ Contains ys x → (x ≡ y) ⊎ Contains xs y → x ≡ y
    heads (inl e) q = sym e
    heads (inr p) (inl e) = e
    heads (inr p) (inr q) = absurd (omega (arith, head-below y ys x s p, head-below x xs y r q))

    down : x ≡ y → (z : ℕ) → Contains xs z → Contains ys z
    down e z c = elim (contains-cases y ys z (there z (contains-tail x xs z c))) [
      | inl same ↦ absurd (omega (arith, head-below x xs z r c, e, same))
      | inr in_tail ↦ in_tail
    ]

    up : x ≡ y → (z : ℕ) → Contains ys z → Contains xs z
    up e z c = elim (contains-cases x xs z (back z (contains-tail y ys z c))) [
      | inl same ↦ absurd (omega (arith, head-below y ys z s c, e, same))
      | inr in_tail ↦ in_tail
    ]

same-rows : (xs ys : RowList) → map (λ (row : List Value). Some row) xs ≡ map (λ (row : List Value). Some row) ys → xs ≡ ys
same-rows [] [] e = refl
same-rows [] (y ∷ ys) e = cc
same-rows (x ∷ xs) [] e = cc
same-rows (x ∷ xs) (y ∷ ys) e =
    let first : x ≡ y = cc in
    ap (λ (rows : RowList). x ∷ rows) (same-rows xs ys (cc)) ∙ ap (λ (row : List Value). row ∷ ys) first

pub one-overlay : (keys : ℕ) (former new standing other : RowList) → Overlay keys former new standing → Overlay keys former new other → standing ≡ other
one-overlay keys former new standing other a b =
    let places : a.places ≡ b.places = same-rising a.places b.places a.rising b.rising (λ z c. (b.those z).1 ((a.those z).0 c)) (λ z c. (a.those z).1 ((b.those z).0 c)) in
    same-rows standing other (sym a.stand ∙ ap (map (slice_get (new ++ former))) places ∙ b.stand)

-- where a row that stands stood before
pub record StoodAt (rows : RowList) (places : List ℕ) (k : ℕ) (row : List Value) : Type 0 where
  pub place : ℕ
  pub place_at : slice_get places k ≡ Some place
  pub row_at : slice_get rows place ≡ Some row

stood : (rows : RowList) (places : List ℕ) (standing : RowList) (k : ℕ) (row : List Value) → map (slice_get rows) places ≡ map (λ (r : List Value). Some r) standing → slice_get standing k ≡ Some row → StoodAt rows places k row
stood rows places [] k row e at = absurd (none-some row at)
stood rows [] (r ∷ standing) k row e at = absurd (cc)
stood rows (place ∷ places) (r ∷ standing) zero row e at = record { place = place; place_at = refl; row_at = (let h : slice_get rows place ≡ Some r = cc in h ∙ at) }
stood rows (place ∷ places) (r ∷ standing) (suc k) row e at =
    let s = stood rows places standing k row (cc) at in record { place = s.place; place_at = s.place_at; row_at = s.row_at }

-- what holds of each row of both holds of each that stands
pub overlay-all : (P : List Value → Type 0) (keys : ℕ) (former new standing : RowList) → All P former → All P new → Overlay keys former new standing → All P standing
overlay-all P keys former new standing have fresh o k d l =
    let rows = new ++ former in
    let row = get_or standing k d in
    let s = stood rows o.places standing k row o.stand (slice_get-get_or standing k d l) in
    subst P (get_or_from_slice_get rows s.place row row s.row_at)
    (All-append P new former fresh have s.place row (slice_get_within rows s.place row s.row_at))

pub overlay-types : (types : List AttrType) (keys : ℕ) (former new standing : RowList) → HaveTypes types former → HaveTypes types new → Overlay keys former new standing → HaveTypes types standing
overlay-types types keys former new standing have fresh o =
    overlay-all (AllZip FitsColumn types) keys former new standing have fresh o

pub overlay-apart : (keys : ℕ) (former new standing : RowList) → Overlay keys former new standing → AllPairs (λ row later. take keys row ≢ take keys later) standing
overlay-apart keys former new standing o i j d less l same =
    let rows = new ++ former in
    let key : List Value → List Value = λ row. take keys row in
    let a = stood rows o.places standing i (get_or standing i d) o.stand (slice_get-get_or standing i d (omega arith)) in
    let b = stood rows o.places standing j (get_or standing j d) o.stand (slice_get-get_or standing j d l) in
    let within = slice_get_within o.places j b.place b.place_at in
    let rise : a.place < b.place = subst (λ (n : ℕ). n < b.place) (get_or_from_slice_get o.places i a.place 0 a.place_at)
    (subst (λ (n : ℕ). get_or o.places i 0 < n) (get_or_from_slice_get o.places j b.place 0 b.place_at) (o.rising i j 0 less within)) in
    let first = (o.those b.place).0 (j, within, get_or_from_slice_get o.places j b.place b.place b.place_at) in
    let here : slice_get (keys_of keys rows) b.place ≡ Some (key (get_or standing j d)) = slice_get-map key rows b.place ∙ ap (option_map key) b.row_at in
    let named : first.0 ≡ key (get_or standing j d) = same_Some first.0 (key (get_or standing j d)) (sym first.1.equal ∙ here) in
    let before : slice_get (keys_of keys rows) a.place ≡ Some first.0 = slice_get-map key rows a.place ∙ ap (option_map key) a.row_at ∙ ap (λ (k : List Value). Some k) (same ∙ sym named) in
    first.1.least a.place rise before
