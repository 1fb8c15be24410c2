-- Which rows stand, row by row.
use Rattle.std.proofs.Common.{◌≡◌, ◌≢◌, ◌↔◌, ◌+◌, ◌<◌, ℕ, zero, suc, List, [], ◌∷◌, ◌++◌, length, map, take, Option, Some, None, Contains, IfSome, refl, sym, ◌∙◌, ap, subst, inl, inr, arith, get_or, slice_get, ◌-◌, false}
use Rattle.std.specs.List.{AllZip}
use Rattle.std.proofs.lemmas.Bool.{cases_lt, cases_eq}
use Rattle.std.proofs.lemmas.List.{get_or_default, length-map, map_push, take_more}
use Rattle.std.proofs.lemmas.List.Elements.{Contains-append_left, Contains-push, Contains-push_cases}
use Rattle.std.proofs.lemmas.List.Quantifiers.{all_pairs_push}
use Rattle.std.proofs.lemmas.Slice.Zip.{AllZip-long}
use Rattle.std.proofs.lemmas.Option.{none-some, same_Some, slice_get_within, slice_get-get_or, get_or_from_slice_get}
use Rattle.dict_value.specs.FindByKey.{HasKeyAt, IsLeastPlace, FindsByKey}
use Rattle.dict_value.specs.Values.{FitsColumn}
use Rattle.dict_value.specs.declared.value.AttrType.{AttrType}
use Rattle.dict_value.specs.declared.value.ColType.TheVariants.{UInt64}
use Rattle.dict_value.specs.declared.value.Value.{Value}
use Rattle.packed_rows.specs.Columns.{RowList, cell_at, cell_of}
use Rattle.packed_rows.specs.Packs.{Building}
use Rattle.overlay.specs.Overlays.{HaveTypes, IsFirst, keys_of, StandOf}
use Rattle.overlay.specs.steps.Standing.{AddsRowAt, IsBetween, IsFirstBehind, StandTo}

-- a key has one least place
pub least-one : (keys : List (List Value)) (key : List Value) (a b : ℕ) → IsLeastPlace keys key a → IsLeastPlace keys key b → a ≡ b
least-one keys key a b p q = elim (cases_lt a b) [
  | inl less ↦ absurd (q.least a less p.equal)
  | inr most ↦ elim (cases_lt b a) [
    | inl less ↦ absurd (p.least b less q.equal)
    | inr same ↦ omega arith
  ]
]

-- where another place is found, or none, the place isn't the first of its key
pub not-first : (keys : List (List Value)) (key : List Value) (place : ℕ) (found : Option ℕ) → HasKeyAt keys key place → FindsByKey keys key found → found ≢ Some place → ¬ (IsFirst keys place)
not-first keys key place None at none other first = none place at
not-first keys key place (Some least) at found other (named, first) =
    let same : named ≡ key = same_Some named key (sym first.equal ∙ at) in
    let here : IsLeastPlace keys key place = subst (λ (k : List Value). IsLeastPlace keys k place) same first in
    other (ap (λ n. Some n) (least-one keys key least place found here))

-- what stands in a list stands in a longer one at the same place
module _ {A : Type 0} where
  pub get-front : (xs ys : List A) (n : ℕ) → n < length xs → slice_get (xs ++ ys) n ≡ slice_get xs n
  get-front [] ys n l = absurd (omega arith)
  get-front (x ∷ xs) ys zero l = refl
  get-front (x ∷ xs) ys (suc n) l = get-front xs ys n (omega arith)

  pub get-behind : (xs ys : List A) (n : ℕ) → slice_get (xs ++ ys) (length xs + n) ≡ slice_get ys n
  get-behind [] ys n = ap (slice_get ys) (omega arith)
  get-behind (x ∷ xs) ys n =
      let e : length (x ∷ xs) + n ≡ suc (length xs + n) = omega arith in
      ap (slice_get (x ∷ (xs ++ ys))) e ∙ get-behind xs ys n

  -- the item at a place, behind those before it
  pub take-more-at : (xs : List A) (n : ℕ) (x : A) → slice_get xs n ≡ Some x → take (n + 1) xs ≡ take n xs ++ x ∷ []
  take-more-at xs n x e =
      take_more xs n x (slice_get_within xs n x e) ∙ ap (λ y. take n xs ++ y ∷ []) (get_or_from_slice_get xs n x x e)

-- the first place of a key, with keys behind
pub first-front : (keys later : List (List Value)) (n : ℕ) → n < length keys → IsFirst (keys ++ later) n ↔ IsFirst keys n
first-front keys later n l = (
  λ (key, h). (
    key,
    record {
      equal = sym (get-front keys later n l) ∙ h.equal;
      least = λ earlier less at. h.least earlier less (get-front keys later earlier (omega arith) ∙ at);
    },
  ),
  λ (key, h). (
    key,
    record {
      equal = get-front keys later n l ∙ h.equal;
      least = λ earlier less at. h.least earlier less (sym (get-front keys later earlier (omega arith)) ∙ at);
    },
  ),
)

-- the first place of a key, behind other keys
pub first-behind : (others keys : List (List Value)) (n : ℕ) → IsFirst (others ++ keys) (length others + n) ↔ IsFirstBehind others keys n
first-behind others keys n = (there, back)
  where
    there : IsFirst (others ++ keys) (length others + n) → IsFirstBehind others keys n
    there (key, h) =
        let at : HasKeyAt keys key n = sym (get-behind others keys n) ∙ h.equal in (
          λ named has other found. let same : named ≡ key = same_Some named key (sym has ∙ at) in
              let within : other < length others = slice_get_within others other named found in
              h.least other (omega arith) (get-front others keys other within ∙ found ∙ ap (λ k. Some k) same),
          (key, record { equal = at; least = λ earlier less has. h.least (length others + earlier) (omega arith) (get-behind others keys earlier ∙ has) }),
        )

    back : IsFirstBehind others keys n → IsFirst (others ++ keys) (length others + n)
    back (none, (key, h)) = (
      key,
      record {
        equal = get-behind others keys n ∙ h.equal;
        least = λ earlier less has. elim (cases_lt earlier (length others)) [
          | inl front ↦ none key h.equal earlier (sym (get-front others keys earlier front) ∙ has)
          | inr behind ↦ (let k : ℕ = earlier - length others in
              let e : length others + k ≡ earlier = omega arith in
              h.least k (omega arith) (sym (get-behind others keys k) ∙ ap (slice_get (others ++ keys)) e ∙ has))
        ];
      },
    )

-- a row's value at a column, which is of the column's type
pub record IsThere (types : List AttrType) (rows : RowList) (place column : ℕ) : Type 0 where
  pub row : List Value
  pub value : Value
  pub type_of : AttrType
  pub row_at : slice_get rows place ≡ Some row
  pub value_at : slice_get row column ≡ Some value
  pub type_at : slice_get types column ≡ Some type_of
  pub fits : FitsColumn type_of value

value-of-type : (types : List AttrType) (row : List Value) (column : ℕ) (t : AttrType) → AllZip FitsColumn types row → slice_get types column ≡ Some t → (value : Value) × (slice_get row column ≡ Some value) × FitsColumn t value
value-of-type [] row column t z e = absurd (none-some t e)
value-of-type (a ∷ types) [] column t z e = absurd z
value-of-type (a ∷ types) (v ∷ row) zero t z e = (v, refl, subst (λ (u : AttrType). FitsColumn u v) (same_Some a t e) z.0)
value-of-type (a ∷ types) (v ∷ row) (suc column) t z e = value-of-type types row column t z.1 e

pub there : (types : List AttrType) (rows : RowList) (place column : ℕ) → HaveTypes types rows → place < length rows → column < length types → IsThere types rows place column
there types rows place column have within l =
    let t = get_or types column (record { base = UInt64; nullable = false }) in
    let type_at : slice_get types column ≡ Some t = slice_get-get_or types column (record { base = UInt64; nullable = false }) l in
    let v = value-of-type types (get_or rows place []) column t (have place [] within) type_at in record {
      row = get_or rows place [];
      value = v.0;
      type_of = t;
      row_at = slice_get-get_or rows place [] within;
      value_at = v.1;
      type_at = type_at;
      fits = v.2;
    }

-- the value is that cell
pub cell-there : (types : List AttrType) (rows : RowList) (place column : ℕ) (at : IsThere types rows place column) → cell_at rows place column ≡ Some at.value
cell-there types rows place column at = ap (λ (o : Option (List Value)). cell_of o column) at.row_at ∙ at.value_at

-- the building with one more row
abbrev pub with_row : Building → List Value → Building
with_row old row = record old { rows = old.rows ++ row ∷ [] }

pub adds-row : (old out new : Building) (rows : RowList) (place : ℕ) (row : List Value) → slice_get rows place ≡ Some row → out.types ≡ old.types → out.rows ≡ old.rows → out.open_row ≡ row → old.open_row ≡ []
    → new ≡ record out { rows = out.rows ++ out.open_row ∷ []; open_row = [] } → AddsRowAt old rows place new
adds-row old out new rows place row at types list held none e = subst P (sym at) (e ∙ first ∙ second ∙ third ∙ fourth)
  where
    P : Option (List Value) → Type 0
    P o = IfSome o (λ r. new ≡ with_row old r)

    made : List AttrType → RowList → List Value → Building
    made ts rs r = record { types = ts; rows = rs; open_row = r }

    first : made out.types (out.rows ++ out.open_row ∷ []) [] ≡ made old.types (out.rows ++ out.open_row ∷ []) []
    first = ap (λ ts. made ts (out.rows ++ out.open_row ∷ []) []) types

    second : made old.types (out.rows ++ out.open_row ∷ []) [] ≡ made old.types (old.rows ++ out.open_row ∷ []) []
    second = ap (λ rs. made old.types (rs ++ out.open_row ∷ []) []) list

    third : made old.types (old.rows ++ out.open_row ∷ []) [] ≡ made old.types (old.rows ++ row ∷ []) []
    third = ap (λ r. made old.types (old.rows ++ r ∷ []) []) held

    fourth : made old.types (old.rows ++ row ∷ []) [] ≡ made old.types (old.rows ++ row ∷ []) old.open_row
    fourth = ap (λ r. made old.types (old.rows ++ row ∷ []) r) (sym none)

pub added : (old new : Building) (rows : RowList) (place : ℕ) (row : List Value) → slice_get rows place ≡ Some row → AddsRowAt old rows place new → new ≡ with_row old row
added old new rows place row at h =
    let P : Option (List Value) → Type 0 = λ o. IfSome o (λ r. new ≡ with_row old r) in
    subst P at h

-- still no row is open
pub between-added : (types : List AttrType) (old new : Building) (row : List Value) → IsBetween types old → new ≡ with_row old row → IsBetween types new
between-added types old new row h e = record {
  types_are = ap (λ (b : Building). b.types) e ∙ h.types_are;
  none_open = ap (λ (b : Building). b.open_row) e ∙ h.none_open;
}

-- a row has as many values as there are types
pub row-long : (types : List AttrType) (rows : RowList) (place : ℕ) (row : List Value) → HaveTypes types rows → slice_get rows place ≡ Some row → length row ≡ length types
row-long types rows place row have at =
    let within = slice_get_within rows place row at in
    let z : AllZip FitsColumn types row = subst (AllZip FitsColumn types) (get_or_from_slice_get rows place row row at) (have place row within) in
    AllZip-long FitsColumn types row z

-- of no rows none stands
pub stand-none : (keys : List (List Value)) (rows : RowList) → StandTo keys rows 0 []
stand-none keys rows = record {
  places = [];
  rising = λ i j d l m. absurd (omega arith);
  those = λ place. (λ h. absurd (let k : h.0 < 0 = h.1 in omega arith), λ h. absurd (let k : place < 0 = h.0 in omega arith));
  stand = refl;
}

module _ (keys : List (List Value)) (rows : RowList) (n : ℕ) (standing : RowList) (h : StandTo keys rows n standing) where
  -- the next row doesn't stand
  pub stand-skip : ¬ (IsFirst keys n) → StandTo keys rows (n + 1) standing
  stand-skip other = record {
    places = h.places;
    rising = h.rising;
    those = λ place. (
      λ c. let w = (h.those place).0 c in (omega (arith, w.0), w.1),
      λ w. (h.those place).1 (elim (cases_eq place n) [
        | inl e ↦ absurd (other (subst (IsFirst keys) e w.1))
        | inr apart ↦ (omega (arith, w.0), w.1)
      ]),
    );
    stand = h.stand;
  }

  -- the next row stands
  pub stand-more : (row : List Value) → IsFirst keys n → slice_get rows n ≡ Some row → StandTo keys rows (n + 1) (standing ++ row ∷ [])
  stand-more row first at = record {
    places = h.places ++ n ∷ [];
    rising = all_pairs_push (λ earlier later. earlier < later) h.places n h.rising (λ k d l. ((h.those (get_or h.places k d)).0 (k, l, get_or_default h.places k (get_or h.places k d) d l)).0);
    those = λ place. (
      λ c. elim (Contains-push_cases h.places n place c) [
        | inl old ↦ (let w = (h.those place).0 old in (omega (arith, w.0), w.1))
        | inr e ↦ (omega arith, subst (IsFirst keys) e first)
      ],
      λ w. elim (cases_eq place n) [
        | inl e ↦ subst (Contains (h.places ++ n ∷ [])) (sym e) (Contains-push h.places n)
        | inr apart ↦ Contains-append_left h.places (n ∷ []) place ((h.those place).1 (omega (arith, w.0), w.1))
      ],
    );
    stand = map_push (slice_get rows) h.places n ∙ ap (λ xs. xs ++ slice_get rows n ∷ []) h.stand ∙ ap (λ x. map Some standing ++ x ∷ []) at ∙ sym (map_push Some standing row);
  }

-- what stands of all rows
pub stand-whole : (keys : ℕ) (rows standing : RowList) → StandTo (keys_of keys rows) rows (length rows) standing → StandOf keys rows standing
stand-whole keys rows standing h = record {
  places = h.places;
  rising = h.rising;
  those = λ place. (λ c. ((h.those place).0 c).1, λ first. (h.those place).1 (within place first, first));
  stand = h.stand;
}
  where
    within : (place : ℕ) → IsFirst (keys_of keys rows) place → place < length rows
    within place (key, first) =
        let l : place < length (keys_of keys rows) = slice_get_within (keys_of keys rows) place key first.equal in
        let same : length (keys_of keys rows) ≡ length rows = length-map rows (λ (row : List Value). take keys row) in
        omega (arith, same, l)
