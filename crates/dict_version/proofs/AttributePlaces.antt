-- The attribute that stands at its place in a row.
use Rattle.std.proofs.Common.{◌≡◌, ◌<◌, ◌≤◌, ◌+◌, ◌++◌, ◌∷◌, [], ℕ, zero, suc, List, Bool, true, false, length, Some, None, inl, inr, refl, sym, ap, subst, ◌∙◌, arith, cond, slice_get, IsTrue}
use Rattle.std.specs.List.{filter, filter_map, range_with_len}
use Rattle.std.specs.Option.{option_map}
use Rattle.std.proofs.lemmas.Option.{none-some, same_Some, slice_get_within}
use Rattle.dict_schema.specs.Parts.{HasRange, is_attribute, is_range_layout}
use Rattle.dict_schema.specs.Shapes.{attribute_columns, columns_at, end_columns, shape_column, shape_of}
use Rattle.dict_schema.specs.Sound.{IsSound}
use Rattle.dict_schema.specs.declared.definition.Column.{Column}
use Rattle.dict_schema.specs.declared.definition.Definition.{Definition}
use Rattle.dict_schema.specs.declared.definition.RangeOf.{RangeOf}
use Rattle.dict_schema.specs.declared.definition.RangeOf.TheVariants as range
use Rattle.dict_schema.specs.declared.definition.Role.{Role}
use Rattle.dict_schema.specs.declared.definition.Role.TheVariants.{Attribute, End, Key, Start}
use Rattle.dict_schema.specs.declared.definition.ShapeColumn.{ShapeColumn}
use Rattle.dict_version.proofs.SoundParts.{keys_there, range_there}
use Rattle.dict_version.specs.Keys.{attribute_place, end_count}
use Rattle.dict_version.proofs.RowCells.{item-at}

-- each place has a column
abbrev pub AreThere : Definition → List ℕ → Type 0
AreThere d places = (k place : ℕ) → slice_get places k ≡ Some place → place < length d.columns

tail_there : (d : Definition) (p : ℕ) (ps : List ℕ) → AreThere d (p ∷ ps) → AreThere d ps
tail_there d p ps there k place here = there (suc k) place here

-- so there is a column of the shape for each
length-columns_at : (d : Definition) (role : Role) (places : List ℕ) → AreThere d places → length (columns_at d role places) ≡ length places
length-columns_at d role [] there = refl
length-columns_at d role (p ∷ ps) there =
    let column = item-at d.columns p (there 0 p refl) in
    rw column.1 (ap suc (length-columns_at d role ps (tail_there d p ps there)))

-- and it stands where its place does
columns_at-place : (d : Definition) (role : Role) (places : List ℕ) (k place : ℕ) (column : Column) → AreThere d places
    → slice_get places k ≡ Some place → slice_get d.columns place ≡ Some column
    → slice_get (columns_at d role places) k ≡ Some (shape_column role column)
columns_at-place d role [] k place column there here is = absurd (none-some place here)
columns_at-place d role (p ∷ ps) zero place column there here is =
    let same : p ≡ place = same_Some p place here in
    let found : slice_get d.columns p ≡ Some column = ap (slice_get d.columns) same ∙ is in
    rw found refl
columns_at-place d role (p ∷ ps) (suc k) place column there here is =
    let first = item-at d.columns p (there 0 p refl) in
    rw first.1 (columns_at-place d role ps k place column (tail_there d p ps there) here is)

-- a number that passes stands behind those before it that do
filter-place : (p : ℕ → Bool) (start count place : ℕ) → place < count → p (start + place) ≡ true
    → slice_get (filter p (range_with_len start count)) (length (filter p (range_with_len start place))) ≡ Some (start + place)
filter-place p start zero place within passes = absurd (omega (arith, within))
filter-place p start (suc count) zero within passes =
    let same : start + 0 ≡ start = omega arith in
    let first : p start ≡ true = sym (ap p same) ∙ passes in
    rw first (ap Some (sym same))
filter-place p start (suc count) (suc place) within passes =
    let same : start + suc place ≡ (start + 1) + place = omega arith in
    let rest = filter-place p (start + 1) count place (omega (arith, within)) (sym (ap p same) ∙ passes) in
    let others = filter p (range_with_len (start + 1) count) in
    let before = filter p (range_with_len (start + 1) place) in
    elim (p start) as (λ b. slice_get (cond b (start ∷ others) others) (length (cond b (start ∷ before) before)) ≡ Some (start + suc place)) [
      | true ↦ rest ∙ ap Some (sym same)
      | false ↦ rest ∙ ap Some (sym same)
    ]

-- the numbers that pass are among them
filter-below : (p : ℕ → Bool) (start count : ℕ) (k place : ℕ)
    → slice_get (filter p (range_with_len start count)) k ≡ Some place → place < start + count
filter-below p start zero k place here = absurd (none-some place here)
filter-below p start (suc count) k place here =
    let others = filter p (range_with_len (start + 1) count) in
    let rest : (j : ℕ) → slice_get others j ≡ Some place → place < start + suc count =
    λ j h. let below = filter-below p (start + 1) count j place h in omega (arith, below) in
    among start count place (p start) others k rest here
  where
    among : (start count place : ℕ) (b : Bool) (others : List ℕ) (j : ℕ) → ((i : ℕ) → slice_get others i ≡ Some place → place < start + suc count)
        → slice_get (cond b (start ∷ others) others) j ≡ Some place → place < start + suc count
    among start count place false others j rest h = rest j h
    among start count place true others zero rest h = let same : start ≡ place = same_Some start place h in omega (arith, same)
    among start count place true others (suc j) rest h = rest j h

-- behind a list
slice_get-behind : {A : Type 0} (xs ys : List A) (k : ℕ) → slice_get (xs ++ ys) (length xs + k) ≡ slice_get ys k
slice_get-behind [] ys k = ap (slice_get ys) (omega arith)
slice_get-behind (x ∷ xs) ys k =
    let same : suc (length xs) + k ≡ suc (length xs + k) = omega arith in
    ap (slice_get (x ∷ (xs ++ ys))) same ∙ slice_get-behind xs ys k

module _ (d : Definition) (sound : IsSound d) where
  length-keys : length (columns_at d Key d.keys) ≡ length d.keys
  length-keys = length-columns_at d Key d.keys (keys_there d sound)

  length-ends_of : (r : RangeOf) → d.range ≡ r → length (end_columns d r) ≡ end_count r
  length-ends_of range.None is = refl
  length-ends_of (range.Columns start end) is =
      let there = range_there d sound start end is in
      let first = item-at d.columns start there.0 in
      let last = item-at d.columns end there.1 in
      rw (first.1, last.1) refl

  pub attribute_there : (column : ℕ) (attribute : Column) → slice_get d.columns column ≡ Some attribute → IsTrue (is_attribute d column)
      → slice_get (shape_of d) (attribute_place d column) ≡ Some (shape_column Attribute attribute)
  attribute_there column attribute here is =
      let within = slice_get_within d.columns column attribute here in
      let p = is_attribute d in
      let before = length (filter p (range_with_len 0 column)) in
      let zero_plus : (n : ℕ) → 0 + n ≡ n = λ n. omega arith in
      let at : slice_get (filter p (range_with_len 0 (length d.columns))) before ≡ Some column =
      filter-place p 0 (length d.columns) column within (ap p (zero_plus column) ∙ is) ∙ ap Some (zero_plus column) in
      let attributes = columns_at-place d Attribute (filter p (range_with_len 0 (length d.columns))) before column attribute
      (λ k place there. let below = filter-below p 0 (length d.columns) k place there in omega (arith, below)) at here in
      let keys = columns_at d Key d.keys in
      let ends = end_columns d d.range in
      let place : attribute_place d column ≡ length keys + (length ends + before) =
      omega (arith, length-keys, length-ends_of d.range refl) in
      ap (slice_get (shape_of d)) place ∙ slice_get-behind keys (ends ++ attribute_columns d) (length ends + before)
      ∙ slice_get-behind ends (attribute_columns d) before ∙ attributes
