-- Where attributes stand in fetched rows, and what fits keyed dictionaries.
use Rattle.std.proofs.Common.{◌≡◌, ◌≢◌, ◌<◌, ◌+◌, ◌-◌, ◌++◌, ◌∷◌, ◌∙◌, [], ℕ, suc, List, true, false, Some, IsTrue, length, map, refl, sym, subst, arith, slice_get}
use Rattle.std.specs.Prelude.{if◌then◌else◌}
use Rattle.std.specs.List.{AllZip}
use Rattle.std.proofs.lemmas.Option.{same_Some, slice_get_within}
use Rattle.cache_layout.specs.Fetching.{key_types}
use Rattle.dict_schema.specs.Parts.{is_attribute, is_keyed_layout}
use Rattle.dict_schema.specs.Shapes.{attribute_columns, columns_at, end_columns, keyed_shape_of, shape_column, shape_of}
use Rattle.dict_schema.specs.Sound.{IsSound}
use Rattle.dict_schema.specs.declared.definition.Column.{Column}
use Rattle.dict_schema.specs.declared.definition.Definition.{Definition}
use Rattle.dict_schema.specs.declared.definition.Layout.{Layout}
use Rattle.dict_schema.specs.declared.definition.Layout.TheVariants as layout
use Rattle.dict_schema.specs.declared.definition.Role.TheVariants.{Attribute, Key}
use Rattle.dict_schema.specs.declared.definition.ShapeColumn.{ShapeColumn}
use Rattle.dict_value.specs.Values.{FitsColumn}
use Rattle.dict_value.specs.declared.value.Value.{Value}
use Rattle.dict_version.proofs.AttributePlaces.{attribute_there}
use Rattle.dict_version.proofs.RowCells.{HasPairAt, item-at, pair-at}
use Rattle.dict_version.proofs.SoundParts.{keys_there}
use Rattle.dict_version.specs.Keys.{NamesParent, attribute_place, is_numbered}
use Rattle.dict_functions.proofs.SoundColumns.{keys-some}
use Rattle.dict_functions.specs.Keyed.{fetched_place}

-- no layout whose rows are fetched by key has a hierarchy
keyed-other : (l : Layout) → IsTrue (is_keyed_layout l) → IsTrue (is_numbered l) → ⊥
keyed-other (layout.Flat initial most) keyed numbered = cc
keyed-other layout.Hashed keyed numbered = cc
keyed-other layout.SparseHashed keyed numbered = cc
keyed-other layout.HashedArray keyed numbered = cc
keyed-other layout.ComplexHashed keyed numbered = cc
keyed-other layout.ComplexSparseHashed keyed numbered = cc
keyed-other layout.ComplexHashedArray keyed numbered = cc
keyed-other (layout.RangeHashed strategy) keyed numbered = cc
keyed-other (layout.ComplexRangeHashed strategy) keyed numbered = cc
keyed-other layout.IpTrie keyed numbered = cc
keyed-other (layout.Cache set) keyed numbered = cc
keyed-other (layout.ComplexCache set) keyed numbered = cc
keyed-other layout.Direct keyed numbered = cc
keyed-other layout.ComplexDirect keyed numbered = cc

pub no-parent : (d : Definition) → IsTrue (is_keyed_layout d.layout) → (place : ℕ) → ¬ (NamesParent d place)
no-parent d keyed place names = keyed-other d.layout keyed names.0

-- each of these places has a column
abbrev AreColumns : Definition → List ℕ → Type 0
AreColumns d places = (k place : ℕ) → slice_get places k ≡ Some place → place < length d.columns

-- so there is a type for each
types-some : (d : Definition) (places : List ℕ) → places ≢ [] → AreColumns d places → map (λ column. column.ty) (columns_at d Key places) ≢ []
types-some d [] some there = absurd (some refl)
types-some d (p ∷ places) some there =
    let column = item-at d.columns p (there 0 p refl) in
    rw column.1 (λ e. absurd (cc))

-- what stands behind their columns
behind-keys : (d : Definition) (places : List ℕ) (others : List ShapeColumn) (m : ℕ) (x : ShapeColumn) → AreColumns d places
    → slice_get (columns_at d Key places ++ others) (length places + m) ≡ Some x → slice_get others m ≡ Some x
behind-keys d [] others m x there is =
    let same : 0 + m ≡ m = omega arith in
    subst (λ k. slice_get others k ≡ Some x) same is
behind-keys d (p ∷ places) others m x there is =
    let column = item-at d.columns p (there 0 p refl) in
    let next : suc (length places) + m ≡ suc (length places + m) = omega arith in
    let whole = shape_column Key column.0 ∷ (columns_at d Key places ++ others) in
    let given : slice_get whole (suc (length places) + m) ≡ Some x = rw column.1 at is in
    behind-keys d places others m x (λ k place here. there (suc k) place here) (subst (λ k. slice_get whole k ≡ Some x) next given)

module _ (d : Definition) (sound : IsSound d) where
  -- a key has a type
  pub key-types-some : key_types d ≢ []
  key-types-some = types-some d d.keys (keys-some d sound) (keys_there d sound)

  -- an attribute stands in each fetched row
  fetched_there : (place : ℕ) (column : Column) → slice_get d.columns place ≡ Some column → IsTrue (is_attribute d place)
      → slice_get (keyed_shape_of d) (fetched_place d place) ≡ Some (shape_column Attribute column)
  fetched_there place column here is =
      let whole = attribute_there d sound place column here is in
      let others = end_columns d d.range ++ attribute_columns d in
      let behind : attribute_place d place ≡ length d.keys + (attribute_place d place - length d.keys) = omega arith in
      let rest : slice_get others (attribute_place d place - length d.keys) ≡ Some (shape_column Attribute column) =
      behind-keys d d.keys others (attribute_place d place - length d.keys) (shape_column Attribute column) (keys_there d sound)
      (subst (λ k. slice_get (shape_of d) k ≡ Some (shape_column Attribute column)) behind whole) in
      elim d.source.implicit as (λ b. slice_get (if b then others else shape_of d) (if b then attribute_place d place - length d.keys else attribute_place d place)
      ≡ Some (shape_column Attribute column)) [
        | true ↦ rest
        | false ↦ whole
      ]

  module _ (place : ℕ) (column : Column) (here : slice_get d.columns place ≡ Some column) (is : IsTrue (is_attribute d place))
      (row : List Value) (fit : AllZip (λ (c : ShapeColumn) v. FitsColumn c.ty v) (keyed_shape_of d) row) where
    there : slice_get (keyed_shape_of d) (fetched_place d place) ≡ Some (shape_column Attribute column)
    there = fetched_there place column here is

    pair : HasPairAt (λ (c : ShapeColumn) v. FitsColumn c.ty v) (keyed_shape_of d) row (fetched_place d place)
    pair = pair-at (λ (c : ShapeColumn) v. FitsColumn c.ty v) (keyed_shape_of d) row (fetched_place d place) fit
        (slice_get_within (keyed_shape_of d) (fetched_place d place) (shape_column Attribute column) there)

    pub cell-within : fetched_place d place < length row
    cell-within = slice_get_within row (fetched_place d place) pair.right pair.right_at

    -- with a value of its column
    pub cell-fits : (v : Value) → slice_get row (fetched_place d place) ≡ Some v → FitsColumn column.ty v
    cell-fits v at =
        let value : pair.right ≡ v = same_Some pair.right v (sym pair.right_at ∙ at) in
        let type : pair.left ≡ shape_column Attribute column = same_Some pair.left (shape_column Attribute column) (sym pair.left_at ∙ there) in
        subst (λ (c : ShapeColumn). FitsColumn c.ty v) type (subst (λ w. FitsColumn pair.left.ty w) value pair.related)
