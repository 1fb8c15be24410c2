-- What a sound definition has that a load rests on.
use Rattle.std.proofs.Common.{◌≡◌, ◌≢◌, ◌<◌, ◌≤◌, ◌+◌, ◌++◌, ℕ, zero, suc, List, [], ◌∷◌, length, map, Bool, true, false, Some, None, inl, inr, ◌⊎◌, arith, subst, refl, slice_get, get_or}
use Rattle.std.specs.List.{AllByRecursion, filter, range_with_len}
use Rattle.std.proofs.lemmas.Bool.{cases_lt}
use Rattle.std.proofs.lemmas.List.{length-append, length-map}
use Rattle.std.proofs.lemmas.List.FromFn.{length-range_with_len}
use Rattle.std.proofs.lemmas.Option.{slice_get_cases, slice_get_within}
use Rattle.dict_value.proofs.Cuts.{AllByRecursion-append}
use Rattle.dict_value.specs.Values.{FitsColumn}
use Rattle.dict_schema.specs.Judging.{AreClear, IsClear, Numbered, Rule, Where}
use Rattle.dict_schema.specs.Parts.{column_names, is_attribute, is_updated_layout}
use Rattle.dict_schema.specs.Shapes.{attribute_columns, cell_type, cell_types, columns_at, end_columns, shape_of}
use Rattle.dict_schema.specs.Sound.{IsSound}
use Rattle.dict_schema.specs.Table.{IsBadDefault, IsBadParent, NamesWithin, attributes, counts, keys, ranges, settings, sources}
use Rattle.dict_schema.specs.declared.definition.Column.{Column}
use Rattle.dict_schema.specs.declared.definition.Definition.{Definition}
use Rattle.dict_schema.specs.declared.definition.RangeOf.{RangeOf}
use Rattle.dict_schema.specs.declared.definition.RangeOf.TheVariants as range
use Rattle.dict_schema.specs.declared.definition.Role.{Role}
use Rattle.dict_schema.specs.declared.definition.Role.TheVariants.{Key, Start, End, Attribute}
use Rattle.dict_schema.specs.declared.definition.ShapeColumn.{ShapeColumn}
use Rattle.dict_schema.specs.declared.definition.Update.TheVariants as update
use Rattle.dict_schema.specs.declared.fault.DefFault.TheVariants as fault
use Rattle.dict_schema.specs.declared.fault.Which.TheVariants as which
use Rattle.dict_version.proofs.RowCells.{item-at}
use Rattle.dict_version.proofs.SoundParts.{columns_few, keys_few, keys_there}
use Rattle.rows_typed.specs.Fits.{HasFittingDefaults}
use Rattle.loader.specs.steps.Defaults.{ColumnsFit, NoBadDefault}

-- ---- the rules of the table

behind : (xs ys : List Rule) → AreClear (xs ++ ys) → AreClear ys
behind [] ys clear = clear
behind (x ∷ xs) ys clear = behind xs ys clear.1

before : (xs ys : List Rule) → AreClear (xs ++ ys) → AreClear xs
before [] ys clear = tt
before (x ∷ xs) ys clear = (clear.0, before xs ys clear.1)

at_place : (rule : ℕ → Rule) (start count place : ℕ) → start ≤ place → place < start + count
    → AreClear (map rule (range_with_len start count)) → IsClear (rule place)
at_place rule start zero place low high clear = absurd (omega (arith, low, high))
at_place rule start (suc count) place low high clear = elim (cases_lt start place) [
  | inl later ↦ at_place rule (start + 1) count place (omega (arith, later)) (omega (arith, high)) clear.1
  | inr here ↦
      let same : start ≡ place = omega (arith, low, here) in
      subst (λ (k : ℕ). IsClear (rule k)) same clear.0
]

module _ (d : Definition) (sound : IsSound d) where
  behind_names : AreClear (settings d ++ (keys d ++ (ranges d ++ (attributes d ++ sources d))))
  behind_names =
      behind (NamesWithin (column_names d)) (settings d ++ (keys d ++ (ranges d ++ (attributes d ++ sources d)))) (behind (counts d) (NamesWithin (column_names d) ++ (settings d ++ (keys d ++ (ranges d ++ (attributes d ++ sources d))))) sound.clear)

  behind_settings : AreClear (keys d ++ (ranges d ++ (attributes d ++ sources d)))
  behind_settings = behind (settings d) (keys d ++ (ranges d ++ (attributes d ++ sources d))) behind_names

  behind_ranges : AreClear (attributes d ++ sources d)
  behind_ranges = behind (ranges d) (attributes d ++ sources d) (behind (keys d) (ranges d ++ (attributes d ++ sources d)) behind_settings)

  pub output_few : d.max_output ≤ 134217728
  output_few = elim (cases_lt 134217728 d.max_output) [
    | inl many ↦ absurd (behind_names.1.0 (fault.Limit which.Output d.max_output) (refl, inr many))
    | inr few ↦ few
  ]

  pub lifetime_ordered : d.lifetime.min ≤ d.lifetime.max
  lifetime_ordered = elim (cases_lt d.lifetime.max d.lifetime.min) [
    | inl less ↦ absurd (behind_names.1.1.1.1.0 (fault.Limit which.LifetimeOrder d.lifetime.min) (refl, less))
    | inr most ↦ most
  ]

  pub some_key : 1 ≤ length d.keys
  some_key = by_keys d.keys refl where
    by_keys : (places : List ℕ) → d.keys ≡ places → 1 ≤ length d.keys
    by_keys [] none = absurd (behind_settings.0 fault.NoKey (refl, none))
    by_keys (place ∷ places) some = rw some (omega arith)

  -- rows are updated in no other layout
  pub updated_layout : d.source.update ≢ update.None → is_updated_layout d.layout ≡ true
  updated_layout wanted = by_layout (is_updated_layout d.layout) refl where
    by_layout : (b : Bool) → is_updated_layout d.layout ≡ b → is_updated_layout d.layout ≡ true
    by_layout true is = is
    by_layout false is = absurd ((behind (attributes d) (sources d) behind_ranges).1.1.0 fault.UpdateLayout (refl, (is, wanted)))

  pub no_bad_default : NoBadDefault d.columns
  no_bad_default place column found bad =
      let defaults : AreClear (Numbered fault.BadDefault (length d.columns) (IsBadDefault d)) = behind (Numbered fault.HierarchyType (length d.columns) (IsBadParent d)) _ (before (attributes d) (sources d) behind_ranges) in
      let low : place < 0 + length d.columns = (let h = slice_get_within d.columns place column found in omega (arith, h)) in
      at_place (λ k. Where (fault.BadDefault (k + 1)) (IsBadDefault d k)) 0 (length d.columns) place (omega arith) low defaults (fault.BadDefault (place + 1)) (refl, (column, found, bad))

-- ---- how many columns a row has

filter-few : {X : Type 0} (p : X → Bool) (xs : List X) → length (filter p xs) ≤ length xs
filter-few p [] = omega arith
filter-few p (x ∷ xs) = by_test (p x) refl (filter-few p xs) where
  by_test : (t : Bool) → p x ≡ t → length (filter p xs) ≤ length xs → length (filter p (x ∷ xs)) ≤ length (x ∷ xs)
  by_test true is rest = rw is (omega (arith, rest))
  by_test false is rest = rw is (omega (arith, rest))

columns-few : (d : Definition) (role : Role) (places : List ℕ) → length (columns_at d role places) ≤ length places
columns-few d role [] = omega arith
columns-few d role (p ∷ ps) = by_column (slice_get_cases d.columns p).1 (columns-few d role ps) where
  by_column : ((x : Column) × (p < length d.columns) × (slice_get d.columns p ≡ Some x) × (get_or d.columns p x ≡ x)) ⊎ ((length d.columns ≤ p) × (slice_get d.columns p ≡ None)) → length (columns_at d role ps) ≤ length ps → length (columns_at d role (p ∷ ps)) ≤ length (p ∷ ps)
  by_column (inl (x, low, here, same)) rest = rw here (omega (arith, rest))
  by_column (inr (past, none)) rest = rw none (omega (arith, rest))

ends-few : (d : Definition) (ends : RangeOf) → length (end_columns d ends) ≤ 2
ends-few d range.None = omega arith
ends-few d (range.Columns start end) =
    let a = columns-few d Start (start ∷ []) in
    let b = columns-few d End (end ∷ []) in
    let e = length-append (columns_at d Start (start ∷ [])) (columns_at d End (end ∷ [])) in
    omega (arith, a, b, e)

pub shape_few : (d : Definition) → IsSound d → length (shape_of d) ≤ 4294967295
shape_few d sound =
    let own = filter (is_attribute d) (range_with_len 0 (length d.columns)) in
    let a = columns-few d Key d.keys in
    let b = ends-few d d.range in
    let c = columns-few d Attribute own in
    let f = filter-few (is_attribute d) (range_with_len 0 (length d.columns)) in
    let r = length-range_with_len 0 (length d.columns) in
    let k = keys_few d sound in
    let n = columns_few d sound in
    let e = length-append (columns_at d Key d.keys) (end_columns d d.range ++ attribute_columns d) in
    let g = length-append (end_columns d d.range) (attribute_columns d) in
    omega (arith, a, b, c, f, r, k, n, e, g)

-- each key has a column
keys-shown : (d : Definition) (places : List ℕ) → ((k place : ℕ) → slice_get places k ≡ Some place → place < length d.columns) → length places ≤ length (columns_at d Key places)
keys-shown d [] there = omega arith
keys-shown d (p ∷ ps) there =
    let column = item-at d.columns p (there 0 p refl) in
    let rest = keys-shown d ps (λ k place here. there (suc k) place here) in
    rw column.1 (omega (arith, rest))

pub keys_shown : (d : Definition) → IsSound d → length d.keys ≤ length (cell_types (shape_of d))
keys_shown d sound =
    let shown = keys-shown d d.keys (λ k place here. keys_there d sound k place here) in
    let e = length-append (columns_at d Key d.keys) (end_columns d d.range ++ attribute_columns d) in
    let m = length-map (shape_of d) cell_type in
    omega (arith, shown, e, m)

-- ---- the defaults of a shape

abbrev DefaultFits : ShapeColumn → Type 0
DefaultFits column = FitsColumn column.ty column.default

all-at : {X : Type 0} (P : X → Type 0) (xs : List X) (k : ℕ) (x : X) → AllByRecursion P xs → slice_get xs k ≡ Some x → P x
all-at P [] k x all e = cc
all-at P (y ∷ ys) zero x all e = let same : y ≡ x = cc in subst P same all.0
all-at P (y ∷ ys) (suc k) x all e = all-at P ys k x all.1 e

columns-fit : (d : Definition) (role : Role) (places : List ℕ) → ColumnsFit d.columns → HasFittingDefaults (columns_at d role places)
columns-fit d role [] all = tt
columns-fit d role (p ∷ ps) all = by_column (slice_get_cases d.columns p).1 (columns-fit d role ps all) where
  by_column : ((x : Column) × (p < length d.columns) × (slice_get d.columns p ≡ Some x) × (get_or d.columns p x ≡ x)) ⊎ ((length d.columns ≤ p) × (slice_get d.columns p ≡ None)) → HasFittingDefaults (columns_at d role ps) → HasFittingDefaults (columns_at d role (p ∷ ps))
  by_column (inl (x, low, here, same)) rest = rw here (all-at (λ (column : Column). FitsColumn column.ty column.default) d.columns p x all here, rest)
  by_column (inr (past, none)) rest = rw none rest

ends-fit : (d : Definition) (ends : RangeOf) → ColumnsFit d.columns → HasFittingDefaults (end_columns d ends)
ends-fit d range.None all = tt
ends-fit d (range.Columns start end) all = AllByRecursion-append DefaultFits (columns_at d Start (start ∷ [])) (columns_at d End (end ∷ [])) (columns-fit d Start (start ∷ []) all) (columns-fit d End (end ∷ []) all)

pub shape-fits : (d : Definition) → ColumnsFit d.columns → HasFittingDefaults (shape_of d)
shape-fits d all =
    AllByRecursion-append DefaultFits (columns_at d Key d.keys) (end_columns d d.range ++ attribute_columns d) (columns-fit d Key d.keys all)
    (AllByRecursion-append DefaultFits (end_columns d d.range) (attribute_columns d) (ends-fit d d.range all) (columns-fit d Attribute (filter (is_attribute d) (range_with_len 0 (length d.columns))) all))
