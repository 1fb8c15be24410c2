-- The types of the key columns, so far and one more.
use Rattle.std.proofs.Common.{◌≡◌, ◌<◌, ◌+◌, ◌++◌, ◌∷◌, ◌∙◌, [], ℕ, suc, List, Some, None, get_or, length, map, take, refl, sym, ap, append-nil, arith, slice_get}
use Rattle.std.specs.Option.{option_map}
use Rattle.std.proofs.Math.Seq.{take-suc}
use Rattle.std.proofs.lemmas.List.Elements.{filter_map-append}
use Rattle.dict_schema.specs.Shapes.{columns_at, shape_column}
use Rattle.dict_schema.specs.declared.definition.Column.{Column}
use Rattle.dict_schema.specs.declared.definition.Definition.{Definition}
use Rattle.dict_schema.specs.declared.definition.Role.TheVariants.{Key}
use Rattle.dict_schema.specs.declared.definition.ShapeColumn.{ShapeColumn}
use Rattle.dict_value.specs.declared.value.AttrType.{AttrType}

-- the types of the columns at these places
abbrev pub types_at : Definition → List ℕ → List AttrType
types_at d places = map (λ column. column.ty) (columns_at d Key places)

map-joined : (f : ShapeColumn → AttrType) (xs ys : List ShapeColumn) → map f (xs ++ ys) ≡ map f xs ++ map f ys
map-joined f [] ys = refl
map-joined f (x ∷ xs) ys = ap (λ l. f x ∷ l) (map-joined f xs ys)

one-more : (d : Definition) (places : List ℕ) (i place : ℕ) → i < length places → place ≡ get_or places i 0
    → types_at d (take (i + 1) places) ≡ types_at d (take i places) ++ types_at d (place ∷ [])
one-more d places i place low at =
    let next : i + 1 ≡ suc i = omega arith in
    let taken : take (i + 1) places ≡ take i places ++ place ∷ [] =
    ap (λ k. take k places) next ∙ take-suc places i 0 low ∙ ap (λ p. take i places ++ p ∷ []) (sym at) in
    ap (types_at d) taken
    ∙ ap (map (λ column. column.ty)) (filter_map-append (λ p. option_map (shape_column Key) (slice_get d.columns p)) (take i places) (place ∷ []))
    ∙ map-joined (λ column. column.ty) (columns_at d Key (take i places)) (columns_at d Key (place ∷ []))

module _ (d : Definition) (i place : ℕ) (before after : List AttrType) (low : i < length d.keys) (at : place ≡ get_or d.keys i 0)
    (so_far : before ≡ types_at d (take i d.keys)) where
  pub type-more : (column : Column) → slice_get d.columns place ≡ Some column → after ≡ before ++ column.ty ∷ []
      → after ≡ types_at d (take (i + 1) d.keys)
  type-more column here grew =
      let own : types_at d (place ∷ []) ≡ column.ty ∷ [] = rw here refl in
      grew ∙ ap (λ l. l ++ column.ty ∷ []) so_far ∙ ap (λ l. types_at d (take i d.keys) ++ l) (sym own) ∙ sym (one-more d d.keys i place low at)

  pub type-same : slice_get d.columns place ≡ None → after ≡ before → after ≡ types_at d (take (i + 1) d.keys)
  type-same none same =
      let own : types_at d (place ∷ []) ≡ [] = rw none refl in
      same ∙ so_far ∙ sym (append-nil (types_at d (take i d.keys))) ∙ ap (λ l. types_at d (take i d.keys) ++ l) (sym own) ∙ sym (one-more d d.keys i place low at)
