-- What a sound definition has: a key, defaults that fit, and columns with names of their own; and a function an argument.
use Rattle.std.proofs.Common.{◌≡◌, ◌≢◌, ◌<◌, ◌+◌, ◌++◌, ◌∷◌, ◌∙◌, ℕ, zero, suc, List, [], length, map, Some, inl, inr, refl, sym, ap, arith, subst, slice_get, IsTrue}
use Rattle.std.specs.List.{range_with_len}
use Rattle.std.proofs.lemmas.Option.{none-some, same_Some, slice_get_within}
use Rattle.std.proofs.lemmas.Bool.{cases_lt}
use Rattle.dict_schema.specs.Judging.{AreClear, IsClear, Numbered, Rule, Where}
use Rattle.dict_schema.specs.Parts.{argument_names, column_names}
use Rattle.dict_schema.specs.Sound.{IsSound, IsSoundFunction}
use Rattle.dict_schema.specs.Table.{IsBadDefault, IsBadParent, IsDuplicate, IsMissingKey, NamesWithin, arguments, attributes, counts, function_counts, function_settings, function_source, keys, ranges, settings, sources}
use Rattle.dict_schema.specs.declared.definition.Column.{Column}
use Rattle.dict_schema.specs.declared.definition.Definition.{Definition}
use Rattle.dict_schema.specs.declared.definition.FunctionDef.{FunctionDef}
use Rattle.dict_schema.specs.declared.fault.DefFault.TheVariants as fault
use Rattle.dict_value.specs.Values.{FitsColumn}
use Rattle.dict_version.specs.Keys.{NamesParent}
use Rattle.dict_functions.specs.Asking.{IsAttributeNamed}
use Rattle.dict_functions.proofs.Fitting.{fits}

front-clear : (xs ys : List Rule) → AreClear (xs ++ ys) → AreClear xs
front-clear [] ys clear = tt
front-clear (x ∷ xs) ys clear = (clear.0, front-clear xs ys clear.1)

rest-clear : (xs ys : List Rule) → AreClear (xs ++ ys) → AreClear ys
rest-clear [] ys clear = clear
rest-clear (x ∷ xs) ys clear = rest-clear xs ys clear.1

-- a rule of places that is clear at each
place-clear : (rule : ℕ → Rule) (start count place : ℕ) → place < count
    → AreClear (map rule (range_with_len start count)) → IsClear (rule (start + place))
place-clear rule start zero place low clear = absurd (omega (arith, low))
place-clear rule start (suc count) zero low clear =
    let same : start ≡ start + 0 = omega arith in subst (λ (k : ℕ). IsClear (rule k)) same clear.0
place-clear rule start (suc count) (suc place) low clear =
    let same : (start + 1) + place ≡ start + suc place = omega arith in
    subst (λ (k : ℕ). IsClear (rule k)) same (place-clear rule (start + 1) count place (omega (arith, low)) clear.1)

-- what is made of an item stands where the item does
mapped-at : {A B : Type 0} (f : A → B) (xs : List A) (k : ℕ) (x : A) → slice_get xs k ≡ Some x → slice_get (map f xs) k ≡ Some (f x)
mapped-at f [] k x here = absurd (none-some x here)
mapped-at f (y ∷ xs) zero x here = ap (λ a. Some (f a)) (same_Some y x here)
mapped-at f (y ∷ xs) (suc k) x here = mapped-at f xs k x here

-- a function has an argument
pub arguments-some : (f : FunctionDef) → IsSoundFunction f → f.args ≢ []
arguments-some f sound none =
    let behind_counts = rest-clear (function_counts f) (NamesWithin (argument_names f) ++ (function_settings f ++ (arguments f ++ function_source f))) sound.clear in
    let behind_names = rest-clear (NamesWithin (argument_names f)) (function_settings f ++ (arguments f ++ function_source f)) behind_counts in
    let behind_settings = rest-clear (function_settings f) (arguments f ++ function_source f) behind_names in
    (front-clear (arguments f) (function_source f) behind_settings).0 fault.NoArguments (refl, none)

-- the parts of the table that are used here
module _ (d : Definition) (sound : IsSound d) where
  behind_settings : AreClear (keys d ++ (ranges d ++ (attributes d ++ sources d)))
  behind_settings =
      let behind_counts = rest-clear (counts d) (NamesWithin (column_names d) ++ (settings d ++ (keys d ++ (ranges d ++ (attributes d ++ sources d))))) sound.clear in
      let behind_names = rest-clear (NamesWithin (column_names d)) (settings d ++ (keys d ++ (ranges d ++ (attributes d ++ sources d)))) behind_counts in
      rest-clear (settings d) (keys d ++ (ranges d ++ (attributes d ++ sources d))) behind_names

  -- there is a key
  pub keys-some : d.keys ≢ []
  keys-some none = (front-clear (keys d) (ranges d ++ (attributes d ++ sources d)) behind_settings).0 fault.NoKey (refl, none)

  -- a default fits its column
  pub default-fits : (place : ℕ) (column : Column) → slice_get d.columns place ≡ Some column → FitsColumn column.ty column.default
  default-fits place column here =
      let behind_keys = rest-clear (keys d) (ranges d ++ (attributes d ++ sources d)) behind_settings in
      let behind_ranges = rest-clear (ranges d) (attributes d ++ sources d) behind_keys in
      let clear = front-clear (attributes d) (sources d) behind_ranges in
      let defaults = rest-clear (Numbered fault.HierarchyType (length d.columns) (IsBadParent d)) (Numbered fault.BadDefault (length d.columns) (IsBadDefault d)) clear in
      let at = place-clear (λ (p : ℕ). Where (fault.BadDefault (p + 1)) (IsBadDefault d p)) 0 (length d.columns) place (slice_get_within d.columns place column here) defaults in
      let same : 0 + place ≡ place = omega arith in
      let at_place : IsClear (Where (fault.BadDefault (place + 1)) (IsBadDefault d place)) = subst (λ (p : ℕ). IsClear (Where (fault.BadDefault (p + 1)) (IsBadDefault d p))) same at in
      fits column.ty column.default (λ bad. at_place (fault.BadDefault (place + 1)) (refl, (column, here, bad)))

  -- two columns have two names
  named-before : (name : List ℕ) (j k : ℕ) (a b : Column) → j < k → slice_get d.columns j ≡ Some a → slice_get d.columns k ≡ Some b
      → a.name ≡ name → b.name ≡ name → ⊥
  named-before name j k a b low first second is other =
      let clear = front-clear (keys d) (ranges d ++ (attributes d ++ sources d)) behind_settings in
      let rest = rest-clear (Where fault.NoKey (d.keys ≡ []) ∷ []) _ clear in
      let behind_missing = rest-clear (Numbered fault.KeyMissing (length d.keys) (IsMissingKey d)) _ rest in
      let numbered = front-clear (Numbered fault.DuplicateName (length d.columns) (IsDuplicate d)) _ behind_missing in
      let at = place-clear (λ (p : ℕ). Where (fault.DuplicateName (p + 1)) (IsDuplicate d p)) 0 (length d.columns) k (slice_get_within d.columns k b second) numbered in
      let same : 0 + k ≡ k = omega arith in
      let at_k : IsClear (Where (fault.DuplicateName (k + 1)) (IsDuplicate d k)) = subst (λ (p : ℕ). IsClear (Where (fault.DuplicateName (p + 1)) (IsDuplicate d p))) same at in
      at_k (fault.DuplicateName (k + 1)) (
        refl,
        inl (
          j,
          name,
          low,
          mapped-at (λ column. column.name) d.columns j a first ∙ ap Some is,
          mapped-at (λ column. column.name) d.columns k b second ∙ ap Some other,
        ),
      )

  -- a name is one attribute's
  pub named-place : (name : List ℕ) (j k : ℕ) (a b : Column) → IsAttributeNamed d name j a → IsAttributeNamed d name k b → j ≡ k
  named-place name j k a b first second = elim (cases_lt j k) [
    | inl low ↦ absurd (named-before name j k a b low first.here second.here first.named second.named)
    | inr high ↦ elim (cases_lt k j) [
      | inl less ↦ absurd (named-before name k j b a less second.here first.here second.named first.named)
      | inr not ↦ omega (arith, high, not)
    ]
  ]

  -- one column names a parent
  parent-before : (j k : ℕ) (a b : Column) → j < k → slice_get d.columns j ≡ Some a → slice_get d.columns k ≡ Some b
      → IsTrue a.hierarchical → IsTrue b.hierarchical → ⊥
  parent-before j k a b low first second is other =
      let behind_keys = rest-clear (keys d) (ranges d ++ (attributes d ++ sources d)) behind_settings in
      let behind_ranges = rest-clear (ranges d) (attributes d ++ sources d) behind_keys in
      let clear = front-clear (attributes d) (sources d) behind_ranges in
      let parents = front-clear (Numbered fault.HierarchyType (length d.columns) (IsBadParent d)) (Numbered fault.BadDefault (length d.columns) (IsBadDefault d)) clear in
      let at = place-clear (λ (p : ℕ). Where (fault.HierarchyType (p + 1)) (IsBadParent d p)) 0 (length d.columns) k (slice_get_within d.columns k b second) parents in
      let same : 0 + k ≡ k = omega arith in
      let at_k : IsClear (Where (fault.HierarchyType (k + 1)) (IsBadParent d k)) = subst (λ (p : ℕ). IsClear (Where (fault.HierarchyType (p + 1)) (IsBadParent d p))) same at in
      at_k (fault.HierarchyType (k + 1)) (refl, (b, second, other, inr (inr (j, a, low, first, is))))

  pub parent-place : (j k : ℕ) → NamesParent d j → NamesParent d k → j ≡ k
  parent-place j k p q = elim (cases_lt j k) [
    | inl low ↦ absurd (parent-before j k p.1.0 q.1.0 low p.1.1 q.1.1 p.1.2 q.1.2)
    | inr high ↦ elim (cases_lt k j) [
      | inl less ↦ absurd (parent-before k j q.1.0 p.1.0 less q.1.1 p.1.1 q.1.2 p.1.2)
      | inr not ↦ omega (arith, high, not)
    ]
  ]

  pub named-once : (name : List ℕ) (j k : ℕ) (a b : Column) → IsAttributeNamed d name j a → IsAttributeNamed d name k b → a ≡ b
  named-once name j k a b first second = elim (cases_lt j k) [
    | inl low ↦ absurd (named-before name j k a b low first.here second.here first.named second.named)
    | inr high ↦ elim (cases_lt k j) [
      | inl less ↦ absurd (named-before name k j b a less second.here first.here second.named first.named)
      | inr not ↦
          let same : j ≡ k = omega (arith, high, not) in
          same_Some a b (sym first.here ∙ ap (slice_get d.columns) same ∙ second.here)
    ]
  ]
