-- Names by their places.
use Rattle.std.proofs.Common.{◌≡◌, ◌<◌, ℕ, List, length, map, Some, slice_get, get_or, refl, ap, sym, ◌∙◌}
use Rattle.std.specs.Option.{option_map}
use Rattle.std.proofs.lemmas.Option.{slice_get_read, slice_get-map, same_Some}

-- the name at a place is that of its item
pub named-at : {A B : Type 0} (name_of : A → B) (items : List A) (i : ℕ) (item : A) (name : B) → i < length items → item ≡ get_or items i item → name ≡ name_of item → slice_get (map name_of items) i ≡ Some name
named-at name_of items i item name lt is named =
    slice_get-map name_of items i ∙ ap (option_map name_of) (slice_get_read items (length items) i item refl lt is) ∙ ap (λ n. Some n) (sym named)

-- two places with names that differ don't have one
pub differ-at : {A : Type 0} (names : List A) (i j : ℕ) (one other : A) → slice_get names i ≡ Some one → slice_get names j ≡ Some other → (one ≡ other → ⊥) → (name : A) → slice_get names i ≡ Some name → slice_get names j ≡ Some name → ⊥
differ-at names i j one other p q differ name r s =
    differ (same_Some one name (sym p ∙ r) ∙ sym (same_Some other name (sym q ∙ s)))
