-- Lists that get one more item at their end.
use Rattle.std.proofs.Common.{◌≡◌, ℕ, ◌+◌, ◌<◌, ◌⊎◌, zero, suc, List, [], ◌∷◌, ◌++◌, length, Some, refl, sym, ◌∙◌, ap, inl, inr, arith, get_or, slice_get, All}
use Rattle.std.specs.List.{range_with_len}
use Rattle.std.specs.List.Sorted.{IsStrictlyIncreasing}
use Rattle.std.proofs.lemmas.Bool.{cases_eq}
use Rattle.std.proofs.lemmas.List.{get_or_append_left, get_or_at, length_push}
use Rattle.std.proofs.lemmas.List.Elements.{All-get_or}
use Rattle.std.proofs.lemmas.Option.{none-some, same_Some, slice_get-get_or}

-- one more number
pub range_push : (a n : ℕ) → range_with_len a (suc n) ≡ range_with_len a n ++ (a + n) ∷ []
range_push a zero = ap (λ k. k ∷ []) (omega arith)
range_push a (suc n) =
    ap (λ ks. a ∷ ks) (range_push (a + 1) n ∙ ap (λ k. range_with_len (a + 1) n ++ k ∷ []) (omega arith))

-- one more number above all
pub rising_push : (xs : List ℕ) (y : ℕ) → IsStrictlyIncreasing xs → All (λ x. x < y) xs → IsStrictlyIncreasing (xs ++ y ∷ [])
rising_push xs y rises below k h = elim (cases_eq (k + 1) (length xs)) [
  | inl e ↦ (let here : get_or xs k 0 < y = All-get_or (λ x. x < y) xs k 0 (omega arith) below in
      rw (get_or_append_left xs (y ∷ []) 0 k (omega arith), get_or_at xs y [] 0 (k + 1) (sym e)) here)
  | inr n ↦ (let l : k + 1 < length xs = omega (arith, length_push xs y) in
      rw (get_or_append_left xs (y ∷ []) 0 k (omega arith), get_or_append_left xs (y ∷ []) 0 (k + 1) l) (rises k l))
]

-- an empty list has no item
pub nil_split : {A : Type 0} (before after : List A) (z : A) → [] ≡ before ++ z ∷ after → ⊥
nil_split [] after z e = cc
nil_split (b ∷ before) after z e = cc

-- an item is one of those before, or the last one
pub slice_get-push : {A : Type 0} (xs : List A) (y : A) (k : ℕ) (z : A) → slice_get (xs ++ y ∷ []) k ≡ Some z → (slice_get xs k ≡ Some z) ⊎ ((k ≡ length xs) × (y ≡ z))
slice_get-push [] y zero z h = inr (refl, same_Some y z h)
slice_get-push [] y (suc k) z h = absurd (none-some z h)
slice_get-push (x ∷ xs) y zero z h = inl h
slice_get-push (x ∷ xs) y (suc k) z h = elim (slice_get-push xs y k z h) [ inl e ↦ inl e | inr e ↦ inr (ap suc e.0, e.1) ]

-- what holds of each item that is there
pub All-from_slice_get : {A : Type 0} (P : A → Type 0) (xs : List A) → ((k : ℕ) (x : A) → slice_get xs k ≡ Some x → P x) → All P xs
All-from_slice_get P xs h k d l = h k (get_or xs k d) (slice_get-get_or xs k d l)

-- where a list has one more item, each of its items is that one, or stands in the list so far
module _ {A : Type 0} where
  pub split_push : (xs : List A) (y : A) (before after : List A) (z : A) → xs ++ y ∷ [] ≡ before ++ z ∷ after → ((rest : List A) × (xs ≡ before ++ z ∷ rest)) ⊎ ((before ≡ xs) × (z ≡ y))
  split_push [] y [] after z e = inr (refl, cc)
  split_push [] y (b ∷ before) after z e =
      let k : [] ≡ before ++ z ∷ after = cc in
      absurd (nil_split before after z k)
  split_push (x ∷ xs) y [] after z e =
      let k : x ≡ z = cc in
      inl (xs, ap (λ (w : A). w ∷ xs) k)
  split_push (x ∷ xs) y (b ∷ before) after z e =
      let k : x ≡ b = cc in
      elim (split_push xs y before after z (cc)) [
        | inl r ↦ inl (r.0, ap (λ (w : A). w ∷ xs) k ∙ ap (λ (ws : List A). b ∷ ws) r.1)
        | inr r ↦ inr (ap (λ (w : A). w ∷ before) (sym k) ∙ ap (λ (ws : List A). x ∷ ws) r.0, r.1)
      ]
