-- The first item that can't stand in the place of another.
use Rattle.std.proofs.Common.{◌≡◌, ◌<◌, ◌≤◌, ◌+◌, ◌⊎◌, ℕ, List, length, sym, subst, arith, Some, inl, inr}
use Rattle.std.specs.Prelude.{slice_get}
use Rattle.std.proofs.lemmas.Bool.{cases_lt}
use Rattle.std.proofs.lemmas.Option.{slice_get_past}
use Rattle.dict_schema.specs.declared.definition.Item.{Item}
use Rattle.dict_hub.specs.Changes.{StandBefore, Stands, StandsAt}

-- one more item stands
pub one-more : (items others : List Item) (place : ℕ) (item other : Item) → slice_get items place ≡ Some item
    → slice_get others place ≡ Some other → StandBefore items others place → Stands item other → StandBefore items others (place + 1)
one-more items others place item other here there before stands = λ k low. by_order k low (cases_lt k place) where
  by_order : (k : ℕ) → k < place + 1 → (k < place) ⊎ (place ≤ k) → StandsAt (slice_get items k) (slice_get others k)
  by_order k low (inl earlier) = before k earlier
  by_order k low (inr late) =
      let same : place ≡ k = omega (arith, low, late) in
      subst (λ at. StandsAt (slice_get items at) (slice_get others at)) same
      (subst (λ x. StandsAt x (slice_get others place)) (sym here) (subst (λ y. StandsAt (Some item) y) (sym there) stands))

-- behind the last item nothing stands
pub none-past : (items others : List Item) (place : ℕ) → length items ≤ place → StandsAt (slice_get items place) (slice_get others place) → ⊥
none-past items others place past h = subst (λ x. StandsAt x (slice_get others place)) (slice_get_past items place past) h
