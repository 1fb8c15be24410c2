-- Find by key: the least place of the row list whose key equals.
use Rattle.std.specs.Prelude.{◌≡◌, ◌<◌, ℕ, List, Option, Some, None, slice_get}

-- the row at the place has the key
abbrev pub HasKeyAt : {K : Type 0} → List K → K → ℕ → Type 0
HasKeyAt keys key place = slice_get keys place ≡ Some key

-- the place is the least whose key equals
pub record IsLeastPlace {K : Type 0} (keys : List K) (key : K) (place : ℕ) : Type 0 where
  pub equal : HasKeyAt keys key place
  pub least : (earlier : ℕ) → earlier < place → ¬ (HasKeyAt keys key earlier)

-- what is found by a key: the least place, or none where no row has the key
abbrev pub FindsByKey : {K : Type 0} → List K → K → Option ℕ → Type 0
FindsByKey keys key None = (place : ℕ) → ¬ (HasKeyAt keys key place)
FindsByKey keys key (Some place) = IsLeastPlace keys key place
