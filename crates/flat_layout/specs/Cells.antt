-- What the cells of a list of keys tell, and which lists have no cells.
use Rattle.std.specs.Prelude.{◌<◌, ◌≤◌, ℕ, zero, suc, List, Option, Some, None, length, slice_index}
use Rattle.dict_value.specs.FindByKey.{FindsByKey, HasKeyAt}
use Rattle.flat_layout.specs.declared.flat.FlatFault.{FlatFault}
use Rattle.flat_layout.specs.declared.flat.FlatFault.TheVariants as fault

-- the place that a cell tells: none by 0, and else the number before
abbrev pub place_in : ℕ → Option ℕ
place_in zero = None
place_in (suc place) = Some place

-- a cell for each key up to the greatest, which tells what is found by that key
pub record AreCellsOf (keys cells : List ℕ) : Type 0 where
  pub enough : (place key : ℕ) → HasKeyAt keys key place → key < length cells
  pub told : (key : ℕ) → key < length cells → FindsByKey keys key (place_in (slice_index cells key))

-- the first key that isn't below the limit
pub record IsFirstTooLarge (keys : List ℕ) (limit key : ℕ) : Type 0 where
  pub place : ℕ
  pub here : HasKeyAt keys key place
  pub large : limit ≤ key
  pub before : (earlier other : ℕ) → earlier < place → HasKeyAt keys other earlier → other < limit

-- why a list of keys has no cells, want of memory aside
abbrev pub IsFlatRefused : List ℕ → ℕ → FlatFault → Type 0
IsFlatRefused keys limit (fault.KeyTooLarge key) = IsFirstTooLarge keys limit key
IsFlatRefused keys limit fault.NoMemory = ⊥
