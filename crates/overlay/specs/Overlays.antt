-- New rows that are laid over former ones.
use Rattle.std.specs.Prelude.{◌≡◌, ◌↔◌, ◌<◌, ◌++◌, ℕ, List, Some, Contains, map, slice_get, take}
use Rattle.std.specs.List.{All, AllPairs, AllZip}
use Rattle.dict_value.specs.Values.{FitsColumn}
use Rattle.dict_value.specs.FindByKey.{IsLeastPlace}
use Rattle.dict_value.specs.declared.value.AttrType.{AttrType}
use Rattle.dict_value.specs.declared.value.Value.{Value}
use Rattle.packed_rows.specs.Columns.{RowList}

-- each row has a value of each type
abbrev pub HaveTypes : List AttrType → RowList → Type 0
HaveTypes types rows = All (AllZip FitsColumn types) rows

-- the keys of rows: each row's first values, as many as there are key columns
abbrev pub keys_of : ℕ → RowList → List (List Value)
keys_of keys rows = map (λ (row : List Value). take keys row) rows

-- the key at a place has no earlier place
abbrev pub IsFirst : List (List Value) → ℕ → Type 0
IsFirst keys place = (key : List Value) × IsLeastPlace keys key place

-- Of these rows those stand whose key has no earlier row, in their order: their places rise.
pub record StandOf (keys : ℕ) (rows standing : RowList) : Type 0 where
  pub places : List ℕ
  pub rising : AllPairs (λ earlier later. earlier < later) places
  pub those : (place : ℕ) → Contains places place ↔ IsFirst (keys_of keys rows) place
  pub stand : map (slice_get rows) places ≡ map Some standing

-- The overlay of new rows over former ones: of the new rows followed by the former ones those whose key has no earlier
-- row there.
abbrev pub Overlay : ℕ → RowList → RowList → RowList → Type 0
Overlay keys former new standing = StandOf keys (new ++ former) standing
