-- The rows that stand of a front.
use Rattle.std.specs.Prelude.{◌≡◌, ◌↔◌, ◌<◌, ◌++◌, ◌∷◌, [], ℕ, List, Some, Contains, IfSome, map, slice_get}
use Rattle.std.specs.List.{AllPairs}
use Rattle.dict_value.specs.FindByKey.{HasKeyAt}
use Rattle.dict_value.specs.declared.value.AttrType.{AttrType}
use Rattle.dict_value.specs.declared.value.Value.{Value}
use Rattle.packed_rows.specs.Columns.{RowList}
use Rattle.packed_rows.specs.Packs.{Building}
use Rattle.overlay.specs.Overlays.{IsFirst}

-- of the rows before a place, with these keys, those stand whose key has no earlier place
pub record StandTo (keys : List (List Value)) (rows : RowList) (end : ℕ) (standing : RowList) : Type 0 where
  pub places : List ℕ
  pub rising : AllPairs (λ earlier later. earlier < later) places
  pub those : (place : ℕ) → Contains places place ↔ (place < end) × IsFirst keys place
  pub stand : map (slice_get rows) places ≡ map Some standing

-- the key at a place is no key of the others, and has no earlier place
abbrev pub IsFirstBehind : List (List Value) → List (List Value) → ℕ → Type 0
IsFirstBehind others keys place =
    ((key : List Value) → HasKeyAt keys key place → (other : ℕ) → ¬ (HasKeyAt others key other)) × IsFirst keys place

-- no row is open, and the columns have these types
pub record IsBetween (types : List AttrType) (b : Building) : Type 0 where
  pub types_are : b.types ≡ types
  pub none_open : b.open_row ≡ []

-- the row at a place, where there is one, was added
abbrev pub AddsRowAt : Building → RowList → ℕ → Building → Type 0
AddsRowAt old rows place new =
    IfSome (slice_get rows place) (λ row. new ≡ record old { rows = old.rows ++ row ∷ [] })
