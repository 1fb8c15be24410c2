-- Find by range: among the rows with the key whose ends hold the point, the one that no other precedes.
use Rattle.std.specs.Prelude.{◌≡◌, ◌↔◌, ◌<◌, ◌≤ℤ◌, ◌<ℤ◌, ◌⊎◌, ℕ, ℤ, List, Contains, Option, Some, None, slice_get}
use Rattle.std.specs.List.Sorted.{IsStrictlyIncreasing}
use Rattle.dict_schema.specs.declared.definition.Strategy.{Strategy}
use Rattle.dict_schema.specs.declared.definition.Strategy.TheVariants.{Min, Max}
use Rattle.dict_value.specs.FindByKey.{HasKeyAt}
use Rattle.dict_value.specs.declared.value.Value.{Value}
use Rattle.range_layout.specs.declared.ends.End.{End}
use Rattle.range_layout.specs.declared.ends.End.TheVariants.{Free, At}
use Rattle.range_layout.specs.declared.ends.Ends.{Ends}

-- the start lets the point in; an open one lets every point in
abbrev pub IsStarted : End → ℤ → Type 0
IsStarted Free point = Unit {0}
IsStarted (At low) point = low ≤ℤ point

-- the end lets the point in; an open one lets every point in
abbrev pub IsOpenAt : End → ℤ → Type 0
IsOpenAt Free point = Unit {0}
IsOpenAt (At high) point = point ≤ℤ high

-- both ends lie inside a range, so a start above its end holds no point
abbrev pub HoldsPoint : Ends → ℤ → Type 0
HoldsPoint range point = IsStarted range.low point × IsOpenAt range.high point

-- an open start is below every number
abbrev pub IsLowerStart : End → End → Type 0
IsLowerStart Free Free = ⊥
IsLowerStart Free (At b) = Unit {0}
IsLowerStart (At a) Free = ⊥
IsLowerStart (At a) (At b) = a <ℤ b

-- an open end is above every number
abbrev pub IsLowerEnd : End → End → Type 0
IsLowerEnd Free b = ⊥
IsLowerEnd (At a) Free = Unit {0}
IsLowerEnd (At a) (At b) = a <ℤ b

-- the row at place i comes before the one at place j: by its start, then by its end, then by its place
abbrev pub Precedes : Strategy → Ends → ℕ → Ends → ℕ → Type 0
Precedes Min a i b j =
    IsLowerStart a.low b.low
    ⊎ ((a.low ≡ b.low) × (IsLowerEnd a.high b.high ⊎ ((a.high ≡ b.high) × (i < j))))
Precedes Max a i b j =
    IsLowerStart b.low a.low
    ⊎ ((a.low ≡ b.low) × (IsLowerEnd b.high a.high ⊎ ((a.high ≡ b.high) × (i < j))))

-- the row at the place has the key and the range
abbrev pub HasRangeAt : List (List Value) → List Ends → List Value → ℕ → Ends → Type 0
HasRangeAt keys ends key place range = HasKeyAt keys key place × (slice_get ends place ≡ Some range)

-- of the rows with the key whose range holds the point, the one that no other precedes
pub record IsFirstHolding (keys : List (List Value)) (ends : List Ends) (strategy : Strategy) (key : List Value)
    (point : ℤ) (place : ℕ) : Type 0 where
  pub range : Ends
  pub here : HasRangeAt keys ends key place range
  pub holds : HoldsPoint range point
  pub first : (other : ℕ) (before : Ends) → HasRangeAt keys ends key other before → HoldsPoint before point
      → ¬ (Precedes strategy before other range place)

-- what is found by a key and a point: that row, or none where no row with the key holds the point
abbrev pub FindsByRange : List (List Value) → List Ends → Strategy → List Value → ℤ → Option ℕ → Type 0
FindsByRange keys ends strategy key point None =
    (place : ℕ) (range : Ends) → HasRangeAt keys ends key place range → ¬ (HoldsPoint range point)
FindsByRange keys ends strategy key point (Some place) = IsFirstHolding keys ends strategy key point place

-- all rows with the key, rising; so its length says how many they are
pub record AreRowsWith (keys : List (List Value)) (key : List Value) (rows : List ℕ) : Type 0 where
  pub rises : IsStrictlyIncreasing rows
  pub each : (place : ℕ) → Contains rows place ↔ HasKeyAt keys key place
