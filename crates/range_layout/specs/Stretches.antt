-- The ranges of rows as stretches of one axis, on which the places of points for each key stand behind those for the
-- key before.
use Rattle.std.specs.Prelude.{◌≡◌, ◌+◌, ◌-◌, ◌*◌, ◌^◌, ◌<◌, ◌≤◌}
use Rattle.std.specs.Prelude.{◌⊎◌, ℕ, List, Contains, length, slice_index, slice_index_or}
use Rattle.std.specs.List.Sorted.{IsStrictlyIncreasing}
use Rattle.dict_schema.specs.declared.definition.Strategy.{Strategy}
use Rattle.dict_schema.specs.declared.definition.Strategy.TheVariants.{Min, Max}
use Rattle.range_layout.specs.Points.{FitsEnd, low_point, nth_point, past_point, ends_of_row}
use Rattle.range_layout.specs.declared.ends.End.{End}
use Rattle.range_layout.specs.declared.ends.End.TheVariants.{Free, At}
use Rattle.range_layout.specs.declared.ends.Ends.{Ends}
use Rattle.range_layout.specs.declared.ranks.TheConstants.{ABOVE}
use Rattle.range_layout.specs.declared.stretches.Stretch.{Stretch}

abbrev pub stretch_at : List Stretch → ℕ → Stretch
stretch_at stretches row = slice_index_or stretches row (record { number = 0; low = 0; high = 0 })

-- where a stretch begins
abbrev pub stretch_start : Stretch → ℕ
stretch_start stretch = stretch.number * 2 ^ 32 + stretch.low

-- the first border behind it
abbrev pub end_of : Stretch → ℕ
end_of stretch = stretch.number * 2 ^ 32 + stretch.high

-- the stretch of a row: the number of its key, the place of the first point in its range and of the first one behind it
pub record IsStretchOf (points : List ℕ) (number : ℕ) (range : Ends) (stretch : Stretch) : Type 0 where
  pub same : stretch.number ≡ number
  pub low_within : stretch.low < length points
  pub low_is : nth_point points stretch.low ≡ low_point range.low
  pub high_within : stretch.high ≤ length points
  pub high_is : nth_point points stretch.high ≡ past_point range.high
  pub low_fits : FitsEnd range.low
  pub high_fits : FitsEnd range.high

-- the stretch of each row
pub record AreStretchesOf (points numbers : List ℕ) (ends : List Ends) (stretches : List Stretch) : Type 0 where
  pub len : length stretches ≡ length ends
  pub each : (row : ℕ) → row < length ends
      → IsStretchOf points (slice_index numbers row) (ends_of_row ends row) (stretch_at stretches row)

-- the row's stretch has the border
abbrev pub Covers : List Stretch → ℕ → ℕ → Type 0
Covers stretches row border =
    (row < length stretches) × (stretch_start (stretch_at stretches row) ≤ border)
    × (border < end_of (stretch_at stretches row))

-- the border is where the row's stretch begins, or where it ends, if that is one of so many points
abbrev pub IsBorder : List Stretch → ℕ → ℕ → ℕ → Type 0
IsBorder stretches count row border =
    (border ≡ stretch_start (stretch_at stretches row))
    ⊎ (((stretch_at stretches row).high < count) × (border ≡ end_of (stretch_at stretches row)))

-- the borders at which stretches begin and end, rising
pub record AreBordersOf (stretches : List Stretch) (count : ℕ) (borders : List ℕ) : Type 0 where
  pub rises : IsStrictlyIncreasing borders
  pub few : length borders ≤ 2 * length stretches
  pub each : (row border : ℕ) → row < length stretches → IsBorder stretches count row border → Contains borders border
  pub origin : (border : ℕ) → Contains borders border
      → (row : ℕ) × (row < length stretches) × IsBorder stretches count row border

-- a start by the place of its point; an open one is before all
abbrev pub start_rank : End → ℕ → ℕ
start_rank Free low = 0
start_rank (At z) low = low + 1

-- an end by the place of the point behind it; an open one is behind all
abbrev pub end_rank : End → ℕ → ℕ
end_rank Free high = ABOVE
end_rank (At z) high = high

-- a row's rank: by its start, then by its end, then by its place
abbrev pub rank_of : Strategy → Ends → Stretch → ℕ → ℕ
rank_of Min range stretch row =
    (start_rank range.low stretch.low * 2 ^ 32 + end_rank range.high stretch.high) * 2 ^ 32 + row
rank_of Max range stretch row =
    ((ABOVE - start_rank range.low stretch.low) * 2 ^ 32 + (ABOVE - end_rank range.high stretch.high)) * 2 ^ 32 + row

-- the ranks of all rows, rising
pub record AreRanksOf (strategy : Strategy) (ends : List Ends) (stretches : List Stretch)
    (ranks : List ℕ) : Type 0 where
  pub rises : IsStrictlyIncreasing ranks
  pub each : (row : ℕ) → row < length stretches
      → Contains ranks (rank_of strategy (ends_of_row ends row) (stretch_at stretches row) row)
  pub origin : (rank : ℕ) → Contains ranks rank
      → (row : ℕ) × (row < length stretches)
      × (rank ≡ rank_of strategy (ends_of_row ends row) (stretch_at stretches row) row)
