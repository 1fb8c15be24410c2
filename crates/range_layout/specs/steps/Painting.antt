-- How borders are painted with rows.
use Rattle.std.specs.Prelude.{◌≡◌, ◌≢◌, ◌+◌, ◌%◌, ◌^◌, ◌<◌, ◌≤◌, ◌⊎◌, ℕ, List, length, slice_index}
use Rattle.range_layout.specs.Stretches.{Covers, end_of, stretch_start}
use Rattle.range_layout.specs.declared.stretches.Stretch.{Stretch}

-- each place leads to itself or to a later one
pub record LeadsOn (next : List ℕ) : Type 0 where
  pub on : (i : ℕ) → i < length next → i ≤ slice_index next i
  pub within : (i : ℕ) → i < length next → slice_index next i < length next

-- from each place on to the one that it leads to, all are painted
pub record PassesPainted (winners next : List ℕ) : Type 0 where
  pub painted : (i j : ℕ) → i < length next → i ≤ j → j < slice_index next i → slice_index winners j ≢ 0

-- from one place on to another all are painted
abbrev pub ArePainted : List ℕ → ℕ → ℕ → Type 0
ArePainted winners from to = (i : ℕ) → from ≤ i → i < to → slice_index winners i ≢ 0

-- a place is painted with a row, if it wasn't painted
pub record IsOnePainted (row at : ℕ) (old new : List ℕ) : Type 0 where
  pub len : length new ≡ length old
  pub some : slice_index new at ≢ 0
  pub kept : slice_index old at ≢ 0 → slice_index new at ≡ slice_index old at
  pub here : slice_index old at ≡ 0 → slice_index new at ≡ row + 1
  pub others : (i : ℕ) → i ≢ at → slice_index new i ≡ slice_index old i

-- the borders of a stretch that weren't painted are painted with its row, and no others
pub record IsPainted (borders : List ℕ) (stretch : Stretch) (row : ℕ) (old new : List ℕ) : Type 0 where
  pub len : length new ≡ length old
  pub kept : (i : ℕ) → slice_index old i ≢ 0 → slice_index new i ≡ slice_index old i
  pub here : (i : ℕ) → i < length borders → slice_index old i ≡ 0 → stretch_start stretch ≤ slice_index borders i
      → slice_index borders i < end_of stretch → slice_index new i ≡ row + 1
  pub others : (i : ℕ) → i < length borders → slice_index old i ≡ 0
      → (slice_index borders i < stretch_start stretch) ⊎ (end_of stretch ≤ slice_index borders i)
      → slice_index new i ≡ 0

-- the places from one on to another have been gone over
pub record IsPaintedTo (borders : List ℕ) (stretch : Stretch) (row start at : ℕ) (old new : List ℕ) : Type 0 where
  pub len : length new ≡ length old
  pub after : start ≤ at
  pub kept : (i : ℕ) → slice_index old i ≢ 0 → slice_index new i ≡ slice_index old i
  pub here : (i : ℕ) → start ≤ i → i < at → slice_index old i ≡ 0
      → (slice_index new i ≡ row + 1) × (slice_index borders i < end_of stretch)
  pub others : (i : ℕ) → (i < start) ⊎ (at ≤ i) → slice_index new i ≡ slice_index old i

-- the row of a rank in a list of ranks
abbrev pub row_at : List ℕ → ℕ → ℕ
row_at ranks i = slice_index ranks i % 2 ^ 32

-- one more than the row of the first rank, among so many, whose stretch has the border, or 0
abbrev pub TellsFirst : List Stretch → List ℕ → ℕ → ℕ → ℕ → Type 0
TellsFirst stretches ranks count border winner =
    ((winner ≡ 0) × ((i : ℕ) → i < count → ¬ (Covers stretches (row_at ranks i) border)))
    ⊎ ((i : ℕ) × (i < count) × (winner ≡ row_at ranks i + 1) × Covers stretches (row_at ranks i) border
    × ((j : ℕ) → j < i → ¬ (Covers stretches (row_at ranks j) border)))
