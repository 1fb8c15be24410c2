-- Walks over members whose chains aren't counted yet.
use Rattle.std.specs.Prelude.{◌≡◌, ◌≢◌, ◌+◌, ◌-◌, ◌<◌, ◌≤◌, ◌⊎◌, ℕ, zero, suc, List, [], ◌∷◌, length, min, slice_index}
use Rattle.hier.specs.Members.{IsCounted, above}
use Rattle.hier.specs.declared.lengths.Walk.{Walk}

-- how many numbers are 0
abbrev pub zeros : List ℕ → ℕ
zeros [] = 0
zeros (zero ∷ ns) = zeros ns + 1
zeros (suc n ∷ ns) = zeros ns

-- the first members of a walk: they have rows, aren't counted, differ, and are marked with their places from 1
pub record IsWalked (ups rows lengths old new : List ℕ) (start count : ℕ) : Type 0 where
  pub len : length new ≡ length old
  pub linked : (i : ℕ) → i + 1 < count → 0 < slice_index ups (above ups i start)
  pub within : (i : ℕ) → i < count → above ups i start < length ups
  pub has_rows : (i : ℕ) → i < count → 0 < slice_index rows (above ups i start)
  pub uncounted : (i : ℕ) → i < count → slice_index lengths (above ups i start) ≡ 0
  pub apart : (i j : ℕ) → i < j → j < count → above ups i start ≢ above ups j start
  pub marked : (i : ℕ) → i < count → slice_index new (above ups i start) ≡ i + 1
  pub others : (member : ℕ) → slice_index new member ≢ 0
      → (slice_index old member ≢ 0) ⊎ ((i : ℕ) × (i < count) × (member ≡ above ups i start))
  pub zeros : count + zeros new ≤ zeros old

-- where a walk ends: at the top, before a member that is counted or has no row, or before one of its own members
abbrev pub EndsAs : List ℕ → List ℕ → List ℕ → ℕ → Walk → Type 0
EndsAs ups rows lengths start walk =
    ((slice_index ups (above ups (walk.count - 1) start) ≡ 0) × (walk.behind ≡ 0) × (walk.lap ≡ walk.count))
    ⊎ (((0 < slice_index ups (above ups (walk.count - 1) start))
    × ((slice_index rows (above ups walk.count start) ≡ 0) ⊎ (0 < slice_index lengths (above ups walk.count start)))
    × (walk.behind ≡ slice_index lengths (above ups walk.count start)) × (walk.lap ≡ walk.count))
    ⊎ ((0 < slice_index ups (above ups (walk.count - 1) start)) × (walk.lap < walk.count) × (walk.behind ≡ 0)
    × (above ups walk.count start ≡ above ups walk.lap start)))

-- the members of a walk are counted, and no other's length changes
pub record IsFilled (ups old new : List ℕ) (start : ℕ) (walk : Walk) (count : ℕ) : Type 0 where
  pub len : length new ≡ length old
  pub here : (i : ℕ) → i < count
      → slice_index new (above ups i start) ≡ walk.behind + (walk.count - min i walk.lap)
  pub others : (member : ℕ) → ((i : ℕ) → i < count → member ≢ above ups i start)
      → slice_index new member ≡ slice_index old member

-- the chains that are counted so far, and all their members are
pub record AreCounted (ups rows lengths places : List ℕ) (count : ℕ) : Type 0 where
  pub lengths_len : length lengths ≡ length ups
  pub places_len : length places ≡ length ups
  pub counted : (member : ℕ) → 0 < slice_index lengths member → IsCounted ups rows member (slice_index lengths member)
  pub closed : (member i : ℕ) → i < slice_index lengths member → 0 < slice_index lengths (above ups i member)
  pub rowless : (member : ℕ) → slice_index rows member ≡ 0 → slice_index lengths member ≡ 0
  pub marked : (member : ℕ) → slice_index places member ≢ 0 → 0 < slice_index lengths member
  pub bound : (member : ℕ) → slice_index lengths member + zeros places ≤ length ups
  pub done : (member : ℕ) → member < count → 0 < slice_index rows member → 0 < slice_index lengths member
