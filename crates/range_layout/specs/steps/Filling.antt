-- How the edges of a key are found among its borders.
use Rattle.std.specs.Prelude.{◌≡◌, ◌≢◌, ◌+◌, ◌-◌, ◌/◌, ◌%◌, ◌^◌, ◌<◌}
use Rattle.std.specs.Prelude.{◌≤◌, ◌⊎◌, ◌++◌, ◌∷◌, ℕ, List, [], length, slice_index, slice_index_or}
use Rattle.std.specs.List.Sorted.{IsStrictlyIncreasing}
use Rattle.range_layout.specs.Points.{nth_point}
use Rattle.range_layout.specs.declared.index.Span.{Span}

-- the number of the key of a border in a list of borders, and its point
abbrev pub border_number : List ℕ → ℕ → ℕ
border_number borders i = slice_index borders i / 2 ^ 32

abbrev pub point_at : List ℕ → List ℕ → ℕ → ℕ
point_at points borders i = nth_point points (slice_index borders i % 2 ^ 32)

-- rising borders of rising points
pub record AreBorders (points borders : List ℕ) : Type 0 where
  pub points_rise : IsStrictlyIncreasing points
  pub rises : IsStrictlyIncreasing borders
  pub within : (i : ℕ) → i < length borders → slice_index borders i % 2 ^ 32 < length points

-- of the borders from one place to another, the last whose point is at most x
pub record IsLastBorder (points borders : List ℕ) (from to x i : ℕ) : Type 0 where
  pub after : from ≤ i
  pub before : i < to
  pub reached : point_at points borders i ≤ x
  pub last : (j : ℕ) → i < j → j < to → x < point_at points borders j

-- The edges from `start` to `end` are the points, among those of the borders from one place to another, at which the
-- taken row changes; and the winners are the rows that are taken from them on.
pub record AreEdgesOf (points borders taken : List ℕ) (from to : ℕ) (edges winners : List ℕ)
    (start end : ℕ) : Type 0 where
  pub order : start ≤ end
  pub few : end + from ≤ start + to
  pub rises : (i j : ℕ) → start ≤ i → i < j → j < end → slice_index edges i < slice_index edges j
  pub origin : (i : ℕ) → start ≤ i → i < end
      → (k : ℕ) × (from ≤ k) × (k < to) × (slice_index edges i ≡ point_at points borders k)
  pub before : (x : ℕ) → (start < end → x < slice_index edges start)
      → ((k : ℕ) → from ≤ k → k < to → x < point_at points borders k)
      ⊎ ((k : ℕ) × IsLastBorder points borders from to x k × (slice_index taken k ≡ 0))
  pub on : (x i : ℕ) → start ≤ i → i < end → slice_index edges i ≤ x → (i + 1 < end → x < slice_index edges (i + 1))
      → (k : ℕ) × IsLastBorder points borders from to x k × (slice_index winners i ≡ slice_index taken k)
  pub first : start < end → slice_index winners start ≢ 0
  pub changes : (i : ℕ) → start ≤ i → i + 1 < end → slice_index winners (i + 1) ≢ slice_index winners i
  pub last_none : from < to → start ≡ end → slice_index taken (to - 1) ≡ 0
  pub last_some : from < to → start < end → slice_index taken (to - 1) ≡ slice_index winners (end - 1)

-- An edge is appended to those from `start` on, if the row that is taken changes there.
abbrev pub AddsEdge : ℕ → ℕ → ℕ → List ℕ → List ℕ → List ℕ → List ℕ → Type 0
AddsEdge start point winner edges winners new_edges new_winners =
    ((new_edges ≡ edges) × (new_winners ≡ winners) × (start ≡ length winners → winner ≡ 0)
    × (start < length winners → winner ≡ slice_index winners (length winners - 1)))
    ⊎ ((new_edges ≡ edges ++ point ∷ []) × (new_winners ≡ winners ++ winner ∷ [])
    × (start ≡ length winners → winner ≢ 0)
    × (start < length winners → winner ≢ slice_index winners (length winners - 1)))

-- the borders from one place to another are those of a key
pub record AreKeyBorders (borders : List ℕ) (number from to : ℕ) : Type 0 where
  pub order : from ≤ to
  pub within : to ≤ length borders
  pub same : (i : ℕ) → from ≤ i → i < to → border_number borders i ≡ number
  pub all : (i : ℕ) → i < length borders → border_number borders i ≡ number → (from ≤ i) × (i < to)

-- the first numbers of a list stay as they are
pub record KeepsFirst (old new : List ℕ) : Type 0 where
  pub len : length old ≤ length new
  pub same : (i : ℕ) → i < length old → slice_index new i ≡ slice_index old i

abbrev pub span_at : List Span → ℕ → Span
span_at spans i = slice_index_or spans i (record { start = 0; end = 0 })

-- the span of a key stands for its borders
pub record IsSpanIn (points borders taken edges winners : List ℕ) (number : ℕ) (span : Span) : Type 0 where
  pub from : ℕ
  pub to : ℕ
  pub within : span.end ≤ length edges
  pub borders_are : AreKeyBorders borders number from to
  pub edges_are : AreEdgesOf points borders taken from to edges winners span.start span.end

-- the first spans stand for the borders of their keys
pub record AreSpansIn (points borders taken : List ℕ) (count : ℕ) (spans : List Span)
    (edges winners : List ℕ) : Type 0 where
  pub len : length spans ≡ count
  pub same : length winners ≡ length edges
  pub each : (number : ℕ) → number < count
      → IsSpanIn points borders taken edges winners number (span_at spans number)
