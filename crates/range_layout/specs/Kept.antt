-- What is kept of a list of keys, each with its range.
use Rattle.std.specs.Prelude.{◌≡◌, ◌≢◌, ◌+◌, ◌*◌, ◌^◌, ◌<◌, ◌≤◌, ◌⊎◌, ℕ}
use Rattle.std.specs.Prelude.{zero, suc, ℤ, List, Option, Some, None, length, slice_index}
use Rattle.dict_schema.specs.declared.definition.Strategy.{Strategy}
use Rattle.dict_value.specs.FindByKey.{IsLeastPlace}
use Rattle.dict_value.specs.declared.value.Value.{Value}
use Rattle.hashed_layout.specs.KeyTables.{IsKeyTableOf}
use Rattle.hashed_layout.specs.declared.complex.Complex.{Complex}
use Rattle.range_layout.specs.FindByRange.{AreRowsWith, FindsByRange}
use Rattle.range_layout.specs.Halves.{Rises}
use Rattle.range_layout.specs.Points.{IsNumber, point_of}
use Rattle.range_layout.specs.declared.ends.Ends.{Ends}
use Rattle.range_layout.specs.declared.index.Span.{Span}
use Rattle.range_layout.specs.steps.Filling.{span_at}

-- a winner is one more than the row that it tells, or 0
abbrev pub row_told : ℕ → Option ℕ
row_told zero = None
row_told (suc row) = Some row

-- The edges of a span are the rising points at which the row that is taken for a key changes, at most two for each row
-- with the key; and the winners are the rows that are taken from them on.
pub record IsSpanOf (keys : List (List Value)) (ends : List Ends) (strategy : Strategy) (edges winners : List ℕ)
    (key : List Value) (span : Span) : Type 0 where
  pub order : span.start ≤ span.end
  pub within : span.end ≤ length edges
  pub few : (rows : List ℕ) → AreRowsWith keys key rows → span.end ≤ span.start + 2 * length rows
  pub rises : Rises edges span.start span.end
  pub first : span.start < span.end → slice_index winners span.start ≢ 0
  pub changes : (i : ℕ) → span.start ≤ i → i + 1 < span.end → slice_index winners (i + 1) ≢ slice_index winners i
  pub before : (point : ℤ) → IsNumber point
      → (span.start < span.end → point_of point < slice_index edges span.start)
      → FindsByRange keys ends strategy key point None
  pub on : (point : ℤ) (i : ℕ) → IsNumber point → span.start ≤ i → i < span.end
      → slice_index edges i ≤ point_of point → (i + 1 < span.end → point_of point < slice_index edges (i + 1))
      → FindsByRange keys ends strategy key point (row_told (slice_index winners i))

-- A table of the keys, and a span of each at its least place
pub record IsRangedOf (keys : List (List Value)) (ends : List Ends) (strategy : Strategy) (table : Complex)
    (spans : List Span) (edges winners : List ℕ) : Type 0 where
  pub table_is : IsKeyTableOf keys table.bytes table.entries table.cells.items
  pub each : (key : List Value) (place : ℕ) → IsLeastPlace keys key place
      → (place < length spans) × IsSpanOf keys ends strategy edges winners key (span_at spans place)

-- A search is safe where spans lie among the edges
pub record AreSpansOver (spans : List Span) (edges winners : List ℕ) : Type 0 where
  pub same : length winners ≡ length edges
  pub order : (i : ℕ) → i < length spans → (span_at spans i).start ≤ (span_at spans i).end
  pub within : (i : ℕ) → i < length spans → (span_at spans i).end ≤ length edges

-- what a search among the edges of a span tells: none where the point is before them, and else the winner of the last
-- edge that it reaches
abbrev pub TellsIn : List ℕ → List ℕ → Span → ℕ → ℕ → Type 0
TellsIn edges winners span point winner =
    ((winner ≡ 0) × (span.start < span.end → point < slice_index edges span.start))
    ⊎ ((i : ℕ) × (span.start ≤ i) × (i < span.end) × (slice_index edges i ≤ point)
    × (i + 1 < span.end → point < slice_index edges (i + 1)) × (winner ≡ slice_index winners i))

-- so few steps for so many rows with the key: none where there are none
abbrev pub AreFew : ℕ → ℕ → Type 0
AreFew rows steps = (steps ≡ 0) ⊎ (2 ^ steps ≤ 16 * rows)
