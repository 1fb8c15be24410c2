-- Members, by their numbers: which one is above another, and which are below it.
use Rattle.std.specs.Prelude.{◌≡◌, ◌≢◌, ◌+◌, ◌-◌, ◌^◌, ◌<◌, ◌≤◌, ℕ, zero, suc, List, length, slice_index}

-- The member so many parents above another. A cell of `ups` is 0 for no parent, and else one more than its number.
unfoldable pub above : List ℕ → ℕ → ℕ → ℕ
above ups zero member = member
above ups (suc count) member = slice_index ups (above ups count member) - 1

-- The members of a chain, so many. They have rows, where `rows` isn't 0, and differ; and behind the last is none, one
-- without a row, or one of them.
pub record IsCounted (ups rows : List ℕ) (member count : ℕ) : Type 0 where
  pub linked : (i : ℕ) → i + 1 < count → 0 < slice_index ups (above ups i member)
  pub has_rows : (i : ℕ) → i < count → 0 < slice_index rows (above ups i member)
  pub apart : (i j : ℕ) → i < j → j < count → above ups i member ≢ above ups j member
  pub stops : 0 < slice_index ups (above ups (count - 1) member) → 0 < slice_index rows (above ups count member)
      → (i : ℕ) × (i < count) × (above ups count member ≡ above ups i member)

-- A cell that tells the least member from `start` on with this cell of its parent: 0 for none, and else one more than
-- its number.
pub record TellsNext (ups : List ℕ) (start up cell : ℕ) : Type 0 where
  pub none : cell ≡ 0 → (other : ℕ) → start ≤ other → other < length ups → slice_index ups other ≢ up
  pub within : 0 < cell → (start < cell) × (cell ≤ length ups)
  pub here : 0 < cell → slice_index ups (cell - 1) ≡ up
  pub least : 0 < cell → (other : ℕ) → start ≤ other → other + 1 < cell → slice_index ups other ≢ up

-- Each list has a cell for each member; a parent is a member; a chain goes on to its end; and the members below one
-- are told, rising.
pub record AreSoundMembers (members ups lengths firsts nexts : List ℕ) : Type 0 where
  pub small : length members < 2 ^ 24
  pub ups_len : length ups ≡ length members
  pub lengths_len : length lengths ≡ length members
  pub firsts_len : length firsts ≡ length members
  pub nexts_len : length nexts ≡ length members
  pub up : (member : ℕ) → slice_index ups member ≤ length members
  pub most : (member : ℕ) → slice_index lengths member ≤ length members
  pub linked : (member i : ℕ) → i + 1 < slice_index lengths member → 0 < slice_index ups (above ups i member)
  pub first : (member : ℕ) → member < length members → TellsNext ups 0 (member + 1) (slice_index firsts member)
  pub next : (member : ℕ) → member < length members → 0 < slice_index ups member
      → TellsNext ups (member + 1) (slice_index ups member) (slice_index nexts member)

-- a member is below another: that is its parent
abbrev pub IsBelow : List ℕ → ℕ → ℕ → Type 0
IsBelow ups member other = (other < length ups) × (slice_index ups other ≡ member + 1)

-- the member is reached from another for the first time by so many parents
abbrev pub Reaches : List ℕ → ℕ → ℕ → ℕ → Type 0
Reaches ups member zero other = other ≡ member
Reaches ups member (suc level) other =
    (other ≢ member) × (other < length ups) × (0 < slice_index ups other)
    × Reaches ups member level (slice_index ups other - 1)

-- at a level, from 1; level 0 stands for all of 32 bits
abbrev pub IsFoundAt : List ℕ → ℕ → ℕ → ℕ → Type 0
IsFoundAt ups member zero other = (level : ℕ) × (0 < level) × (level < 2 ^ 32) × Reaches ups member level other
IsFoundAt ups member (suc level) other = Reaches ups member (suc level) other
