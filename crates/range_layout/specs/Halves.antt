-- A search by halves among rising edges.
use Rattle.std.specs.Prelude.{◌≡◌, ◌+◌, ◌*◌, ◌^◌, ◌<◌, ◌≤◌, ◌⊎◌, ℕ, List, slice_index}

-- the edges from one place to another rise
abbrev pub Rises : List ℕ → ℕ → ℕ → Type 0
Rises edges start end = (i j : ℕ) → start ≤ i → i < j → j < end → slice_index edges i < slice_index edges j

-- the edges before the place are at most the point, and the others above it
pub record DividesEdges (edges : List ℕ) (start end point at : ℕ) : Type 0 where
  pub below : (i : ℕ) → start ≤ i → i < at → slice_index edges i ≤ point
  pub above : (i : ℕ) → at ≤ i → i < end → point < slice_index edges i

-- so many steps at most for so many edges
abbrev pub AreHalves : ℕ → ℕ → Type 0
AreHalves size steps = (steps ≡ 0) ⊎ (2 ^ steps ≤ 2 * size)

-- so many steps have left a gap
pub record IsHalved (size gap old_amount new_amount : ℕ) : Type 0 where
  pub steps : ℕ
  pub halves : AreHalves size steps
  pub left : 2 ^ steps * gap ≤ size
  pub spent : new_amount ≤ old_amount + steps
