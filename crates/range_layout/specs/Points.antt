-- Points: numbers counted from the least one on, so that they are natural ones.
use Rattle.std.specs.Prelude.{◌+◌, ◌-◌, ◌^◌, ◌<◌, ◌≤◌, ◌+ℤ◌, ◌≤ℤ◌, ◌<ℤ◌, ℕ}
use Rattle.std.specs.Prelude.{ℤ, pos, negsuc, List, Contains, length, slice_index, slice_index_or}
use Rattle.std.specs.Prelude.{◌*◌, unsigned_abs}
use Rattle.std.specs.List.Sorted.{IsStrictlyIncreasing}
use Rattle.range_layout.specs.declared.ends.End.{End}
use Rattle.range_layout.specs.declared.ends.End.TheVariants.{Free, At}
use Rattle.range_layout.specs.declared.ends.Ends.{Ends}

-- the number is one of 128 bits
abbrev pub IsNumber : ℤ → Type 0
IsNumber z = (negsuc (2 ^ 127 - 1) ≤ℤ z) × (z <ℤ pos (2 ^ 127))

-- how far a number is above the least one
abbrev pub point_of : ℤ → ℕ
point_of z = unsigned_abs (z +ℤ pos (2 ^ 127))

abbrev pub FitsEnd : End → Type 0
FitsEnd Free = Unit {0}
FitsEnd (At z) = IsNumber z

-- the first point that a start lets in
abbrev pub low_point : End → ℕ
low_point Free = 0
low_point (At z) = point_of z

-- the first point that an end leaves out; 2 ^ 128 is behind all points
abbrev pub past_point : End → ℕ
past_point Free = 2 ^ 128
past_point (At z) = point_of z + 1

-- the point at a place of a list; behind its last place there is none
abbrev pub nth_point : List ℕ → ℕ → ℕ
nth_point points place = slice_index_or points place (2 ^ 128)

-- the range of a row
abbrev pub ends_of_row : List Ends → ℕ → Ends
ends_of_row ends row = slice_index_or ends row (record { low = Free; high = Free })

-- the points at which ranges begin, and those behind their ends, rising
pub record ArePointsOf (ends : List Ends) (points : List ℕ) : Type 0 where
  pub rises : IsStrictlyIncreasing points
  pub few : length points ≤ 2 * length ends
  pub small : (i : ℕ) → i < length points → slice_index points i < 2 ^ 128
  pub low : (row : ℕ) → row < length ends → Contains points (low_point (ends_of_row ends row).low)
  pub past : (row : ℕ) → row < length ends → past_point (ends_of_row ends row).high < 2 ^ 128
      → Contains points (past_point (ends_of_row ends row).high)
