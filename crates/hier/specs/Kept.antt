-- What is kept of a row list.
use Rattle.std.specs.Prelude.{◌≡◌, ◌+◌, ◌<◌, ℕ, List, Contains, length, slice_index}
use Rattle.std.specs.List.Sorted.{IsStrictlyIncreasing}
use Rattle.hier.specs.Hierarchy.{HasRow, IsParent}
use Rattle.hier.specs.Members.{IsCounted}
use Rattle.hier.specs.declared.hier.Hier.{Hier}
use Rattle.hier.specs.declared.hier.Parent.{Parent}

-- The members are the keys of rows and their parents, rising. Of each is kept the number of its parent, and how
-- many members its chain has: none where no row has the key.
pub record IsHierOf (keys : List ℕ) (parents : List Parent) (hier : Hier) : Type 0 where
  pub rising : IsStrictlyIncreasing hier.members.items
  pub each : (key : ℕ) → HasRow keys key → Contains hier.members.items key
  pub each_parent : (key parent : ℕ) → IsParent keys parents key parent → Contains hier.members.items parent
  pub up : (member number : ℕ) → member < length hier.members.items → slice_index hier.ups.items member ≡ number + 1
      → IsParent keys parents (slice_index hier.members.items member) (slice_index hier.members.items number)
  pub top : (member parent : ℕ) → member < length hier.members.items → slice_index hier.ups.items member ≡ 0
      → ¬ (IsParent keys parents (slice_index hier.members.items member) parent)
  pub rowless : (member : ℕ) → member < length hier.members.items → slice_index hier.lengths.items member ≡ 0
      → ¬ (HasRow keys (slice_index hier.members.items member))
  pub row : (member : ℕ) → member < length hier.members.items → 0 < slice_index hier.lengths.items member
      → HasRow keys (slice_index hier.members.items member)
  pub counted : (member : ℕ) → member < length hier.members.items → 0 < slice_index hier.lengths.items member
      → IsCounted hier.ups.items hier.lengths.items member (slice_index hier.lengths.items member)
