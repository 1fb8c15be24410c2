-- The hierarchy of a row list: chains of parents, and the keys below a key.
use Rattle.std.specs.Prelude.{◌≡◌, ◌↔◌, ◌+◌, ◌-◌, ◌<◌, ◌⊎◌, ℕ, zero, suc, List, [], Some, Contains, length, slice_get}
use Rattle.std.specs.List.Sorted.{IsStrictlyIncreasing}
use Rattle.dict_value.specs.FindByKey.{HasKeyAt, IsLeastPlace}
use Rattle.hier.specs.declared.hier.Parent.{Parent}
use Rattle.hier.specs.declared.hier.Parent.TheVariants.{Of}

-- some row has the key
abbrev pub HasRow : List ℕ → ℕ → Type 0
HasRow keys key = (place : ℕ) × HasKeyAt keys key place

-- the parent of a key is that of the first row with the key
abbrev pub IsParent : List ℕ → List Parent → ℕ → ℕ → Type 0
IsParent keys parents key parent =
    (place : ℕ) × IsLeastPlace keys key place × (slice_get parents place ≡ Some (Of parent))

-- the last of a list
abbrev pub IsLast : List ℕ → ℕ → Type 0
IsLast list last = slice_get list (length list - 1) ≡ Some last

-- The chain of a key: it begins with the key and goes to the parent, and stops before a parent without a row, before a
-- key that it has, and at the top. It is empty where no row has the key.
pub record IsChain (keys : List ℕ) (parents : List Parent) (key : ℕ) (chain : List ℕ) : Type 0 where
  pub none : ¬ (HasRow keys key) → chain ≡ []
  pub begins : HasRow keys key → slice_get chain 0 ≡ Some key
  pub rows : (i member : ℕ) → slice_get chain i ≡ Some member → HasRow keys member
  pub goes : (i member next : ℕ) → slice_get chain i ≡ Some member → slice_get chain (i + 1) ≡ Some next
      → IsParent keys parents member next
  pub apart : (i j member : ℕ) → slice_get chain i ≡ Some member → slice_get chain j ≡ Some member → i ≡ j
  pub stops : (last parent : ℕ) → IsLast chain last → IsParent keys parents last parent → HasRow keys parent
      → Contains chain parent

-- the key is in the chain of another
abbrev pub IsIn : List ℕ → List Parent → ℕ → ℕ → Type 0
IsIn keys parents key ancestor = (chain : List ℕ) × IsChain keys parents key chain × Contains chain ancestor

-- The long chain of a key has another at a place, from 0. It is the chain, and behind it the parent of the last where
-- no row has that parent.
abbrev pub LongChainHas : List ℕ → List Parent → ℕ → ℕ → ℕ → Type 0
LongChainHas keys parents key place other =
    (chain : List ℕ) × IsChain keys parents key chain
    × ((slice_get chain place ≡ Some other)
    ⊎ ((place ≡ length chain) × ¬ (HasRow keys other)
    × ((last : ℕ) × IsLast chain last × IsParent keys parents last other)))

-- a descendant at a level, from 1: its long chain has the key at that place; level 0 stands for all levels
abbrev pub IsDescendant : List ℕ → List Parent → ℕ → ℕ → ℕ → Type 0
IsDescendant keys parents key zero other =
    (level : ℕ) × (0 < level) × LongChainHas keys parents other level key
IsDescendant keys parents key (suc level) other = LongChainHas keys parents other (suc level) key

-- all numbers of which this holds, rising and without repeats
pub record IsRisingListOf (P : ℕ → Type 0) (list : List ℕ) : Type 0 where
  pub rises : IsStrictlyIncreasing list
  pub each : (n : ℕ) → Contains list n ↔ P n
