-- How another definitions file may change the items of a desk.
use Rattle.std.specs.Prelude.{◌≡◌, ◌⊎◌, ◌+◌, ◌<◌, ℕ, List, Option, Some, length, slice_get, ⊤, false}
use Rattle.dict_schema.specs.Parts.{is_keyed_layout}
use Rattle.dict_schema.specs.declared.definition.Definition.{Definition}
use Rattle.dict_schema.specs.declared.definition.Item.{Item}
use Rattle.dict_schema.specs.declared.definition.Item.TheVariants.{Dictionary}
use Rattle.dict_session.specs.declared.desk.ConfigEnd.{ConfigEnd}
use Rattle.dict_session.specs.declared.desk.ConfigEnd.TheVariants as config

-- what comes of a file that has no items
abbrev pub IsFileFault : ConfigEnd → Type 0
IsFileFault (config.Done changed published) = ⊥
IsFileFault (config.Names item) = ⊥
IsFileFault _ = ⊤

-- both are fully loaded dictionaries of one name, which a load may change into each other
pub record CanChange (d other : Definition) : Type 0 where
  pub name : d.name ≡ other.name
  pub kept : is_keyed_layout d.layout ≡ false
  pub other_kept : is_keyed_layout other.layout ≡ false

-- the item may stand in the place of the other: it is the same, or a load makes the one of the other
abbrev pub Stands : Item → Item → Type 0
Stands (Dictionary d) (Dictionary other) = CanChange d other ⊎ (d ≡ other)
Stands item other = item ≡ other

-- the same of a place, where both lists have an item
abbrev pub StandsAt : Option Item → Option Item → Type 0
StandsAt (Some item) (Some other) = Stands item other
StandsAt _ _ = ⊥

-- at each place before this one an item stands in the place of the other
abbrev pub StandBefore : List Item → List Item → ℕ → Type 0
StandBefore items others count = (k : ℕ) → k < count → StandsAt (slice_get items k) (slice_get others k)

-- each item may stand in the place of its other
pub record AllStand (items others : List Item) : Type 0 where
  pub many : length others ≡ length items
  pub each : StandBefore items others (length items)

-- the first item, from 1, that is missing in one of the lists, or can't stand in the other's place
pub record IsFirstUnlike (items others : List Item) (number : ℕ) : Type 0 where
  pub place : ℕ
  pub counted : number ≡ place + 1
  pub before : StandBefore items others place
  pub there : (place < length items) ⊎ (place < length others)
  pub unlike : StandsAt (slice_get items place) (slice_get others place) → ⊥
