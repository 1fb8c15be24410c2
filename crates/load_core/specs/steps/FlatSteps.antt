-- What the steps of looking for a large key find.
use Rattle.std.specs.Prelude.{◌≡◌, ◌<◌, ℕ, Option, Some}
use Rattle.dict_value.specs.declared.value.Value.{Value}
use Rattle.dict_value.specs.declared.value.Value.TheVariants.{U}
use Rattle.load_core.specs.FlatRows.{key_bound}

-- the value at a row's first column is no key that a flat layout doesn't take
abbrev pub IsSmallCell : Option Value → Type 0
IsSmallCell cell = (key : ℕ) → cell ≡ Some (U key) → key < key_bound
