-- The plain lookup of a key in a row list, by the layout of the definition.
use Rattle.std.specs.Prelude.{◌≡◌, ◌+◌, ◌≤◌, ℕ, List, Option, None, length}
use Rattle.dict_schema.specs.declared.definition.Definition.{Definition}
use Rattle.dict_schema.specs.declared.definition.Layout.{Layout}
use Rattle.dict_schema.specs.declared.definition.Layout.TheVariants as layout
use Rattle.dict_value.specs.FindByKey.{FindsByKey}
use Rattle.dict_value.specs.declared.value.Address.{Address}
use Rattle.dict_value.specs.declared.value.Address.TheVariants as address
use Rattle.dict_value.specs.declared.value.Value.{Value}
use Rattle.dict_version.specs.Keys.{key_lists_of, numbers_of, ranges_of, key_texts}
use Rattle.dict_version.specs.declared.key.Key.{Key}
use Rattle.dict_version.specs.declared.key.Key.TheVariants as key
use Rattle.dict_version.specs.declared.lookup.LookupBy.{LookupBy}
use Rattle.dict_version.specs.declared.lookup.LookupBy.TheVariants as by
use Rattle.ip_trie.specs.FindByAddress.{FindsByAddress, HasInCommon}
use Rattle.range_layout.specs.FindByRange.{AreRowsWith, FindsByRange}
use Rattle.range_layout.specs.Kept.{AreFew}

-- what a layout looks a row up by; the cache and direct layouts have no rows
abbrev pub lookup_by : Layout → LookupBy
lookup_by (layout.Flat initial most) = by.SmallNumber most
lookup_by layout.Hashed = by.Number
lookup_by layout.SparseHashed = by.Number
lookup_by layout.HashedArray = by.Number
lookup_by layout.ComplexHashed = by.KeyList
lookup_by layout.ComplexSparseHashed = by.KeyList
lookup_by layout.ComplexHashedArray = by.KeyList
lookup_by (layout.RangeHashed strategy) = by.Range strategy
lookup_by (layout.ComplexRangeHashed strategy) = by.Range strategy
lookup_by layout.IpTrie = by.Address
lookup_by _ = by.Nothing

-- what is found of a key; a key of another form than the layout's finds nothing
abbrev pub FindsBy : LookupBy → Definition → List (List Value) → Key → Option ℕ → Type 0
FindsBy (by.SmallNumber most) d rows (key.Simple number) found = FindsByKey (numbers_of rows) number found
FindsBy by.Number d rows (key.Simple number) found = FindsByKey (numbers_of rows) number found
FindsBy by.KeyList d rows (key.List values) found = FindsByKey (key_lists_of d rows) values found
FindsBy (by.Range strategy) d rows (key.Ranged values point) found =
    FindsByRange (key_lists_of d rows) (ranges_of d rows) strategy values point found
FindsBy by.Address d rows (key.V4 bits) found = FindsByAddress (key_texts rows) (address.V4 bits) found
FindsBy by.Address d rows (key.V6 bits) found = FindsByAddress (key_texts rows) (address.V6 bits) found
FindsBy _ d rows _ found = found ≡ None

-- the plain lookup of a key
abbrev pub Finds : Definition → List (List Value) → Key → Option ℕ → Type 0
Finds d rows key found = FindsBy (lookup_by d.layout) d rows key found

-- How many steps a lookup counts, from the number before to the one behind it: at most one by a small number; s by a
-- point, with two to s at most sixteen times the rows with the key; and by an address one more than the bits that a
-- prefix has in common with it.
abbrev pub StepsBy : LookupBy → Definition → List (List Value) → Key → ℕ → ℕ → Type 0
StepsBy (by.SmallNumber most) d rows (key.Simple number) old new = new ≤ old + 1
StepsBy (by.Range strategy) d rows (key.Ranged values point) old new =
    (with_key : List ℕ) → AreRowsWith (key_lists_of d rows) values with_key
    → (s : ℕ) × AreFew (length with_key) s × (new ≤ old + s)
StepsBy by.Address d rows (key.V4 bits) old new =
    (count : ℕ) × HasInCommon (key_texts rows) (address.V4 bits) count × (new ≤ old + (count + 1))
StepsBy by.Address d rows (key.V6 bits) old new =
    (count : ℕ) × HasInCommon (key_texts rows) (address.V6 bits) count × (new ≤ old + (count + 1))
StepsBy _ d rows _ old new = new ≤ old

abbrev pub TakesFew : Definition → List (List Value) → Key → ℕ → ℕ → Type 0
TakesFew d rows key old new = StepsBy (lookup_by d.layout) d rows key old new
