-- Which rows a definition takes, and why a list of rows makes no version.
use Rattle.std.specs.Prelude.{◌<◌, List, All, IsSome, ⊤}
use Rattle.std.specs.List.{AllZip}
use Rattle.dict_schema.specs.Shapes.{cell_types, shape_of}
use Rattle.dict_schema.specs.declared.definition.Definition.{Definition}
use Rattle.dict_value.specs.Addresses.{prefix_in}
use Rattle.dict_value.specs.Values.{FitsColumn}
use Rattle.dict_value.specs.declared.value.Value.{Value}
use Rattle.dict_version.specs.Keys.{numbers_of, key_texts}
use Rattle.dict_version.specs.Lookups.{lookup_by}
use Rattle.dict_version.specs.declared.lookup.LookupBy.{LookupBy}
use Rattle.dict_version.specs.declared.lookup.LookupBy.TheVariants as by
use Rattle.dict_version.specs.declared.fault.LayoutFault.{LayoutFault}
use Rattle.dict_version.specs.declared.fault.LayoutFault.TheVariants as fault
use Rattle.flat_layout.specs.Cells.{IsFirstTooLarge}
use Rattle.ip_trie.specs.FindByAddress.{IsFirstBad}

-- each row has a value for each column of the shape: one of its type, or NULL where the type allows it or an end of the
-- range is open
abbrev pub TakesRows : Definition → List (List Value) → Type 0
TakesRows d rows = All (AllZip FitsColumn (cell_types (shape_of d))) rows

-- the layout takes the rows: FLAT those whose keys are below its limit, IP_TRIE those whose keys are prefixes, and the
-- others all
abbrev pub LayoutTakesBy : LookupBy → List (List Value) → Type 0
LayoutTakesBy (by.SmallNumber most) rows = All (λ number. number < most) (numbers_of rows)
LayoutTakesBy by.Address rows = All (λ text. IsSome (prefix_in text)) (key_texts rows)
LayoutTakesBy _ rows = ⊤

abbrev pub LayoutTakes : Definition → List (List Value) → Type 0
LayoutTakes d rows = LayoutTakesBy (lookup_by d.layout) rows

-- why it doesn't, want of memory aside: the first key that isn't below the limit, or the first row, counted from 1,
-- whose key is no prefix
abbrev pub IsRefusedBy : LookupBy → List (List Value) → LayoutFault → Type 0
IsRefusedBy (by.SmallNumber most) rows (fault.KeyTooLarge number) = IsFirstTooLarge (numbers_of rows) most number
IsRefusedBy by.Address rows (fault.BadPrefix row) = IsFirstBad (key_texts rows) row
IsRefusedBy _ rows _ = ⊥

abbrev pub IsRefusedFor : Definition → List (List Value) → LayoutFault → Type 0
IsRefusedFor d rows fault = IsRefusedBy (lookup_by d.layout) rows fault
