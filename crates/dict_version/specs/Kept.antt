-- What a version keeps beside its rows.
use Rattle.std.specs.Prelude.{◌≡◌, ◌≤◌, ℕ, List, Option, MatchOption, length}
use Rattle.dict_schema.specs.Shapes.{cell_types, shape_of}
use Rattle.dict_schema.specs.Sound.{IsSound}
use Rattle.dict_schema.specs.declared.definition.Definition.{Definition}
use Rattle.dict_value.specs.declared.value.AttrType.{AttrType}
use Rattle.dict_value.specs.declared.value.TheConstants.{MOST_ROWS}
use Rattle.dict_value.specs.declared.value.Value.{Value}
use Rattle.dict_version.specs.Keys.{NamesParent, key_lists_of, numbers_of, parents_of, ranges_of, key_texts}
use Rattle.dict_version.specs.Lookups.{lookup_by}
use Rattle.dict_version.specs.Rows.{LayoutTakes, TakesRows}
use Rattle.dict_version.specs.declared.index.Index.{Index}
use Rattle.dict_version.specs.declared.index.Index.TheVariants as index
use Rattle.dict_version.specs.declared.lookup.LookupBy.{LookupBy}
use Rattle.dict_version.specs.declared.lookup.LookupBy.TheVariants as by
use Rattle.flat_layout.specs.Cells.{AreCellsOf}
use Rattle.hashed_layout.specs.KeyTables.{IsKeyTableOf}
use Rattle.hashed_layout.specs.Tables.{IsTableOf}
use Rattle.hier.specs.Kept.{IsHierOf}
use Rattle.hier.specs.declared.hier.Hier.{Hier}
use Rattle.ip_trie.specs.Kept.{AreTriesOf}
use Rattle.range_layout.specs.Kept.{IsRangedOf}

-- the hierarchy of the rows, by the column that names a parent
abbrev pub IsHierarchyOf : Definition → List (List Value) → Hier → Type 0
IsHierarchyOf d rows hier =
    (column : ℕ) × NamesParent d column × IsHierOf (numbers_of rows) (parents_of d column rows) hier

-- there is one exactly where a column names a parent
abbrev pub HasHierarchy : Definition → List (List Value) → Option Hier → Type 0
HasHierarchy d rows hier = MatchOption hier ((column : ℕ) → ¬ (NamesParent d column)) (IsHierarchyOf d rows)

-- the index that a layout wants of the rows
abbrev pub IsIndexBy : {S : Type 0} → LookupBy → Definition → List (List Value) → Index S → Type 0
IsIndexBy (by.SmallNumber most) d rows (index.SmallNumbers flat) = AreCellsOf (numbers_of rows) flat.cells
IsIndexBy by.Number d rows (index.Numbers table) = IsTableOf (numbers_of rows) table.cells.items
IsIndexBy by.KeyList d rows (index.KeyLists table) =
    IsKeyTableOf (key_lists_of d rows) table.bytes table.entries table.cells.items
IsIndexBy (by.Range strategy) d rows (index.Ranges ranged) =
    IsRangedOf (key_lists_of d rows) (ranges_of d rows) strategy ranged.keys ranged.spans ranged.edges ranged.winners
IsIndexBy by.Address d rows (index.Prefixes trie) = AreTriesOf (key_texts rows) trie.v4 trie.v6 trie.leaves
IsIndexBy _ d rows _ = ⊥

-- what holds of each version
pub record IsVersion {S : Type 0} (d : Definition) (rows : List (List Value)) (types : List AttrType) (index : Index S)
    (hier : Option Hier) : Type 0 where
  pub sound : IsSound d
  pub few : length rows ≤ MOST_ROWS
  pub takes : TakesRows d rows
  pub taken : LayoutTakes d rows
  pub types_are : types ≡ cell_types (shape_of d)
  pub index_is : IsIndexBy (lookup_by d.layout) d rows index
  pub hier_is : HasHierarchy d rows hier
