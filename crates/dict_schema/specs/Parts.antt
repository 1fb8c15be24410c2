-- The parts of a definition, as the judgements speak of them.
use Rattle.std.specs.Prelude.{◌≡◌, ◌≢◌, ◌⊎◌, ℕ, List, [], ◌∷◌, Bool, true, false, Option, Some, None, map, slice_get}
use Rattle.std.specs.Prelude.{IsTrue, not, ◌&&◌, ◌||◌, ◌==◌}
use Rattle.std.specs.List.{list_any}
use Rattle.dict_value.specs.declared.value.AttrType.{AttrType}
use Rattle.dict_value.specs.declared.value.ColType.{ColType}
use Rattle.dict_value.specs.declared.value.ColType.TheVariants as type
use Rattle.dict_schema.specs.declared.definition.Column.{Column}
use Rattle.dict_schema.specs.declared.definition.Definition.{Definition}
use Rattle.dict_schema.specs.declared.definition.Layout.{Layout}
use Rattle.dict_schema.specs.declared.definition.Layout.TheVariants as layout
use Rattle.dict_schema.specs.declared.definition.RangeOf.{RangeOf}
use Rattle.dict_schema.specs.declared.definition.RangeOf.TheVariants as range
use Rattle.dict_schema.specs.declared.definition.Arg.{Arg}
use Rattle.dict_schema.specs.declared.definition.FunctionDef.{FunctionDef}

-- the names of the columns, and those of the arguments
abbrev pub column_names : Definition → List (List ℕ)
column_names d = map (λ column. column.name) d.columns

abbrev pub argument_names : FunctionDef → List (List ℕ)
argument_names f = map (λ argument. argument.name) f.args

-- rows are fetched by key, and no version is kept
abbrev pub is_keyed_layout : Layout → Bool
is_keyed_layout (layout.Cache set) = true
is_keyed_layout (layout.ComplexCache set) = true
is_keyed_layout layout.Direct = true
is_keyed_layout layout.ComplexDirect = true
is_keyed_layout _ = false

-- rows count within a range
abbrev pub is_range_layout : Layout → Bool
is_range_layout (layout.RangeHashed strategy) = true
is_range_layout (layout.ComplexRangeHashed strategy) = true
is_range_layout _ = false

-- rows may be loaded by what changed: FLAT and the six hashed layouts
abbrev pub is_updated_layout : Layout → Bool
is_updated_layout (layout.Flat initial most) = true
is_updated_layout layout.Hashed = true
is_updated_layout layout.SparseHashed = true
is_updated_layout layout.HashedArray = true
is_updated_layout layout.ComplexHashed = true
is_updated_layout layout.ComplexSparseHashed = true
is_updated_layout layout.ComplexHashedArray = true
is_updated_layout _ = false

-- the type of the one key that a layout wants; a complex key may be of any types
abbrev pub wanted_key : Layout → Option ColType
wanted_key layout.ComplexHashed = None
wanted_key layout.ComplexSparseHashed = None
wanted_key layout.ComplexHashedArray = None
wanted_key (layout.ComplexRangeHashed strategy) = None
wanted_key (layout.ComplexCache set) = None
wanted_key layout.ComplexDirect = None
wanted_key layout.IpTrie = Some type.Str
wanted_key _ = Some type.UInt64

-- what a range may be over: integers of up to 64 bits, days and seconds
abbrev pub is_range_type : ColType → Bool
is_range_type type.UInt8 = true
is_range_type type.UInt16 = true
is_range_type type.UInt32 = true
is_range_type type.UInt64 = true
is_range_type type.Int8 = true
is_range_type type.Int16 = true
is_range_type type.Int32 = true
is_range_type type.Int64 = true
is_range_type type.Date = true
is_range_type type.DateTime = true
is_range_type _ = false

-- whether a key column stands at a place
abbrev pub is_key : Definition → ℕ → Bool
is_key d place = list_any (λ key. key == place) d.keys

-- whether an end of the range stands at a place
abbrev pub is_range_end : RangeOf → ℕ → Bool
is_range_end range.None place = false
is_range_end (range.Columns start end) place = (place == start) || (place == end)

-- whether the column at a place is neither a key nor an end of the range
abbrev pub is_attribute : Definition → ℕ → Bool
is_attribute d place = not (is_key d place) && not (is_range_end d.range place)

-- the one key column, which has this type and is never NULL
pub record HasOneKey (d : Definition) (wanted : ColType) : Type 0 where
  pub place : ℕ
  pub column : Column
  pub one : d.keys ≡ place ∷ []
  pub found : slice_get d.columns place ≡ Some column
  pub base : column.ty.base ≡ wanted
  pub filled : column.ty.nullable ≡ false

-- the two columns of the range
pub record HasRange (d : Definition) : Type 0 where
  pub start : ℕ
  pub end : ℕ
  pub first : Column
  pub last : Column
  pub range : d.range ≡ range.Columns start end
  pub found_first : slice_get d.columns start ≡ Some first
  pub found_last : slice_get d.columns end ≡ Some last

-- what may be wrong with the ends of a range, by their places and columns
abbrev pub AreBadEnds : Definition → ℕ → ℕ → Column → Column → Type 0
AreBadEnds d start end first last =
    (first.ty.base ≢ last.ty.base) ⊎ (IsTrue (is_key d start) ⊎ (IsTrue (is_key d end)
    ⊎ ((start ≡ end) ⊎ (is_range_type first.ty.base ≡ false))))

-- the definition has a range, and something is wrong with its ends
abbrev pub HasBadRange : Definition → Type 0
HasBadRange d = (r : HasRange d) × AreBadEnds d r.start r.end r.first r.last
