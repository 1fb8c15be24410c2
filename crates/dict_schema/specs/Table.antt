-- What a definition and a function are allowed to be: the tables of faults, in the order in which they are told.
use Rattle.std.specs.Prelude.{◌≡◌, ◌≢◌, ◌<◌, ◌≤◌, ◌⊎◌, ℕ, List, [], ◌∷◌, ◌++◌, length, map, Bool, true, false}
use Rattle.std.specs.Prelude.{Some, slice_get, IsTrue}
use Rattle.dict_value.specs.declared.value.ColType.{ColType}
use Rattle.dict_value.specs.declared.value.ColType.TheVariants.{UInt64}
use Rattle.dict_value.specs.Values.{FitsColumn}
use Rattle.dict_schema.specs.declared.definition.Column.{Column}
use Rattle.dict_schema.specs.declared.definition.Definition.{Definition}
use Rattle.dict_schema.specs.declared.definition.FunctionDef.{FunctionDef}
use Rattle.dict_schema.specs.declared.definition.Kind.TheVariants.{Pool}
use Rattle.dict_schema.specs.declared.definition.Layout.{Layout}
use Rattle.dict_schema.specs.declared.definition.Layout.TheVariants as layout
use Rattle.dict_schema.specs.declared.definition.RangeOf.TheVariants as range
use Rattle.dict_schema.specs.declared.definition.SourceOf.{SourceOf}
use Rattle.dict_schema.specs.declared.definition.Update.TheVariants as update
use Rattle.dict_schema.specs.declared.fault.DefFault.TheVariants as fault
use Rattle.dict_schema.specs.declared.fault.Which.{Which}
use Rattle.dict_schema.specs.declared.fault.Which.TheVariants as which
use Rattle.dict_schema.specs.Commands.{IsBadCommand}
use Rattle.dict_schema.specs.Judging.{Rule, Where, EachOf, Numbered}
use Rattle.dict_schema.specs.Parts.{column_names, argument_names, is_keyed_layout, is_range_layout, is_updated_layout}
use Rattle.dict_schema.specs.Parts.{wanted_key, is_key, is_attribute, HasOneKey, HasRange, HasBadRange}

-- a quantity is outside these bounds
abbrev pub IsOutside : ℕ → ℕ → ℕ → Type 0
IsOutside least most quantity = (quantity < least) ⊎ (most < quantity)

-- the quantity has to be within these bounds
abbrev pub Within : Which → ℕ → ℕ → ℕ → Rule
Within kind least most quantity = Where (fault.Limit kind quantity) (IsOutside least most quantity)

-- the name at this place has to have 1 to 255 bytes
abbrev pub NameWithin : List (List ℕ) → ℕ → Rule
NameWithin names place f =
    (name : List ℕ) × (slice_get names place ≡ Some name) × Within which.Name 1 255 (length name) f

-- each of these names has to
abbrev pub NamesWithin : List (List ℕ) → List Rule
NamesWithin names = EachOf (length names) (NameWithin names)

-- the bounds of a layout's settings
abbrev pub LayoutWithin : Layout → Rule
LayoutWithin (layout.Flat initial most) = Within which.ArraySize 1 16777216 most
LayoutWithin (layout.Cache set) = Where (fault.Limit which.Cells set.cells) (set.cells < 1)
LayoutWithin (layout.ComplexCache set) = Where (fault.Limit which.Cells set.cells) (set.cells < 1)
LayoutWithin _ = λ f. ⊥

-- how many columns and keys there are, and the definition's own name
abbrev pub counts : Definition → List Rule
counts d =
    Within which.Columns 0 64 (length d.columns)
    ∷ Within which.Keys 0 16 (length d.keys)
    ∷ Within which.Name 1 255 (length d.name)
    ∷ []

-- the settings
abbrev pub settings : Definition → List Rule
settings d =
    Within which.Command 1 4096 (length d.source.command)
    ∷ Within which.Output 1 134217728 d.max_output
    ∷ LayoutWithin d.layout
    ∷ Within which.PoolSize 0 1024 d.source.pool_size
    ∷ Where (fault.Limit which.LifetimeOrder d.lifetime.min) (d.lifetime.max < d.lifetime.min)
    ∷ []

-- the key at this place of PRIMARY KEY is no column
abbrev pub IsMissingKey : Definition → ℕ → Type 0
IsMissingKey d place = (key : ℕ) × (slice_get d.keys place ≡ Some key) × (length d.columns ≤ key)

-- the name at this place stands at an earlier one, too
abbrev pub IsNamedBefore : List (List ℕ) → ℕ → Type 0
IsNamedBefore names place =
    (k : ℕ) × (name : List ℕ) × (k < place) × (slice_get names k ≡ Some name) × (slice_get names place ≡ Some name)

-- two keys name the column at this place
abbrev pub IsKeyTwice : List ℕ → ℕ → Type 0
IsKeyTwice keys place =
    (j : ℕ) × (k : ℕ) × (j < k) × (slice_get keys j ≡ Some place) × (slice_get keys k ≡ Some place)

-- the column at this place has the name of an earlier one, or two keys name it
abbrev pub IsDuplicate : Definition → ℕ → Type 0
IsDuplicate d place = IsNamedBefore (column_names d) place ⊎ IsKeyTwice d.keys place

-- the layout wants one key of a type, and the definition hasn't that
abbrev pub LacksOneKey : Definition → Type 0
LacksOneKey d = (base : ColType) × (wanted_key d.layout ≡ Some base) × (HasOneKey d base → ⊥)

-- the column at this place is a key that may be NULL
abbrev pub IsNullableKey : Definition → ℕ → Type 0
IsNullableKey d place =
    (column : Column) × (slice_get d.columns place ≡ Some column) × IsTrue (is_key d place) × IsTrue column.ty.nullable

-- the keys, and the names of the columns
abbrev pub keys : Definition → List Rule
keys d =
    (Where fault.NoKey (d.keys ≡ []) ∷ [])
    ++ (Numbered fault.KeyMissing (length d.keys) (IsMissingKey d)
    ++ (Numbered fault.DuplicateName (length d.columns) (IsDuplicate d)
    ++ ((Where fault.SimpleKeyType (LacksOneKey d) ∷ [])
    ++ Numbered fault.KeyType (length d.columns) (IsNullableKey d))))

-- the range
abbrev pub ranges : Definition → List Rule
ranges d =
    Where fault.RangeMissing (IsTrue (is_range_layout d.layout) × (HasRange d → ⊥))
    ∷ Where fault.RangeUnused ((is_range_layout d.layout ≡ false) × (d.range ≢ range.None))
    ∷ Where fault.RangeType (HasBadRange d)
    ∷ []

-- a column before this place names a parent
abbrev pub IsParentBefore : Definition → ℕ → Type 0
IsParentBefore d place =
    (k : ℕ) × (column : Column) × (k < place) × (slice_get d.columns k ≡ Some column) × IsTrue column.hierarchical

-- the column at this place names a parent, and is no attribute, has another type than UInt64, or isn't the first that
-- does
abbrev pub IsBadParent : Definition → ℕ → Type 0
IsBadParent d place =
    (column : Column) × (slice_get d.columns place ≡ Some column) × IsTrue column.hierarchical
    × ((is_attribute d place ≡ false) ⊎ ((column.ty.base ≢ UInt64) ⊎ IsParentBefore d place))

-- the default of the column at this place is no value of its type
abbrev pub IsBadDefault : Definition → ℕ → Type 0
IsBadDefault d place =
    (column : Column) × (slice_get d.columns place ≡ Some column) × (FitsColumn column.ty column.default → ⊥)

-- the update of a source is wanted, where rows aren't updated
abbrev pub IsUnused : Bool → SourceOf → Type 0
IsUnused updated source = (updated ≡ false) × (source.update ≢ update.None)

-- the columns that name a parent, and the defaults
abbrev pub attributes : Definition → List Rule
attributes d =
    Numbered fault.HierarchyType (length d.columns) (IsBadParent d)
    ++ Numbered fault.BadDefault (length d.columns) (IsBadDefault d)

-- the source
abbrev pub sources : Definition → List Rule
sources d =
    Where fault.PoolNeedsKeys ((d.source.kind ≡ Pool) × (is_keyed_layout d.layout ≡ false))
    ∷ Where fault.Command (IsBadCommand d.source.direct d.source.command)
    ∷ Where fault.UpdateLayout (IsUnused (is_updated_layout d.layout) d.source)
    ∷ []

-- the table of a dictionary's definition
abbrev pub table : Definition → List Rule
table d =
    counts d ++ (NamesWithin (column_names d) ++ (settings d ++ (keys d ++ (ranges d ++ (attributes d ++ sources d)))))

-- the parts of a function's table, in the same order
abbrev pub function_counts : FunctionDef → List Rule
function_counts f =
    Within which.Args 0 16 (length f.args)
    ∷ Within which.Name 1 255 (length f.name)
    ∷ []

abbrev pub function_settings : FunctionDef → List Rule
function_settings f =
    Within which.Command 1 4096 (length f.source.command)
    ∷ Within which.Output 1 134217728 f.max_output
    ∷ Within which.PoolSize 0 1024 f.source.pool_size
    ∷ []

abbrev pub arguments : FunctionDef → List Rule
arguments f =
    (Where fault.NoArguments (f.args ≡ []) ∷ [])
    ++ Numbered fault.DuplicateName (length f.args) (IsNamedBefore (argument_names f))

abbrev pub function_source : FunctionDef → List Rule
function_source f =
    Where fault.Command (IsBadCommand f.source.direct f.source.command)
    ∷ Where fault.UpdateLayout (IsUnused false f.source)
    ∷ []

-- the table of a function's definition
abbrev pub function_table : FunctionDef → List Rule
function_table f =
    function_counts f
    ++ (NamesWithin (argument_names f) ++ (function_settings f ++ (arguments f ++ function_source f)))
