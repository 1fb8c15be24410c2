-- The one text of a definition: one space between its parts, and names in backquotes.
use Rattle.std.specs.Prelude.{◌≡◌, ℕ, Bool, true, false, List, [], ◌∷◌, ◌++◌, Some, None, codes, decimal}
use Rattle.std.specs.Prelude.{if◌then◌else◌, length, nat_lt, slice_get}
use Rattle.std.specs.List.{flat_map, range_with_len}
use Rattle.dict_value.specs.Values.{FitsColumn, value_text}
use Rattle.dict_value.specs.declared.value.AttrType.{AttrType}
use Rattle.dict_value.specs.declared.value.ColType.{ColType}
use Rattle.dict_value.specs.declared.value.ColType.TheVariants as type
use Rattle.dict_value.specs.declared.value.Format.{Format}
use Rattle.dict_value.specs.declared.value.Format.TheVariants as format
use Rattle.dict_value.specs.declared.value.Value.{Value}
use Rattle.dict_value.specs.declared.value.Value.TheVariants as value
use Rattle.dict_schema.specs.Judging.{AreClear}
use Rattle.dict_schema.specs.Parts.{is_attribute}
use Rattle.dict_schema.specs.Table.{table}
use Rattle.dict_schema.specs.declared.definition.Arg.{Arg}
use Rattle.dict_schema.specs.declared.definition.CacheSet.{CacheSet}
use Rattle.dict_schema.specs.declared.definition.Column.{Column}
use Rattle.dict_schema.specs.declared.definition.Definition.{Definition}
use Rattle.dict_schema.specs.declared.definition.FunctionDef.{FunctionDef}
use Rattle.dict_schema.specs.declared.definition.Item.{Item}
use Rattle.dict_schema.specs.declared.definition.Item.TheVariants.{Dictionary, Function}
use Rattle.dict_schema.specs.declared.definition.Kind.{Kind}
use Rattle.dict_schema.specs.declared.definition.Kind.TheVariants.{Executable, Pool}
use Rattle.dict_schema.specs.declared.definition.Layout.{Layout}
use Rattle.dict_schema.specs.declared.definition.Layout.TheVariants as layout
use Rattle.dict_schema.specs.declared.definition.Lifetime.{Lifetime}
use Rattle.dict_schema.specs.declared.definition.RangeOf.{RangeOf}
use Rattle.dict_schema.specs.declared.definition.RangeOf.TheVariants as range
use Rattle.dict_schema.specs.declared.definition.SourceOf.{SourceOf}
use Rattle.dict_schema.specs.declared.definition.Strategy.{Strategy}
use Rattle.dict_schema.specs.declared.definition.Strategy.TheVariants.{Min, Max}
use Rattle.dict_schema.specs.declared.definition.Update.{Update}
use Rattle.dict_schema.specs.declared.definition.Update.TheVariants as update
use Rattle.ddl_writing.specs.Quoted.{name_text, string_text}
use Rattle.ddl_writing.specs.Words.{numbered, word_text}
use Rattle.ddl_writing.specs.declared.words.Word.TheVariants as word

-- ---- types and values

abbrev pub decimal_type_text : ℕ → ℕ → List ℕ
decimal_type_text digits scale = codes "Decimal(" ++ (decimal digits ++ (codes ", " ++ (decimal scale ++ codes ")")))

abbrev pub base_text : ColType → List ℕ
base_text type.UInt8 = codes "UInt8"
base_text type.UInt16 = codes "UInt16"
base_text type.UInt32 = codes "UInt32"
base_text type.UInt64 = codes "UInt64"
base_text type.Int8 = codes "Int8"
base_text type.Int16 = codes "Int16"
base_text type.Int32 = codes "Int32"
base_text type.Int64 = codes "Int64"
base_text type.Str = codes "String"
base_text type.Date = codes "Date"
base_text type.DateTime = codes "DateTime"
base_text type.Uuid = codes "UUID"
base_text type.Ipv4 = codes "IPv4"
base_text type.Ipv6 = codes "IPv6"
base_text (type.Decimal digits scale) = decimal_type_text digits scale

abbrev pub type_text : AttrType → List ℕ
type_text t = if t.nullable then codes "Nullable(" ++ (base_text t.base ++ codes ")") else base_text t.base

-- a text that no byte of is escaped
abbrev pub as_string : List ℕ → List ℕ
as_string text = codes "'" ++ (text ++ codes "'")

-- numbers and Decimals are bare, other values are strings
abbrev pub literal_text : ColType → Value → List ℕ
literal_text t value.Null = codes "NULL"
literal_text t (value.U n) = value_text t (value.U n)
literal_text t (value.I z) = value_text t (value.I z)
literal_text t (value.Dec z) = value_text t (value.Dec z)
literal_text t (value.S text) = string_text text
literal_text t (value.Day n) = as_string (value_text t (value.Day n))
literal_text t (value.Second n) = as_string (value_text t (value.Second n))
literal_text t (value.Id n) = as_string (value_text t (value.Id n))
literal_text t (value.V4 n) = as_string (value_text t (value.V4 n))
literal_text t (value.V6 n) = as_string (value_text t (value.V6 n))

-- ---- columns and keys

-- a mark, where the column has it
abbrev pub column_mark : Bool → List ℕ → List ℕ
column_mark marked word = if marked then word else []

abbrev pub marks_text : Column → List ℕ
marks_text column =
    column_mark column.hierarchical (codes " HIERARCHICAL")
    ++ (column_mark column.object_id (codes " IS_OBJECT_ID") ++ column_mark column.injective (codes " INJECTIVE"))

-- attributes always have a default; keys and the ends of a range never do
abbrev pub default_text : Bool → Column → List ℕ
default_text attribute column =
    if attribute then codes " DEFAULT " ++ literal_text column.ty.base column.default else []

abbrev pub typed_text : List ℕ → AttrType → List ℕ
typed_text name t = name_text name ++ (codes " " ++ type_text t)

abbrev pub column_text : Definition → ℕ → Column → List ℕ
column_text d place column =
    typed_text column.name column.ty ++ (default_text (is_attribute d place) column ++ marks_text column)

-- a thing of a list behind the sign that sets it apart from the one before
abbrev pub and_then : List ℕ → List ℕ
and_then text = codes ", " ++ text

-- the column at a place, if there is one
abbrev pub column_at_text : Definition → ℕ → List ℕ
column_at_text d place = elim (slice_get d.columns place) [ None ↦ [] | Some column ↦ column_text d place column ]

-- the same behind what stands before it
abbrev pub listed_column : Definition → ℕ → List ℕ
listed_column d place = if nat_lt 0 place then and_then (column_at_text d place) else column_at_text d place

-- all columns, in their order
abbrev pub columns_text : Definition → List ℕ
columns_text d = flat_map (listed_column d) (range_with_len 0 (length d.columns))

abbrev pub column_name_text : Definition → ℕ → List ℕ
column_name_text d place = elim (slice_get d.columns place) [ None ↦ [] | Some column ↦ name_text column.name ]

-- the names of the keys
abbrev pub other_keys_text : Definition → List ℕ → List ℕ
other_keys_text d keys = flat_map (λ place. and_then (column_name_text d place)) keys

abbrev pub keys_text : Definition → List ℕ → List ℕ
keys_text d [] = []
keys_text d (key ∷ keys) = column_name_text d key ++ other_keys_text d keys

-- ---- clauses

abbrev pub bit_text : Bool → List ℕ
bit_text b = if b then codes "1" else codes "0"

abbrev pub format_text : Format → List ℕ
format_text format.Tab = codes "'TabSeparated'"
format_text format.Csv = codes "'CSV'"

abbrev pub kind_text : Kind → List ℕ
kind_text Executable = codes "SOURCE(EXECUTABLE("
kind_text Pool = codes "SOURCE(EXECUTABLE_POOL("

abbrev pub program_text : SourceOf → List ℕ
program_text source =
    word_text word.Command ++ (string_text source.command ++ (word_text word.Form ++ format_text source.format))

-- a function has no implicit key
abbrev pub implicit_text : Bool → Bool → List ℕ
implicit_text of_function implicit = if of_function then [] else word_text word.Implicit ++ bit_text implicit

abbrev pub flags_text : Bool → SourceOf → List ℕ
flags_text of_function source =
    (word_text word.Direct ++ bit_text source.direct)
    ++ (implicit_text of_function source.implicit ++ (word_text word.Header ++ bit_text source.header))

abbrev pub times_text : SourceOf → List ℕ
times_text source =
    numbered word.ReadTimeout source.read_ms
    ++ (numbered word.WriteTimeout source.write_ms
    ++ numbered word.EndTimeout source.end_s)

abbrev pub pool_text : SourceOf → Kind → List ℕ
pool_text source Executable = []
pool_text source Pool =
    numbered word.PoolSize source.pool_size
    ++ numbered word.ExecutionTime source.execution_s

abbrev pub update_text : Update → List ℕ
update_text update.None = []
update_text (update.Field name lag) =
    word_text word.UpdateField ++ (string_text name ++ numbered word.UpdateLag lag)

abbrev pub settings_text : Bool → SourceOf → List ℕ
settings_text of_function source =
    program_text source ++ (flags_text of_function source ++ (times_text source
    ++ (pool_text source source.kind ++ update_text source.update)))

abbrev pub source_text : Bool → SourceOf → List ℕ
source_text of_function source = kind_text source.kind ++ (settings_text of_function source ++ codes "))")

abbrev pub strategy_text : Strategy → List ℕ
strategy_text Min = codes "(range_lookup_strategy 'min')"
strategy_text Max = codes "(range_lookup_strategy 'max')"

abbrev pub cache_text : CacheSet → List ℕ
cache_text cache =
    numbered word.Cells cache.cells
    ++ (word_text word.Expired ++ (bit_text cache.expired
    ++ (numbered word.Queue cache.queue ++ codes ")")))

abbrev pub flat_text : ℕ → ℕ → List ℕ
flat_text initial most =
    numbered word.Initial initial ++ (numbered word.Greatest most ++ codes ")")

abbrev pub kept_text : Layout → List ℕ
kept_text (layout.Flat initial most) = flat_text initial most
kept_text layout.Hashed = codes "HASHED()"
kept_text layout.SparseHashed = codes "SPARSE_HASHED()"
kept_text layout.HashedArray = codes "HASHED_ARRAY()"
kept_text layout.ComplexHashed = codes "COMPLEX_KEY_HASHED()"
kept_text layout.ComplexSparseHashed = codes "COMPLEX_KEY_SPARSE_HASHED()"
kept_text layout.ComplexHashedArray = codes "COMPLEX_KEY_HASHED_ARRAY()"
kept_text (layout.RangeHashed strategy) = word_text word.Range ++ strategy_text strategy
kept_text (layout.ComplexRangeHashed strategy) = word_text word.ComplexRange ++ strategy_text strategy
kept_text layout.IpTrie = codes "IP_TRIE()"
kept_text (layout.Cache cache) = word_text word.Cache ++ cache_text cache
kept_text (layout.ComplexCache cache) = word_text word.ComplexCache ++ cache_text cache
kept_text layout.Direct = codes "DIRECT()"
kept_text layout.ComplexDirect = codes "COMPLEX_KEY_DIRECT()"

abbrev pub layout_clause : Layout → List ℕ
layout_clause kept = word_text word.Kept ++ (kept_text kept ++ codes ")")

abbrev pub lifetime_text : Lifetime → List ℕ
lifetime_text lifetime =
    numbered word.LifetimeMin lifetime.min ++ (numbered word.Max lifetime.max ++ codes ")")

abbrev pub range_text : Definition → RangeOf → List ℕ
range_text d range.None = []
range_text d (range.Columns start end) =
    word_text word.RangeMin
    ++ (column_name_text d start ++ (word_text word.Max ++ (column_name_text d end ++ codes ")")))

abbrev pub output_text : ℕ → List ℕ
output_text most = numbered word.Output most ++ codes ")"

abbrev pub comment_text : List ℕ → List ℕ
comment_text [] = []
comment_text (b ∷ text) = word_text word.Comment ++ string_text (b ∷ text)

-- ---- dictionaries and functions

abbrev pub table_text : Definition → List ℕ
table_text d =
    word_text word.Create ++ (name_text d.name ++ (codes " (" ++ (columns_text d ++ (word_text word.PrimaryKey
    ++ keys_text d d.keys))))

abbrev pub clauses_text : Definition → List ℕ
clauses_text d =
    layout_clause d.layout ++ (lifetime_text d.lifetime ++ (range_text d d.range
    ++ (output_text d.max_output ++ comment_text d.comment)))

abbrev pub definition_text : Definition → List ℕ
definition_text d = table_text d ++ (codes " " ++ (source_text false d.source ++ clauses_text d))

abbrev pub other_arguments_text : List Arg → List ℕ
other_arguments_text arguments = flat_map (λ a. and_then (typed_text a.name a.ty)) arguments

abbrev pub arguments_text : List Arg → List ℕ
arguments_text [] = []
arguments_text (argument ∷ others) = typed_text argument.name argument.ty ++ other_arguments_text others

abbrev pub signature_text : FunctionDef → List ℕ
signature_text f =
    word_text word.Function ++ (name_text f.name ++ (codes " (" ++ (arguments_text f.args
    ++ (word_text word.Returns ++ type_text f.returns))))

abbrev pub function_text : FunctionDef → List ℕ
function_text f = signature_text f ++ (codes " " ++ (source_text true f.source ++ output_text f.max_output))

abbrev pub item_text : Item → List ℕ
item_text (Dictionary d) = definition_text d
item_text (Function f) = function_text f

-- ---- what may be written

-- it can't be that the default of a column is no value of its type
abbrev pub DefaultFits : Column → Type 0
DefaultFits column = (FitsColumn column.ty column.default → ⊥) → ⊥

abbrev pub DefaultsFit : Definition → Type 0
DefaultsFit d = (place : ℕ) (column : Column) → slice_get d.columns place ≡ Some column → DefaultFits column

-- no fault of a dictionary stands
abbrev pub HasNoFault : Item → Type 0
HasNoFault (Dictionary d) = AreClear (table d)
HasNoFault (Function f) = Unit {0}
