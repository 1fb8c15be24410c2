-- What is fetched for the keys of a dictionary whose rows come by key.
use Rattle.std.specs.Prelude.{◌≡◌, ◌≤◌, ℕ, List, length, map, ⊤}
use Rattle.std.specs.List.{AllZip}
use Rattle.dict_schema.specs.declared.definition.Definition.{Definition}
use Rattle.dict_schema.specs.declared.definition.Role.TheVariants.{Key}
use Rattle.dict_schema.specs.declared.definition.ShapeColumn.{ShapeColumn}
use Rattle.dict_schema.specs.Shapes.{columns_at, keyed_shape_of}
use Rattle.dict_value.specs.declared.value.AttrType.{AttrType}
use Rattle.dict_value.specs.declared.value.FetchedRow.{FetchedRow}
use Rattle.dict_value.specs.declared.value.Format.{Format}
use Rattle.dict_value.specs.declared.value.MaybeRow.{MaybeRow}
use Rattle.dict_value.specs.declared.value.MaybeRow.TheVariants.{Absent, Present}
use Rattle.dict_value.specs.declared.value.Value.{Value}
use Rattle.dict_value.specs.Values.{FitsColumn}
use Rattle.row_text.specs.Written.{written_row}
use Rattle.cache_layout.specs.declared.fetch.TheConstants.{MOST_KEY_BYTES}

-- the types of the key columns, in their order
abbrev pub key_types : Definition → List AttrType
key_types d = map (λ column. column.ty) (columns_at d Key d.keys)

-- a child can be sent the values: each is one of its type, and their row isn't too long
pub record CanBeSent (format : Format) (types : List AttrType) (values : List Value) : Type 0 where
  pub fits : AllZip FitsColumn types values
  pub small : length (written_row format types values) ≤ MOST_KEY_BYTES

-- a key that can be fetched
abbrev pub IsKeyOf : Definition → List Value → Type 0
IsKeyOf d key = CanBeSent d.source.format (key_types d) key

-- a fetched row has the columns that a reply has, each with a value of its type; there may be none, too
abbrev pub FitsReply : Definition → MaybeRow → Type 0
FitsReply d Absent = ⊤
FitsReply d (Present row) = AllZip (λ (column : ShapeColumn) v. FitsColumn column.ty v) (keyed_shape_of d) row

-- one row for each key, in order, each given at the moment
abbrev pub EachGave : (List Value → MaybeRow → ℕ → Type 0) → ℕ → List (List Value) → List FetchedRow → Type 0
EachGave gave now keys rows =
    AllZip (λ key (fetched : FetchedRow). (fetched.moment ≡ now) × gave key fetched.row now) keys rows
