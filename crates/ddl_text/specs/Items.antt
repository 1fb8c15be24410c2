-- The items that statements make, and which of them stand.
use Rattle.std.specs.Prelude.{◌≡◌, ◌⊎◌, ℕ, suc, ◌+◌, ◌==◌, Bool, true, false, not, ◌&&◌, ◌||◌, nat_le, List, [], ◌∷◌}
use Rattle.std.specs.Prelude.{◌++◌, length, map, Option, Some, None, if◌then◌else◌}
use Rattle.std.specs.List.{list_any}
use Rattle.dict_value.specs.declared.value.AttrType.{AttrType}
use Rattle.dict_value.specs.declared.value.ColType.{ColType}
use Rattle.dict_value.specs.declared.value.ColType.TheVariants as type
use Rattle.dict_value.specs.declared.value.Value.{Value}
use Rattle.dict_value.specs.declared.value.Value.TheVariants.{Null, Day, Second}
use Rattle.dict_value.specs.Values.{default_of_column}
use Rattle.dict_schema.specs.declared.definition.Column.{Column}
use Rattle.dict_schema.specs.declared.definition.Definition.{Definition}
use Rattle.dict_schema.specs.declared.definition.FunctionDef.{FunctionDef}
use Rattle.dict_schema.specs.declared.definition.Item.{Item}
use Rattle.dict_schema.specs.declared.definition.Item.TheVariants as item
use Rattle.dict_schema.specs.declared.definition.RangeOf.{RangeOf}
use Rattle.dict_schema.specs.declared.definition.RangeOf.TheVariants as range
use Rattle.dict_schema.specs.declared.fault.DefFault.{DefFault}
use Rattle.dict_schema.specs.declared.fault.DefFault.TheVariants as definition
use Rattle.dict_schema.specs.declared.fault.Which.TheVariants as which
use Rattle.dict_schema.specs.Judging.{Rule, AreClear, IsFirstFault}
use Rattle.dict_schema.specs.Parts.{is_range_end}
use Rattle.dict_schema.specs.Table.{table, function_table}
use Rattle.ddl_tokens.specs.declared.letters.LetterCase.TheVariants.{AsWritten}
use Rattle.ddl_tokens.specs.Letters.{same_letters}
use Rattle.ddl_clauses.specs.declared.clause.RangeNames.{RangeNames}
use Rattle.ddl_clauses.specs.declared.parts.Sizes.{Sizes}
use Rattle.ddl_text.specs.declared.fault.DdlFault.{DdlFault}
use Rattle.ddl_text.specs.declared.fault.DdlFault.TheVariants as fault
use Rattle.ddl_text.specs.declared.statement.DictionaryText.{DictionaryText}
use Rattle.ddl_text.specs.declared.statement.FunctionText.{FunctionText}
use Rattle.ddl_text.specs.declared.statement.Statement.{Statement}
use Rattle.ddl_text.specs.declared.statement.Written.{Written}
use Rattle.ddl_text.specs.declared.statement.Written.TheVariants as written
use Rattle.ddl_text.specs.declared.statement.WrittenName.{WrittenName}

-- ---- names

abbrev pub same_name : List ℕ → List ℕ → Bool
same_name a b = same_letters AsWritten a b

-- a point (46) between the words
abbrev pub behind_first : List ℕ → Option (List ℕ) → List ℕ
behind_first first None = first
behind_first first (Some second) = first ++ 46 ∷ second

abbrev pub joined : WrittenName → List ℕ
joined name = behind_first name.first name.second

-- ---- the places of columns

-- the place of the first column of a name, where the first of these has this place; 255 is the place of none
unfoldable pub place_from : ℕ → List Column → List ℕ → ℕ
place_from place [] name = 255
place_from place (column ∷ others) name =
    if same_name column.name name then place else place_from (place + 1) others name

abbrev pub place_of_column : List Column → List ℕ → ℕ
place_of_column columns name = place_from 0 columns name

abbrev pub key_places : List Column → List (List ℕ) → List ℕ
key_places columns names = map (place_of_column columns) names

abbrev pub range_of : List Column → Option RangeNames → RangeOf
range_of columns None = range.None
range_of columns (Some names) =
    range.Columns (place_of_column columns names.start) (place_of_column columns names.end)

-- ---- defaults

abbrev pub is_date : ColType → Bool
is_date type.Date = true
is_date _ = false

-- whether a value stands for a literal that isn't of this type
abbrev pub is_misfit : AttrType → Value → Bool
is_misfit t Null = not t.nullable
is_misfit t (Day n) = t.nullable && not (is_date t.base)
is_misfit t (Second n) = t.nullable && is_date t.base
is_misfit t _ = false

abbrev pub with_default : Value → Column → Column
with_default default column = record {
  name = column.name;
  ty = column.ty;
  default = default;
  hierarchical = column.hierarchical;
  object_id = column.object_id;
  injective = column.injective;
}

-- A DEFAULT of a key or an end of the range has to be of the type, and has no effect.
abbrev pub settled : Column → Column
settled column =
    if is_misfit column.ty column.default then column else with_default (default_of_column column.ty) column

-- whether a key or an end of the range stands at a place
abbrev pub is_set_apart : List ℕ → RangeOf → ℕ → Bool
is_set_apart keys range place = list_any (λ key. key == place) keys || is_range_end range place

-- the columns of a definition, from those that are written, the first of which has this place
unfoldable pub settled_from : List ℕ → RangeOf → ℕ → List Column → List Column
settled_from keys range place [] = []
settled_from keys range place (column ∷ others) =
    (if is_set_apart keys range place then settled column else column) ∷ settled_from keys range (place + 1) others

-- ---- items

abbrev pub definition_of : DictionaryText → Definition
definition_of text =
    let keys = key_places text.columns text.keys in
    let range = range_of text.columns text.parts.range in
    record {
      name = joined text.name;
      columns = settled_from keys range 0 text.columns;
      keys = keys;
      source = text.parts.source;
      layout = text.parts.layout;
      lifetime = text.parts.lifetime;
      range = range;
      max_output = text.parts.max_output;
      comment = text.parts.comment;
    }

abbrev pub function_of : FunctionText → FunctionDef
function_of text = record {
  name = text.name;
  args = text.arguments;
  returns = text.returns;
  source = text.parts.source;
  max_output = text.parts.max_output;
}

abbrev pub item_written : Written → Item
item_written (written.Dictionary text) = item.Dictionary (definition_of text)
item_written (written.Function text) = item.Function (function_of text)

-- the item that a statement makes
abbrev pub item_of : Statement → Item
item_of statement = item_written statement.written

-- ---- which items stand behind others

abbrev pub number_of_item : Item → ℕ
number_of_item (item.Dictionary d) = 0
number_of_item (item.Function f) = 1

abbrev pub number_of_written : Written → ℕ
number_of_written (written.Dictionary text) = 0
number_of_written (written.Function text) = 1

abbrev pub name_of : Item → List ℕ
name_of (item.Dictionary d) = d.name
name_of (item.Function f) = f.name

-- how many items of a kind there are
unfoldable pub count_of : ℕ → List Item → ℕ
count_of kind [] = 0
count_of kind (item ∷ others) =
    if number_of_item item == kind then suc (count_of kind others) else count_of kind others

-- whether there is an item of a kind and a name
unfoldable pub is_named : ℕ → List ℕ → List Item → Bool
is_named kind name [] = false
is_named kind name (item ∷ others) =
    if number_of_item item == kind && same_name (name_of item) name then true else is_named kind name others

-- there are 128 of its kind before it
abbrev pub is_full : List Item → Statement → Bool
is_full before statement = nat_le 128 (count_of (number_of_written statement.written) before)

abbrev pub rules_of : Item → List Rule
rules_of (item.Dictionary d) = table d
rules_of (item.Function f) = function_table f

abbrev pub sizes_of : Written → Sizes
sizes_of (written.Dictionary text) = text.parts.sizes
sizes_of (written.Function text) = text.parts.sizes

-- a fault with the number that is written
abbrev pub with_written : Sizes → DefFault → DefFault
with_written sizes (definition.Limit which.Output n) = definition.Limit which.Output sizes.output
with_written sizes (definition.Limit which.ArraySize n) = definition.Limit which.ArraySize sizes.array_size
with_written sizes (definition.Limit which.PoolSize n) = definition.Limit which.PoolSize sizes.pool_size
with_written sizes why = why

-- no fault stands in the item, and none before it of its kind has its name
abbrev pub IsTakenItem : List Item → Item → Type 0
IsTakenItem before item =
    AreClear (rules_of item) × (is_named (number_of_item item) (name_of item) before ≡ false)

-- the first fault of its table, with the number that is written
abbrev pub IsFaultOf : Item → Sizes → ℕ → DdlFault → Type 0
IsFaultOf item sizes place told =
    (why : DefFault) × IsFirstFault (rules_of item) why × (told ≡ fault.Def place (with_written sizes why))

-- such a fault of a count, which is told as it is
abbrev pub IsCountAbove : DictionaryText → DefFault → Type 0
IsCountAbove text why =
    IsFirstFault (table (definition_of text)) why × ((sizes : Sizes) → with_written sizes why ≡ why)

-- it is told, else a repeated name, by the number of the statement from 1
abbrev pub IsRefusedItem : List Item → Item → Sizes → ℕ → DdlFault → Type 0
IsRefusedItem before item sizes place told =
    IsFaultOf item sizes place told
    ⊎ (AreClear (rules_of item) × (is_named (number_of_item item) (name_of item) before ≡ true)
    × (told ≡ fault.Def place (definition.DuplicateName (length before + 1))))

-- the statement's item stands behind these
abbrev pub IsTaken : List Item → Statement → Type 0
IsTaken before statement = (is_full before statement ≡ false) × IsTakenItem before (item_of statement)

-- it falls for this fault, at its first byte
abbrev pub IsRefused : List Item → Statement → DdlFault → Type 0
IsRefused before statement told =
    ((is_full before statement ≡ true) × (told ≡ fault.TooMany statement.place))
    ⊎ ((is_full before statement ≡ false)
    × IsRefusedItem before (item_of statement) (sizes_of statement.written) statement.place told)
