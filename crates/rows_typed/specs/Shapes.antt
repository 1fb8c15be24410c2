-- Decoding by the columns that a definition wants.
use Rattle.std.specs.Prelude.{◌-◌, ◌∷◌, ◌==◌, ◌&&◌, [], if◌then◌else◌, Bool, false, ℕ}
use Rattle.std.specs.Prelude.{List, length, map, take, drop, Result, Ok, Err}
use Rattle.std.specs.List.{prefix_len, suffix_len}
use Rattle.dict_schema.specs.declared.definition.Role.{Role}
use Rattle.dict_schema.specs.declared.definition.Role.TheVariants as role
use Rattle.dict_schema.specs.declared.definition.ShapeColumn.{ShapeColumn}
use Rattle.dict_value.specs.Letters.{is_blank_byte}
use Rattle.dict_value.specs.declared.value.AttrType.{AttrType}
use Rattle.dict_value.specs.declared.value.BadValue.{BadValue}
use Rattle.dict_value.specs.declared.value.BadValue.TheVariants.{NullNotAllowed}
use Rattle.dict_value.specs.declared.value.ColType.{ColType}
use Rattle.dict_value.specs.declared.value.ColType.TheVariants as type
use Rattle.dict_value.specs.declared.value.Field.{Field}
use Rattle.dict_value.specs.declared.value.Field.TheVariants as field
use Rattle.dict_value.specs.declared.value.Format.{Format}
use Rattle.dict_value.specs.declared.value.Format.TheVariants.{Csv}
use Rattle.dict_value.specs.declared.value.Value.{Value}
use Rattle.dict_value.specs.declared.value.Value.TheVariants.{Null}
use Rattle.dict_value.specs.Values.{text_reading}
use Rattle.row_text.specs.Decoding.{Decoded, Decodes, Reader}
use Rattle.dict_value.specs.declared.letters.TheConstants.{BACKSLASH, CAPITAL_N}

-- a text without the blanks at its end
abbrev pub without_end_blanks : List ℕ → List ℕ
without_end_blanks text = take (length text - suffix_len is_blank_byte text) text

-- a text without the blanks at its ends
abbrev pub without_blanks : List ℕ → List ℕ
without_blanks text = without_end_blanks (drop (prefix_len is_blank_byte text) text)

-- whether a text is \N
abbrev pub is_null_text : List ℕ → Bool
is_null_text (a ∷ b ∷ []) = (a == BACKSLASH) && (b == CAPITAL_N)
is_null_text _ = false

-- a text of CSV as a field: \N is NULL
abbrev pub null_or_text : List ℕ → Field
null_or_text text = if is_null_text text then field.Null else field.Text text

-- The field that a type, nullable or not, sees of a text of CSV. A String keeps its blanks, and only a nullable one can
-- be NULL; at the other types blanks round the text are dropped.
abbrev pub seen_text : ColType → Bool → List ℕ → Field
seen_text type.Str nullable text = if nullable then null_or_text text else field.Text text
seen_text _ nullable text = null_or_text (without_blanks text)

-- the field that a column sees; TabSeparated marks NULL in the row itself
abbrev pub seen_field : Format → AttrType → Field → Field
seen_field Csv t (field.Text text) = seen_text t.base t.nullable text
seen_field _ t seen = seen

-- What NULL is at a column: open at an end of a range; else Null where the type allows it; else a fault in a key, and
-- the default in an attribute. A function's result is a key in this.
abbrev pub null_at : Role → Bool → Value → Result Value BadValue
null_at role.Start nullable default = Ok Null
null_at role.End nullable default = Ok Null
null_at role.Key nullable default = if nullable then Ok Null else Err NullNotAllowed
null_at role.Attribute nullable default = Ok (if nullable then Null else default)

-- what a column makes of the field that it sees
abbrev pub value_at : ShapeColumn → Field → Result Value BadValue
value_at column field.Null = null_at column.role column.ty.nullable column.default
value_at column (field.Text text) = text_reading column.ty.base text

-- what a column makes of a field of this format
abbrev pub column_by : Format → ShapeColumn → Reader
column_by format column field = value_at column (seen_field format column.ty field)

-- the columns of a shape
abbrev pub columns_of : Format → List ShapeColumn → List Reader
columns_of format shape = map (column_by format) shape

-- what a text decodes to by a shape
abbrev pub Decode : List ShapeColumn → Format → List ℕ → Decoded → Type 0
Decode shape format text answer = Decodes format (columns_of format shape) text answer
