-- What is made of the lines of a lookup, and what their faults mean.
use Rattle.std.specs.Prelude.{◌≡◌, ◌∷◌, ◌<◌, [], ℕ, zero, suc, List, Bool, true, false, Option, Some, None, IfSome}
use Rattle.std.specs.Prelude.{Result, MatchResult, ⊤}
use Rattle.std.specs.Prelude.{decimal, length, slice_get}
use Rattle.std.specs.List.{AllZip}
use Rattle.dict_schema.specs.Sound.{IsSound}
use Rattle.dict_schema.specs.declared.definition.Column.{Column}
use Rattle.dict_schema.specs.declared.definition.Definition.{Definition}
use Rattle.dict_value.specs.declared.letters.TheConstants.{COMMA}
use Rattle.dict_value.specs.declared.value.BadValue.{BadValue}
use Rattle.dict_value.specs.declared.value.BadValue.TheVariants as bad
use Rattle.dict_value.specs.declared.value.Field.{Field}
use Rattle.dict_value.specs.declared.value.Value.{Value}
use Rattle.dict_version.specs.Contents.{Contents}
use Rattle.dict_version.specs.Keys.{NamesParent, numbers_of, parents_of}
use Rattle.dict_version.specs.Lookups.{Finds}
use Rattle.dict_version.specs.Printed.{IsCellOf}
use Rattle.dict_version.specs.declared.key.Key.TheVariants as key
use Rattle.dict_version.specs.declared.lookup.LookupBy.{LookupBy}
use Rattle.dict_version.specs.declared.lookup.LookupBy.TheVariants as by
use Rattle.packed_rows.specs.Cells.{meaning}
use Rattle.packed_rows.specs.Columns.{cell_at}
use Rattle.packed_rows.specs.declared.cell.Cell.{Cell}
use Rattle.row_text.specs.Written.{printed}
use Rattle.wire_text.specs.declared.reply.Line.{Line}
use Rattle.wire_text.specs.declared.reply.ReplyFault.{ReplyFault}
use Rattle.wire_text.specs.declared.reply.ReplyFault.TheVariants as fault
use Rattle.wire_text.specs.declared.request.Asked.{Asked}
use Rattle.wire_text.specs.declared.request.Verb.{Verb}
use Rattle.wire_text.specs.declared.request.Verb.TheVariants as verb
use Rattle.dict_functions.specs.Answers.{IsLoadedLine}
use Rattle.dict_functions.specs.Asking.{IsAttributeNamed}
use Rattle.dict_functions.specs.Keyed.{fetched_place}
use Rattle.dict_functions.specs.Refusals.{IsFitting, IsRefusal}
use Rattle.dict_functions.specs.Values.{AnswersVerb, IsAttributeText, IsCellText, StandsIn}
use Rattle.dict_functions.specs.declared.asking.Attribute.{Attribute}
use Rattle.dict_functions.specs.declared.lines.LineFault.{LineFault}
use Rattle.dict_functions.specs.declared.lines.LineFault.TheVariants as one
use Rattle.dict_functions.specs.declared.lines.LinesFault.{LinesFault}
use Rattle.dict_functions.specs.declared.lines.LinesFault.TheVariants as several
use Rattle.dict_functions.specs.declared.sending.RowsFault.{RowsFault}
use Rattle.dict_functions.specs.declared.sending.RowsFault.TheVariants as rows

-- what a field without a value means
abbrev pub value_fault : BadValue → LineFault
value_fault bad.NoMemory = one.NoMemory
value_fault _ = one.Unread

-- the lines of a lookup in a version, or why it is refused
abbrev pub IsAnsweredBy : Contents → Asked → Result (List Line) ReplyFault → Type 0
IsAnsweredBy c q result =
    MatchResult result (λ lines. IsFitting c.definition q × AllZip (IsLoadedLine c q) q.lines lines)
    (IsRefusal c.definition q)

-- the text of the attribute for a row that was found, or for none
abbrev pub HasCellText : Contents → Asked → Attribute → Option ℕ → List ℕ → Type 0
HasCellText c q attribute found text =
    (column : Column) × IsAttributeNamed c.definition q.attribute attribute.place column
    × IsCellText c q attribute.place column found text

-- the attribute that is asked for, and the text of what stands in for it
pub record IsAttributeOf (d : Definition) (q : Asked) (attribute : Attribute) : Type 0 where
  pub column : Column
  pub value : Value
  pub named : IsAttributeNamed d q.attribute attribute.place column
  pub stands : StandsIn q.verb column q.fallback value
  pub missing : attribute.missing ≡ printed column.ty.base value

-- the attribute that is asked for, its column, and its place in a fetched row
pub record IsFetchedOf (d : Definition) (q : Asked) (attribute : Attribute) (column : Column) (cell : ℕ) : Type 0 where
  pub of : IsAttributeOf d q attribute
  pub here : slice_get d.columns attribute.place ≡ Some column
  pub sound : IsSound d
  pub cell_is : cell ≡ fetched_place d attribute.place

-- how many numbers a line has by which a hierarchy is asked
abbrev pub key_count : Verb → ℕ
key_count verb.IsIn = 2
key_count _ = 1

-- a number at a place of a list, behind a comma where others stand before it
abbrev pub listed_at : ℕ → ℕ → List ℕ
listed_at zero number = decimal number
listed_at (suc before) number = COMMA ∷ decimal number

-- the text that the hierarchy of a version gives for one key alone
abbrev pub IsFromText : Asked → Contents → ℕ → List ℕ → Type 0
IsFromText q c key text =
    (column : ℕ) × NamesParent c.definition column
    × AnswersVerb q.verb q.level (numbers_of c.rows) (parents_of c.definition column c.rows) (key ∷ []) text

-- what the first unread line means
abbrev pub key_fault : LinesFault → ReplyFault
key_fault (several.Unread line) = fault.BadKey line
key_fault several.NoMemory = fault.NoMemory

-- what an unread line means for the rows
abbrev pub unread_rows : LinesFault → RowsFault
unread_rows (several.Unread line) = rows.Unread line
unread_rows several.NoMemory = rows.NoMemory

-- what it means that no rows can be sent
abbrev pub rows_fault : (ℕ → ReplyFault) → RowsFault → ReplyFault
rows_fault unread (rows.Unread line) = unread line
rows_fault unread rows.TooLong = fault.TooLarge
rows_fault unread rows.NoMemory = fault.NoMemory

-- what an unread default means
abbrev pub default_fault : LineFault → ReplyFault
default_fault one.Unread = fault.BadArgument 0
default_fault one.NoMemory = fault.NoMemory

-- whether a key is one number
abbrev pub is_by_number : LookupBy → Bool
is_by_number (by.SmallNumber most) = true
is_by_number by.Number = true
is_by_number _ = false

-- the cell in a column of a row that was found, or none where none was
abbrev pub HasCell : Contents → ℕ → Option ℕ → Option Cell → Type 0
HasCell c column None None = ⊤
HasCell c column (Some row) (Some cell) = (row < length c.rows) × (cell_at c.rows row column ≡ Some (meaning cell))
HasCell c column _ _ = ⊥

-- the row that a number finds, if any
abbrev pub IsRowFor : Contents → ℕ → Option ℕ → Type 0
IsRowFor c number found =
    Finds c.definition c.rows (key.Simple number) found × IfSome found (λ row. row < length c.rows)

-- the cell in a column of the row that a number finds, or none where it finds no row
abbrev pub IsCellFor : Contents → ℕ → ℕ → Option Cell → Type 0
IsCellFor c column number cell =
    (found : Option ℕ) × Finds c.definition c.rows (key.Simple number) found × HasCell c column found cell

-- the cell, if any, stands in the column of some row
abbrev pub MayStand : Contents → ℕ → Option Cell → Type 0
MayStand c column cell = IfSome cell (λ x. IsCellOf c.rows column (meaning x))

-- the text of the attribute for each row whose cell this is, or for none
abbrev pub HasTextOf : Contents → Asked → Attribute → ℕ → Option Cell → List ℕ → Type 0
HasTextOf c q attribute column cell text =
    (found : Option ℕ) → HasCell c column found cell → HasCellText c q attribute found text

-- the line of an attribute; it tells no moment
abbrev pub HasLine : Contents → Asked → List Field → Line → Type 0
HasLine c q fields line = (line.moment ≡ 0) × IsAttributeText c q fields line.text
