-- The literals of defaults, and the value that a column's DEFAULT gives.
use Rattle.std.specs.Prelude.{if◌then◌else◌, codes, Option, Some, None, Result, Ok, Err}
use Rattle.dict_value.specs.declared.value.AttrType.{AttrType}
use Rattle.dict_value.specs.declared.value.BadValue.{BadValue}
use Rattle.dict_value.specs.declared.value.ColType.{ColType}
use Rattle.dict_value.specs.declared.value.ColType.TheVariants as type
use Rattle.dict_value.specs.declared.value.Field.{Field}
use Rattle.dict_value.specs.declared.value.Field.TheVariants as field
use Rattle.dict_value.specs.declared.value.Value.{Value}
use Rattle.dict_value.specs.declared.value.Value.TheVariants.{Day, Second, Null}
use Rattle.dict_value.specs.Values.{default_of_column, reading}
use Rattle.ddl_tokens.specs.declared.fault.SyntaxFault.{SyntaxFault}
use Rattle.ddl_tokens.specs.declared.fault.SyntaxFault.TheVariants.{Unexpected}
use Rattle.ddl_tokens.specs.Tokens.{Token}
use Rattle.ddl_tokens.specs.Reading.{is_keyword, is_number, is_string}

-- the text of a number or a string, or NULL
abbrev pub literal : Token → Result Field SyntaxFault
literal t =
    if is_string t.kind then Ok (field.Text t.bytes)
    else if is_keyword (codes "NULL") t then Ok field.Null
    else if is_number t.kind then Ok (field.Text t.bytes)
    else Err (Unexpected t.place)

-- a value that isn't one of the type
abbrev pub misfit_of : ColType → Value
misfit_of type.Date = Second 0
misfit_of _ = Day 0

abbrev pub misfit : AttrType → Value
misfit t = if t.nullable then misfit_of t.base else Null

-- the value that was read, or one that fits nowhere
abbrev pub or_misfit : AttrType → Result Value BadValue → Value
or_misfit t (Ok value) = value
or_misfit t (Err fault) = misfit t

-- The default of a column without DEFAULT is that of its type. A literal is read as a value of the type; where it is
-- none, the default isn't one of the type either.
abbrev pub default_given : AttrType → Option Field → Value
default_given t None = default_of_column t
default_given t (Some literal) = or_misfit t (reading t literal)
