-- Values as the fields of a written row.
use Rattle.std.specs.Prelude.{◌∷◌, [], ℕ, List}
use Rattle.dict_value.specs.Values.{value_text}
use Rattle.dict_value.specs.declared.value.AttrType.{AttrType}
use Rattle.dict_value.specs.declared.value.ColType.{ColType}
use Rattle.dict_value.specs.declared.value.Field.{Field}
use Rattle.dict_value.specs.declared.value.Field.TheVariants as field
use Rattle.dict_value.specs.declared.value.Format.{Format}
use Rattle.dict_value.specs.declared.value.Format.TheVariants.{Tab, Csv}
use Rattle.dict_value.specs.declared.value.Value.{Value}
use Rattle.dict_value.specs.declared.value.Value.TheVariants.{Null}
use Rattle.row_text.specs.Cutting.{ended}
use Rattle.row_text.specs.CsvRow.{csv_text}
use Rattle.row_text.specs.TabRow.{field_text, row_line}

-- the field of a value: NULL, or the value's text
abbrev pub written_field : ColType → Value → Field
written_field t Null = field.Null
written_field t v = field.Text (value_text t v)

-- the escaped text of a value, and \N for NULL
abbrev pub printed : ColType → Value → List ℕ
printed t v = field_text (written_field t v)

-- the fields of a list of values, one for each type
abbrev pub written_fields : List AttrType → List Value → List Field
written_fields (t ∷ types) (v ∷ values) = written_field t.base v ∷ written_fields types values
written_fields _ _ = []

-- the row of a list of values, its line feed included
abbrev pub written_row : Format → List AttrType → List Value → List ℕ
written_row Tab types values = ended (row_line (written_fields types values))
written_row Csv types values = csv_text (written_fields types values)
