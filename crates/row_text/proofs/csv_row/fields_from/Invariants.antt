use Rattle.std.proofs.Common.{◌≡◌, ◌≤◌, ◌-◌, length, map, take}
use Rattle.csv.specs.Records.{fields_of}
use Rattle.dict_value.specs.declared.value.Field.TheVariants as field
use Rattle.row_text.proofs.csv_row.fields_from.Given as goal

abbrev pub invariant-loop-text : goal.invariant-loop-text
invariant-loop-text l = (l.at ≤ length (fields_of l.row)) × (l.fields ≡ map field.Text (take l.at (fields_of l.row)))

abbrev pub decreases-loop-text : goal.decreases-loop-text
decreases-loop-text l = length (fields_of l.row) - l.at
