use Rattle.std.proofs.Common.{◌≡◌, map, take}
use Rattle.row_text.specs.CsvRow.{csv_field}
use Rattle.row_text.proofs.csv_row.texts_of.Given as goal

abbrev pub invariant-loop-field : goal.invariant-loop-field
invariant-loop-field l = map (λ t. t.now) l.texts.items ≡ map csv_field (take l.field-index l.fields)
