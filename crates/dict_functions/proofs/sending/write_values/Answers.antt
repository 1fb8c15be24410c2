use Rattle.std.proofs.Common.{◌∙◌, sym}
use Rattle.dict_functions.proofs.SentRows.{fields-some}
use Rattle.dict_functions.proofs.sending.write_values.Goals as goal

pub write_row-requires : goal.write_row-requires
write_row-requires c = λ none.
    fields-some c.args.types.now c.args.values.now c.requires.some c.requires.fits (sym (c.as_slice-row.ensures ∙ c.in_ok-fields.ensures) ∙ none)

pub write_csv_row-requires : goal.write_csv_row-requires
write_csv_row-requires c = λ none.
    fields-some c.args.types.now c.args.values.now c.requires.some c.requires.fits (sym (c.as_slice-row.ensures ∙ c.in_ok-fields.ensures) ∙ none)
