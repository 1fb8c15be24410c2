-- No reading is want of memory.
use Rattle.std.proofs.Common.{◌∙◌, sym}
use Rattle.dict_value.specs.declared.value.ColType.TheVariants as type
use Rattle.dict_value.specs.Values.{text_reading}
use Rattle.dict_value.proofs.Readings.{text_has_memory}
use Rattle.dict_value.proofs.reading.read_text.Goals as goal

pub returns-in-Date-clause-memory : goal.returns-in-Date-clause-memory
unfolding text_reading
returns-in-Date-clause-memory c = λ none. absurd (text_has_memory type.Date c.args.text.now (sym c.read_date.ensures.exact ∙ none))

pub returns-in-DateTime-clause-memory : goal.returns-in-DateTime-clause-memory
unfolding text_reading
returns-in-DateTime-clause-memory c = λ none. absurd (text_has_memory type.DateTime c.args.text.now (sym c.read_second.ensures.exact ∙ none))

pub returns-in-Uuid-clause-memory : goal.returns-in-Uuid-clause-memory
unfolding text_reading
returns-in-Uuid-clause-memory c = λ none. absurd (text_has_memory type.Uuid c.args.text.now (sym c.read_id.ensures.exact ∙ none))
