-- No reading is want of memory.
use Rattle.dict_value.proofs.Readings.{reading_has_memory}
use Rattle.dict_value.proofs.laws.each_field_is_read.Goals as goal

pub returns : goal.returns
returns c = reading_has_memory
