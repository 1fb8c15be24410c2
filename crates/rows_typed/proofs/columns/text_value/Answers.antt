use Rattle.std.proofs.Common.{rules}
use Rattle.dict_value.specs.Values.{text_reading}
use Rattle.rows_typed.proofs.columns.text_value.Goals as goal

pub returns-in-Str : goal.returns-in-Str
unfolding text_reading
returns-in-Str c = search rules
