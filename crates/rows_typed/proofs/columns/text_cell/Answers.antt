use Rattle.std.proofs.Common.{ap}
use Rattle.dict_value.specs.declared.value.ColType.{ColType}
use Rattle.dict_value.specs.Values.{text_reading}
use Rattle.rows_typed.proofs.columns.text_cell.Goals as goal

pub returns-in-Str : goal.returns-in-Str
unfolding text_reading
returns-in-Str c = ap (λ (t : ColType). text_reading t c.args.text.now) c.in-Str.is
