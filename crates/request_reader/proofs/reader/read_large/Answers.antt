use Rattle.wire_text.specs.RequestTexts.{HeardOf}
use Rattle.request_reader.proofs.reader.read_large.Goals as goal

pub returns-in-Ok-true : goal.returns-in-Ok-true
returns-in-Ok-true c = λ lines count behind some large. HeardOf.large large (rw c.in-Ok-true.field-0-test at c.in-Ok-true.ensures)

pub returns-in-Ok-false : goal.returns-in-Ok-false
returns-in-Ok-false c = λ lines count behind some large. HeardOf.large_bad large (rw c.in-Ok-false.field-0-test at c.in-Ok-false.ensures)
