use Rattle.std.proofs.Common.{◌≡◌, take}
use Rattle.row_text.specs.Written.{written_fields}
use Rattle.dict_functions.proofs.sending.written_fields.Given as goal

abbrev pub invariant-loop-place : goal.invariant-loop-place
invariant-loop-place l = l.fields ≡ written_fields (take l.place l.types) (take l.place l.values)
