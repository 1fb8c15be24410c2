use Rattle.std.proofs.Common.{◌≡◌, ◌++◌, length, map, Ok}
use Rattle.std.specs.Vec.Iter.{into_iter_items, into_iter_len}
use Rattle.row_text.specs.Decoding.{readings}
use Rattle.row_text.proofs.decode.read_values.Given as goal

abbrev pub invariant-loop-field : goal.invariant-loop-field
invariant-loop-field g l = record {
  split : l.fn.fields ≡ l.yielded ++ into_iter_items l.field-iterator;
  left : into_iter_len l.field-iterator ≡ length (into_iter_items l.field-iterator);
  count : length l.row ≡ length l.yielded;
  read : readings (g.C.Columns.columns l.columns) l.yielded ≡ map Ok l.row;
}
