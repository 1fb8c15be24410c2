-- The value that a cell is.
use Rattle.dict_value.specs.declared.value.Value.{Value}
use Rattle.dict_value.specs.declared.value.Value.TheVariants.{U, I, S, Day, Second, Id, V4, V6, Dec, Null}
use Rattle.packed_rows.specs.declared.cell.Cell.{Cell}
use Rattle.packed_rows.specs.declared.cell.Cell.TheVariants as cell

abbrev pub meaning : Cell → Value
meaning cell.Null = Null
meaning (cell.U n) = U n
meaning (cell.I z) = I z
meaning (cell.S text) = S text.now
meaning (cell.Day n) = Day n
meaning (cell.Second n) = Second n
meaning (cell.Id n) = Id n
meaning (cell.V4 n) = V4 n
meaning (cell.V6 n) = V6 n
meaning (cell.Dec z) = Dec z
