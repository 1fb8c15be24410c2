use Rattle.std.proofs.Common.{◌≡◌, ◌+◌, length, min, take}
use Rattle.std.specs.Prelude.{sum_by}
use Rattle.packed_rows.specs.Packs.{column_size}
use Rattle.packed_rows.proofs.rows.Rows.stored.Given as goal

abbrev pub invariant-loop-ty : goal.invariant-loop-ty
invariant-loop-ty l =
    l.size ≡ min (sum_by (column_size l.self-inside.count) (take l.ty-index l.types) + length l.self-inside.text) 18446744073709551615
