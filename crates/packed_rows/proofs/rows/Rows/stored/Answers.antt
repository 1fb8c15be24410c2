use Rattle.std.proofs.Common.{◌+◌, ◌∙◌, ap, arith, length, min}
use Rattle.std.specs.Prelude.{sum_by}
use Rattle.std.proofs.lemmas.List.{take_all}
use Rattle.packed_rows.specs.Packs.{column_size}
use Rattle.packed_rows.proofs.Packing.{stored-is}
use Rattle.packed_rows.proofs.rows.Rows.stored.Goals as goal

pub returns : goal.returns
returns c =
    let whole = take_all c.loop-ty.ty-index c.args.types.now (omega (arith, c.loop-ty-test.false)) in
    let text = c.self.inside.text in
    c.loop-ty.invariant
    ∙ (ap (λ ts. min (sum_by (column_size c.self.inside.count) ts + length text) 18446744073709551615) whole
    ∙ ap (λ n. min n 18446744073709551615) (stored-is c.self.inside.columns.items text c.self.inside.count c.args.self.now c.args.types.now c.self.invariant c.self.view_is))
