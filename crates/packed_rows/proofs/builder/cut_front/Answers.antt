use Rattle.std.proofs.Common.{sym, arith}
use Rattle.packed_rows.proofs.Cutting.{cut-none, cut-read-has, cut-step}
use Rattle.packed_rows.proofs.builder.cut_front.Goals as goal

pub loop-place-init : goal.loop-place-init
loop-place-init c = sym (cut-none c.args.columns.now.items c.args.count)

pub cut-requires : goal.cut-requires
cut-requires c =
    cut-read-has c.args.columns.now.items c.loop-place.columns.items c.args.count c.loop-place.place c.args.before c.index_mut.result.now c.loop-place.invariant c.requires.cells
    c.loop-place-test.true (omega (arith, c.loop-place-test.true, c.requires.within)) c.index_mut.ensures.value

pub loop-place-preserved : goal.loop-place-preserved
loop-place-preserved c =
    cut-step c.args.columns.now.items c.loop-place.columns.items c.args.count c.loop-place.place c.index_mut.result.now c.cut.new.column c.loop-place.invariant
    (omega (arith, c.loop-place-test.true, c.requires.within)) c.index_mut.ensures.value c.cut.ensures
