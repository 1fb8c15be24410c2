use Rattle.std.proofs.Common.{◌∙◌, sym, subst, arith}
use Rattle.load_core.specs.steps.FlatSteps.{IsSmallCell}
use Rattle.load_core.proofs.FlatTables.{cell-large, cell-small}
use Rattle.load_core.proofs.flat.first_large_key.Goals as goal

pub returns-in-Some : goal.returns-in-Some
returns-in-Some c =
    cell-large c.args.rows.now c.loop-place.place c.in-Some.key (omega (arith, c.loop-place-test.true, c.len-place-end.ensures)) c.loop-place.invariant (sym c.get.ensures ∙ c.in-Some.ensures.0) c.in-Some.ensures.1

pub loop-place-preserved : goal.loop-place-preserved
loop-place-preserved c =
    cell-small c.args.rows.now c.loop-place.place (omega (arith, c.loop-place-test.true, c.len-place-end.ensures)) c.loop-place.invariant (subst IsSmallCell c.get.ensures c.in_default.ensures)
