use Rattle.std.proofs.Common.{◌++◌, ◌∷◌, []}
use Rattle.dict_value.specs.declared.letters.TheConstants.{TAB}
use Rattle.row_text.specs.Marks.{bare}
use Rattle.row_text.proofs.Reached.{on-ok, read-fault, read-last, read-tab}
use Rattle.row_text.proofs.tab_row.read_line.Goals as goal

pub returns-in-Err : goal.returns-in-Err
returns-in-Err c = read-fault c.args.line.now c.fields.at c.fields.fields c.fields.invariant.0 c.in-Err.fault c.fields.invariant.1 c.in-Err.ensures

pub returns-then-stop-line : goal.returns-then-stop-line
returns-then-stop-line c _ =
    let pushed = on-ok c.push.result _ c.if-is_err.ensures.negation c.push.ensures.ok in
    rw pushed (read-last c.args.line.now c.fields.at c.in-Ok.found.1 c.fields.fields c.in-Ok.found.0 c.fields.invariant.0 c.fields.invariant.1 (c.in-Ok.ensures (λ e. cc)) c.if-stop-line.true)

pub fields-preserved : goal.fields-preserved
fields-preserved c =
    let pushed = on-ok c.push.result _ c.if-is_err.ensures.negation c.push.ensures.ok in
    ((c.fields.invariant.0 ++ (c.in-Ok.ensures (λ e. cc)).0) ++ bare TAB ∷ [], rw pushed (read-tab c.args.line.now c.fields.at c.in-Ok.found.1 c.fields.fields c.in-Ok.found.0 c.fields.invariant.0 c.fields.invariant.1 (c.in-Ok.ensures (λ e. cc)) c.if-stop-line.false))
