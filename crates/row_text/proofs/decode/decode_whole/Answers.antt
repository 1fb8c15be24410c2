use Rattle.std.proofs.Common.{◌∙◌, ℕ, List, subst, sym, Result}
use Rattle.dict_value.specs.declared.value.Value.{Value}
use Rattle.row_text.specs.declared.decode.DecodeFault.{DecodeFault}
use Rattle.row_text.specs.Growing.{AddsWhole}
use Rattle.row_text.proofs.Decoded.{handed-on}
use Rattle.row_text.proofs.Growing.{Gone, gone-all, gone-fault, gone-more}
use Rattle.row_text.proofs.decode.decode_whole.Goals as goal

pub returns-in_err-size-clause-adds : goal.returns-in_err-size-clause-adds
returns-in_err-size-clause-adds g c =
    let columns = g.C.Columns.columns c.args.columns.now in
    let old = c.args.rows.now.rows in
    let new = c.take_first.new.rows.rows in
    let l = c.loop-scratch in
    let fault : DecodeFault = c.in_err-size.field-0.0 in
    handed-on (λ (a : Result ℕ DecodeFault). AddsWhole c.args.format columns c.args.lines.now old c.args.text.now a l.lines new) c.from_residual.result fault c.from_residual.ensures.1
    (gone-fault c.args.format columns c.args.text.now l.done c.args.lines.now l.lines l.lines old l.rows.rows new new l.invariant.gone fault c.in_err-size.ensures.brings)

pub loop-scratch-preserved : goal.loop-scratch-preserved
loop-scratch-preserved g c =
    let columns = g.C.Columns.columns c.args.columns.now in
    let l = c.loop-scratch in
    let found = (rw c.in-Some.is at c.in_ok-size.ensures.brings) (λ e. cc) in
    record {
      gone = gone-more c.args.format columns c.args.text.now found.0 l.done c.in-Some.size c.args.lines.now l.lines c.args.rows.now.rows l.rows.rows c.take_first.new.rows.rows l.invariant.gone found.1 found.2;
      types = c.in_ok-size.ensures.types ∙ l.invariant.types;
      none = c.in_ok-size.ensures.none;
    }

pub returns-in-None-clause-adds : goal.returns-in-None-clause-adds
returns-in-None-clause-adds g c =
    let columns = g.C.Columns.columns c.args.columns.now in
    let old = c.args.rows.now.rows in
    let l = c.loop-scratch in
    let found = (rw c.in-None.is at c.in_ok-size.ensures.brings) (λ e. cc) in
    let gone = subst (λ (rows : List (List Value)). Gone c.args.format columns c.args.text.now l.done c.args.lines.now l.lines old rows) (sym found.1) l.invariant.gone in
    λ _. gone-all c.args.format columns c.args.text.now l.done c.args.lines.now l.lines old c.take_first.new.rows.rows gone found.0
