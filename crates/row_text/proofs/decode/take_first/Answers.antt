use Rattle.std.proofs.Common.{◌≡◌, ◌+◌, ℕ, List, ap, subst, Option, Result, Err}
use Rattle.dict_value.specs.declared.value.Value.{Value}
use Rattle.packed_rows.specs.Packs.{Building}
use Rattle.row_text.specs.declared.decode.DecodeFault.{DecodeFault}
use Rattle.row_text.specs.declared.decode.DecodeFault.TheVariants as decode
use Rattle.row_text.specs.declared.cutter.CutRule.{CutRule}
use Rattle.row_text.specs.steps.CutSteps.{BeginsWithLine}
use Rattle.row_text.specs.steps.DecodeSteps.{FirstBrings, LineFails}
use Rattle.row_text.proofs.Decoded.{handed-on}
use Rattle.row_text.proofs.decode.take_first.Goals as goal

pub returns-in_err-take_line-clause-brings : goal.returns-in_err-take_line-clause-brings
returns-in_err-take_line-clause-brings g c =
    let columns = g.C.Columns.columns c.args.columns.now in
    let number = c.args.lines_before in
    let fault : DecodeFault = c.in_err-take_line.field-0.0 in
    let line = c.in-Some-whole_line.line.now in
    let size = c.in-Some-whole_line.size in
    let same : c.take_row.new.rows ≡ c.args.rows.now = c.in_default.ensures.none in
    handed-on (λ (a : Result (Option ℕ) DecodeFault). FirstBrings c.args.format columns c.args.text.now number c.args.rows.now.rows a c.take_line.new.rows.rows) c.from_residual.result fault c.from_residual.ensures.1
    (λ want.
    let fails = c.in_err-take_line.ensures.brings (λ e. want (let is : fault ≡ decode.NoMemory = cc in ap (λ (f : DecodeFault). Err f) is)) in
    (size, line, subst (λ (by : CutRule). BeginsWithLine by c.args.text.now line size) c.rule_for.ensures c.in-Some-whole_line.ensures.line, subst (λ (rows : List (List Value)). LineFails c.args.format columns line (number + 1) rows fault) (ap (λ (b : Building). b.rows) same) fails))
