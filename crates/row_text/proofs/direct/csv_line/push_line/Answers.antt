use Rattle.std.proofs.Common.{◌≡◌, ◌<◌, ◌+◌, ◌∙◌, List, length, take, sym, ap, subst, refl, arith}
use Rattle.dict_value.specs.declared.value.Field.TheVariants as field
use Rattle.dict_value.specs.declared.value.Value.{Value}
use Rattle.row_text.specs.steps.DirectSteps.{EndsText, HasTextsTaken}
use Rattle.row_text.proofs.DirectRows.{adds-length}
use Rattle.row_text.proofs.DirectCsv.{texts-last, texts-more, texts-none}
use Rattle.row_text.proofs.Reached.{suffix}
use Rattle.row_text.proofs.direct.csv_line.push_line.Goals as goal

pub loop-place-init : goal.loop-place-init
loop-place-init g c = record {
  types = refl;
  rows = refl;
  values = ap (λ (vs : List Value). length vs) c.requires.none;
  before = subst (λ (vs : List Value). HasTextsTaken (g.C.Columns.columns c.args.columns.now) c.args.text.now 0 vs) (sym c.requires.none) (texts-none (g.C.Columns.columns c.args.columns.now) c.args.text.now);
}

pub loop-place-preserved : goal.loop-place-preserved
loop-place-preserved g c =
    let columns = g.C.Columns.columns c.args.columns.now in
    let old = c.loop-place.rows.open_row in
    let new = c.push_piece.new.rows.open_row in
    let left = suffix c.args.text.now c.loop-place.at in
    let size = c.in_ok-size.size in
    let end = subst (λ b. EndsText left size b) c.if-end-ne-COMMA.false c.in_ok-size.ensures in
    let below : length old < length columns = omega (arith, c.loop-place.invariant.values, c.count-count.ensures, c.loop-place-test.true) in
    let at : c.loop-place.at + size + 1 ≡ c.loop-place.at + (size + 1) = omega arith in
    record {
      types = c.push_piece.ensures.types ∙ c.loop-place.invariant.types;
      rows = c.push_piece.ensures.rows ∙ c.loop-place.invariant.rows;
      values = adds-length columns (field.Text (take size left)) old new c.loop-place.place c.in_ok-push_piece.ensures.cell c.loop-place.invariant.values;
      before = subst (λ n. HasTextsTaken columns c.args.text.now n new) at (texts-more columns c.args.text.now c.loop-place.at size old new c.loop-place.invariant.before end below c.in_ok-push_piece.ensures.cell);
    }

pub returns-then-end-ne-COMMA-clause-row : goal.returns-then-end-ne-COMMA-clause-row
returns-then-end-ne-COMMA-clause-row g c =
    let columns = g.C.Columns.columns c.args.columns.now in
    let old = c.loop-place.rows.open_row in
    let end = subst (λ b. EndsText (suffix c.args.text.now c.loop-place.at) c.in_ok-size.size b) c.if-end-ne-LINE_FEED.false c.in_ok-size.ensures in
    let all : length old + 1 ≡ length columns = omega (arith, c.loop-place.invariant.values, c.count-count.ensures, c.loop-place-test.true, c.if-place-count.false) in
    texts-last columns c.args.text.now c.loop-place.at c.in_ok-size.size old c.push_piece.new.rows.open_row c.loop-place.invariant.before end all
    (omega (arith, c.if-at-size-eq0.false)) c.if-text.false c.in_ok-push_piece.ensures.cell
