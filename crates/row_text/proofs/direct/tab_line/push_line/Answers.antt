use Rattle.std.proofs.Common.{◌≡◌, ◌<◌, ◌+◌, ◌∙◌, List, length, sym, ap, subst, refl, arith}
use Rattle.dict_value.specs.declared.value.Value.{Value}
use Rattle.row_text.specs.TabRow.{field_of}
use Rattle.row_text.specs.steps.DirectSteps.{AddsField, HasFieldsTaken}
use Rattle.row_text.proofs.DirectRows.{adds-length}
use Rattle.row_text.proofs.DirectTab.{fields-last-one, fields-more, fields-none}
use Rattle.row_text.proofs.Reached.{suffix}
use Rattle.row_text.proofs.direct.tab_line.push_line.Goals as goal

pub loop-place-init : goal.loop-place-init
loop-place-init g c = record {
  types = refl;
  rows = refl;
  values = ap (λ (vs : List Value). length vs) c.requires.none;
  before = subst (λ (vs : List Value). HasFieldsTaken (g.C.Columns.columns c.args.columns.now) c.args.text.now 0 vs) (sym c.requires.none) (fields-none (g.C.Columns.columns c.args.columns.now) c.args.text.now);
}

pub loop-place-preserved : goal.loop-place-preserved
loop-place-preserved g c =
    let columns = g.C.Columns.columns c.args.columns.now in
    let old = c.loop-place.rows.open_row in
    let new = c.push_field.new.rows.open_row in
    let adds = subst (λ b. AddsField columns (suffix c.args.text.now c.loop-place.at) c.in_ok-size.size b old new) c.if-end-ne-TAB.false c.in_ok-size.ensures.field in
    let below : length old < length columns = omega (arith, c.loop-place.invariant.values, c.count-count.ensures, c.loop-place-test.true) in
    let at : c.loop-place.at + c.in_ok-size.size + 1 ≡ c.loop-place.at + (c.in_ok-size.size + 1) = omega arith in
    record {
      types = c.push_field.ensures.types ∙ c.loop-place.invariant.types;
      rows = c.push_field.ensures.rows ∙ c.loop-place.invariant.rows;
      values = adds-length columns (field_of adds.0) old new c.loop-place.place adds.2 c.loop-place.invariant.values;
      before = subst (λ n. HasFieldsTaken columns c.args.text.now n new) at (fields-more columns c.args.text.now c.loop-place.at c.in_ok-size.size old new c.loop-place.invariant.before below adds);
    }

pub returns-then-end-ne-TAB-clause-row : goal.returns-then-end-ne-TAB-clause-row
returns-then-end-ne-TAB-clause-row g c =
    let columns = g.C.Columns.columns c.args.columns.now in
    let old = c.loop-place.rows.open_row in
    let new = c.push_field.new.rows.open_row in
    let adds = subst (λ b. AddsField columns (suffix c.args.text.now c.loop-place.at) c.in_ok-size.size b old new) c.if-end-ne-LINE_FEED.false c.in_ok-size.ensures.field in
    let all : length old + 1 ≡ length columns = omega (arith, c.loop-place.invariant.values, c.count-count.ensures, c.loop-place-test.true, c.if-place-count.false) in
    fields-last-one columns c.args.text.now c.loop-place.at c.in_ok-size.size old new c.loop-place.invariant.before all (c.lacks_return.ensures c.if-not-lacks_return.false) adds
