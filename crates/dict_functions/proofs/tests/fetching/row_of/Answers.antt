use Rattle.std.proofs.Common.{◌≡◌, ◌<◌, ◌++◌, ◌+◌, ◌∷◌, [], List, length, rules, subst, sym, take, refl}
use Rattle.std.specs.List.{AllZip}
use Rattle.dict_schema.specs.declared.definition.ShapeColumn.{ShapeColumn}
use Rattle.dict_value.specs.Values.{FitsColumn}
use Rattle.dict_value.specs.declared.value.Value.{Value}
use Rattle.dict_functions.proofs.SideBySide.{zip-more}
use Rattle.dict_functions.proofs.tests.fetching.row_of.Goals as goal

pub loop-place-preserved : goal.loop-place-preserved
loop-place-preserved c =
    let shape = c.args.shape.now in
    let i = c.loop-place.place in
    let column = c.index-shape-place.result in
    let v = c.in_ok-fitting_value.field-0 in
    let low : i < length shape = c.loop-place-test.true in
    let grew : c.push.new.self ≡ c.loop-place.row ++ v ∷ [] = search rules in
    subst (AllZip (λ (column : ShapeColumn) v. FitsColumn column.ty v) (take (i + 1) shape)) (sym grew)
    (zip-more (λ (column : ShapeColumn) v. FitsColumn column.ty v) shape c.loop-place.row i column column v low c.index-shape-place.is
    c.loop-place.invariant c.in_ok-fitting_value.ensures)
