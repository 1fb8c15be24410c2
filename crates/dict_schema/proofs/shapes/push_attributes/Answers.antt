use Rattle.std.proofs.Common.{◌≡◌, ◌++◌, ◌∷◌, [], ℕ, List, length, ap, subst, sym, ◌∙◌, arith}
use Rattle.std.specs.List.{filter, range_with_len}
use Rattle.dict_schema.specs.declared.definition.Role.TheVariants.{Attribute}
use Rattle.dict_schema.specs.declared.definition.ShapeColumn.{ShapeColumn}
use Rattle.dict_schema.specs.Parts.{is_attribute}
use Rattle.dict_schema.specs.Shapes.{columns_at}
use Rattle.dict_schema.proofs.ShapePlaces.{more-columns, filter-passed, filter-left}
use Rattle.dict_schema.proofs.shapes.push_attributes.Goals as goal
use Rattle.dict_schema.proofs.shapes.push_attributes.Goals.{then-is_attribute+in_ok-push_column, else-is_attribute}

pub loop-place-preserved : goal.loop-place-preserved
loop-place-preserved c =
    let d = c.args.d.now in
    let place = c.loop-place.place in
    let places = filter (is_attribute d) (range_with_len 0 place) in
    elim c.if-is_attribute.branch [
      | then-is_attribute+in_ok-push_column w ↦ subst (λ (ps : List ℕ). c.if-is_attribute.shape ≡ c.args.shape.now ++ columns_at d Attribute ps) (sym (filter-passed (is_attribute d) place (sym c.is_attribute.ensures ∙ w.if-is_attribute.true)))
          (w.shape-is ∙ more-columns d Attribute c.args.shape.now c.loop-place.shape w.push_column.new.shape places (place ∷ []) c.loop-place.invariant w.in_ok-push_column.ensures)
      | else-is_attribute w ↦ subst (λ (ps : List ℕ). c.if-is_attribute.shape ≡ c.args.shape.now ++ columns_at d Attribute ps) (sym (filter-left (is_attribute d) place (sym c.is_attribute.ensures ∙ w.if-is_attribute.false)))
          (w.shape-is ∙ c.loop-place.invariant)
    ]

pub returns : goal.returns
returns c =
    let d = c.args.d.now in
    let all : c.loop-place.place ≡ length d.columns = omega arith in
    subst (λ (n : ℕ). c.loop-place.shape ≡ c.args.shape.now ++ columns_at d Attribute (filter (is_attribute d) (range_with_len 0 n))) all c.loop-place.invariant
