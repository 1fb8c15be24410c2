use Rattle.std.proofs.Common.{◌≡◌, ◌+◌, ◌∷◌, [], ◌∙◌, ap, arith, length, length-append, sym}
use Rattle.std.specs.List.{filter, range_with_len}
use Rattle.dict_schema.specs.Parts.{is_attribute}
use Rattle.dict_schema.proofs.ShapePlaces.{filter-left, filter-passed}
use Rattle.dict_version.proofs.columns.attributes_before.Goals as goal
use Rattle.dict_version.proofs.columns.attributes_before.Goals.{then-is_attribute, else-is_attribute}

pub loop-place-preserved : goal.loop-place-preserved
loop-place-preserved c =
    let p = is_attribute c.args.d.now in
    let place = c.loop-place.place in
    let so_far = filter p (range_with_len 0 place) in
    elim c.if-is_attribute.branch [
      | then-is_attribute w ↦
          let more = ap length (filter-passed p place (sym c.is_attribute.ensures ∙ w.if-is_attribute.true)) ∙ length-append so_far (place ∷ []) in
          record { count = omega (arith, w.count-is, c.loop-place.invariant.count, more); bound = omega (arith, w.count-is, c.loop-place.invariant.bound) }
      | else-is_attribute w ↦
          let same = ap length (filter-left p place (sym c.is_attribute.ensures ∙ w.if-is_attribute.false)) in
          record { count = omega (arith, w.count-is, c.loop-place.invariant.count, same); bound = omega (arith, w.count-is, c.loop-place.invariant.bound) }
    ]
