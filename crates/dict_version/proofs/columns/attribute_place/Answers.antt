use Rattle.std.proofs.Common.{◌≡◌, ◌+◌, ◌∙◌, ap, arith, slice_get, sym}
use Rattle.dict_schema.specs.Shapes.{shape_of}
use Rattle.dict_version.specs.Keys.{attribute_place}
use Rattle.dict_version.proofs.AttributePlaces.{attribute_there}
use Rattle.dict_version.proofs.columns.attribute_place.Goals as goal

pub returns-clause-there : goal.returns-clause-there
returns-clause-there c = λ attribute here is.
    let place : c.len.result + c.end_count.result + c.attributes_before.result ≡ attribute_place c.args.d.now c.args.column =
    omega (arith, c.len.ensures, c.end_count.ensures, c.attributes_before.ensures.count) in
    ap (slice_get (shape_of c.args.d.now)) place ∙ attribute_there c.args.d.now c.requires.sound c.args.column attribute here is
