use Rattle.dict_functions.proofs.Unfitting.{attribute-fits}
use Rattle.dict_functions.proofs.keyed.fits_attribute.Goals as goal

pub returns : goal.returns
returns c = λ other.
    let of = c.in-Ok.ensures (λ e. cc) in
    attribute-fits c.args.d.now c.args.q.now c.requires.sound c.requires.verb c.in-Ok.attribute.place of.column of.value of.named of.stands
