use Rattle.std.proofs.Common.{arith, rules}
use Rattle.std.specs.Int.{w128}
use Rattle.std.proofs.lemmas.Int.{ints, to_z-of_z}
use Rattle.range_layout.specs.FindByRange.{FindsByRange}
use mir.Val.{SFits}
use Rattle.dict_version.proofs.index.find_at.Goals as goal

pub returns-clause-found : goal.returns-clause-found
returns-clause-found g c = λ keys ends strategy is.
    let fits : SFits w128 c.args.point.now = search (rules, ints) in
    let same = to_z-of_z w128 c.args.point.now fits in
    rw same at (c.find.ensures.found keys ends strategy is)
