-- The walk from a member counts its chain.
use Rattle.hier.proofs.Walks.{walk-counted}
use Rattle.hier.proofs.lengths.count_chain.Goals as goal

pub returns : goal.returns
returns c =
    walk-counted c.args.ups.now c.args.rows.now c.args.member c.args.lengths.now c.args.places.now c.walked-walk.new.places c.walked-walk.result
    c.requires.counted c.walked-walk.ensures.walked c.walked-walk.ensures.some c.fill.new.lengths c.fill.ensures c.walked-walk.ensures.ends
