-- Nothing is counted at first.
use Rattle.std.proofs.Common.{List, ℕ, length, replicate, subst, sym}
use Rattle.hier.specs.steps.Counting.{AreCounted}
use Rattle.hier.proofs.Walks.{none-counted}
use Rattle.hier.proofs.lengths.lengths_of.Goals as goal

pub loop-member-init : goal.loop-member-init
loop-member-init c =
    let ups = c.args.ups.now in
    let rows = c.args.rows.now in
    let l = c.in-Ok.ensures.items_if_clones_equal (λ y e. e) in
    let p = c.in-Ok-from_elem.ensures.items_if_clones_equal (λ y e. e) in
    subst (λ (z : List ℕ). AreCounted ups rows z c.in-Ok-from_elem.places.items 0) (sym l)
    (subst (λ (z : List ℕ). AreCounted ups rows (replicate (length ups) 0) z 0) (sym p) (none-counted ups rows))
