-- What is told in the key's span is what is found.
use Rattle.std.proofs.Common.{◌-◌, length, arith, subst}
use Rattle.range_layout.specs.FindByRange.{FindsByRange}
use Rattle.range_layout.specs.Kept.{TellsIn, row_told}
use Rattle.range_layout.proofs.EndPoints.{number-passed, point-passed}
use Rattle.range_layout.proofs.Halving.{few-steps}
use Rattle.range_layout.proofs.Taken.{finds-told, told-some}
use Rattle.range_layout.proofs.ranged.Ranged.find.Goals as goal

pub returns-in_default-clause-found : goal.returns-in_default-clause-found
returns-in_default-clause-found g c = λ keys ends strategy is place range has holds. c.in_default.ensures.found keys ends strategy is place has.0

pub returns-then-winner-eq0-clause-found : goal.returns-then-winner-eq0-clause-found
returns-then-winner-eq0-clause-found g c = λ keys ends strategy is.
    let self = c.args.self.now in
    let of = (c.in-Some.ensures.found keys ends strategy is).1 in
    let e = point-passed c.args.point c.point_of.result c.ranges.point c.point_of.ensures in
    let told = subst (λ p. TellsIn self.edges self.winners c.in-Some.span p c.winner_in-winner.result) e (c.winner_in-winner.ensures.told of.rises) in
    subst (λ w. FindsByRange keys ends strategy c.args.key.now c.args.point (row_told w)) c.if-winner-eq0.true
    (finds-told keys ends strategy self.edges self.winners c.args.key.now c.in-Some.span c.args.point c.winner_in-winner.result of (number-passed c.args.point c.ranges.point) told)

pub returns-else-winner-eq0-clause-found : goal.returns-else-winner-eq0-clause-found
returns-else-winner-eq0-clause-found g c = λ keys ends strategy is.
    let self = c.args.self.now in
    let of = (c.in-Some.ensures.found keys ends strategy is).1 in
    let e = point-passed c.args.point c.point_of.result c.ranges.point c.point_of.ensures in
    let told = subst (λ p. TellsIn self.edges self.winners c.in-Some.span p c.winner_in-winner.result) e (c.winner_in-winner.ensures.told of.rises) in
    subst (FindsByRange keys ends strategy c.args.key.now c.args.point) (told-some c.winner_in-winner.result c.if-winner-eq0.false)
    (finds-told keys ends strategy self.edges self.winners c.args.key.now c.in-Some.span c.args.point c.winner_in-winner.result of (number-passed c.args.point c.ranges.point) told)

pub returns-then-winner-eq0-clause-steps : goal.returns-then-winner-eq0-clause-steps
returns-then-winner-eq0-clause-steps g c = λ keys ends strategy is rows are.
    let span = c.in-Some.span in
    let of = c.in-Some.ensures.found keys ends strategy is in
    let few = of.1.few rows are in
    let one = ((are.each of.0.0).1 of.0.1).1 in
    let s = c.winner_in-winner.ensures.steps in
    few-steps (span.end - span.start) (length rows) s.0 _ _ _ (omega (arith, few)) (omega (arith, one)) s.1 c.in-Some.ensures.steps s.2

pub returns-else-winner-eq0-clause-steps : goal.returns-else-winner-eq0-clause-steps
returns-else-winner-eq0-clause-steps g c = λ keys ends strategy is rows are.
    let span = c.in-Some.span in
    let of = c.in-Some.ensures.found keys ends strategy is in
    let few = of.1.few rows are in
    let one = ((are.each of.0.0).1 of.0.1).1 in
    let s = c.winner_in-winner.ensures.steps in
    few-steps (span.end - span.start) (length rows) s.0 _ _ _ (omega (arith, few)) (omega (arith, one)) s.1 c.in-Some.ensures.steps s.2
