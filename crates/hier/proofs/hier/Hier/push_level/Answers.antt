-- The members below one more are appended.
use Rattle.std.proofs.Common.{◌≡◌, ◌<◌, ℕ, List, length, get_or, arith, subst, ap, ◌∙◌}
use Rattle.hier.specs.steps.Finding.{AddsBelow, AddsLevel}
use Rattle.hier.proofs.Finds.{level-more, stood}
use Rattle.hier.proofs.hier.Hier.push_level.Goals as goal

pub loop-place-preserved : goal.loop-place-preserved
loop-place-preserved c =
    let ups = c.args.self.now.ups.items in
    let old = c.args.found.now in
    let l = c.loop-place in
    let within : l.place < length old = omega arith in
    let same = stood ups c.args.from l.place c.args.but old l.found l.invariant l.place within in
    level-more ups c.args.from l.place c.args.but old l.found c.push_below.new.found (omega arith) within l.invariant
    (subst (λ k. AddsBelow ups k c.args.but l.found c.push_below.new.found) (ap (λ (z : List ℕ). get_or z l.place 0) c.as_slice.ensures ∙ same.1) c.in_ok-push_below.ensures)

pub returns : goal.returns
returns c =
    let e : c.loop-place.place ≡ length c.args.found.now = omega arith in
    subst (λ n. AddsLevel c.args.self.now.ups.items c.args.from n c.args.but c.args.found.now c.loop-place.found) e c.loop-place.invariant
