-- A level more, or no member at the last.
use Rattle.std.proofs.Common.{◌≡◌, ◌+◌, get_or, refl, arith, subst, sym, ◌∙◌}
use Rattle.hier.specs.steps.Finding.{IsSearched}
use Rattle.hier.proofs.Finds.{reaches-within, searched-all, searched-more, searched-one}
use Rattle.hier.proofs.hier.Hier.find_levels.Goals as goal

pub loop-level-init : goal.loop-level-init
loop-level-init c = searched-one c.args.self.now.ups.items c.args.of c.args.found.now c.push_below.new.found c.requires.none c.in_ok-push_below.ensures

pub returns-then-from-to : goal.returns-then-from-to
returns-then-from-to c =
    searched-all c.args.self.now.ups.items c.args.of c.loop-level.level c.args.levels c.loop-level.from c.loop-level.found (omega arith) (c.if-from-to.true ∙ c.len-to.ensures) c.loop-level.invariant

pub push_level-requires-clause-within : goal.push_level-requires-clause-within
push_level-requires-clause-within c = λ place l.
    let ups = c.args.self.now.ups.items in
    let q = (c.loop-level.invariant.all (get_or c.loop-level.found place 0)).0 (place, omega arith, l, refl) in
    let w = reaches-within ups c.args.of q.0 _ q.1 q.3 in
    let n = c.args.self.now.sound.ups_len in
    omega (arith, w, n)

pub loop-level-preserved : goal.loop-level-preserved
loop-level-preserved c =
    let ups = c.args.self.now.ups.items in
    subst (IsSearched ups c.args.of (c.loop-level.level + 1) c.push_level.new.found) (sym c.len-to.ensures)
    (searched-more ups c.args.of c.loop-level.level c.loop-level.from c.loop-level.found c.push_level.new.found c.loop-level.invariant c.in_ok-push_level.ensures)

pub returns : goal.returns
returns c =
    let e : c.loop-level.level ≡ c.args.levels = omega arith in
    subst (λ n. IsSearched c.args.self.now.ups.items c.args.of n c.loop-level.found c.loop-level.from) e c.loop-level.invariant
