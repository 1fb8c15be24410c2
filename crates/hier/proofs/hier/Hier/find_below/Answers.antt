-- A level, or all.
use Rattle.std.specs.Prelude.{◌↔◌}
use Rattle.std.proofs.Common.{ℕ, refl, arith, subst, sym}
use Rattle.hier.specs.Members.{IsFoundAt}
use Rattle.hier.specs.steps.Finding.{IsSearched, StandsFrom}
use Rattle.hier.proofs.Finds.{found-all, found-at, if-ok}
use Rattle.hier.proofs.hier.Hier.find_below.Goals as goal

pub returns-then-level-eq0 : goal.returns-then-level-eq0
returns-then-level-eq0 c = (
  omega arith,
  λ other.
      subst (λ k. StandsFrom c.find_levels.new.found 0 other ↔ IsFoundAt c.args.self.now.ups.items c.args.of k other) (sym c.if-level-eq0.true)
      (found-all c.args.self.now.ups.items c.args.of 4294967295 _ c.find_levels.new.found refl c.in_ok-find_levels.ensures other),
)

pub returns : goal.returns
returns c =
    if-ok _ _ _ (λ (start : ℕ) (s : IsSearched c.args.self.now.ups.items c.args.of c.args.level c.find_levels-2.new.found start). (
      s.within,
      λ other.
          let f = found-at c.args.self.now.ups.items c.args.of c.args.level other (omega arith) in
          (λ h. f.0 ((s.last other).0 h), λ h. (s.last other).1 (f.1 h)),
    )) c.find_levels-2.ensures
