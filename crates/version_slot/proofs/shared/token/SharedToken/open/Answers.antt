use Rattle.std.proofs.Common.{sym, ap, subst, length}
use Rattle.version_slot.specs.Views.{EachHasFact}
use Rattle.version_slot.proofs.Views.{fact-none}
use Rattle.version_slot.proofs.Appending.{starts}
use Rattle.version_slot.proofs.shared.token.SharedToken.open.Goals as goal

pub open-seen-requires : goal.open-seen-requires
open-seen-requires g c = (starts g.F.Fact.allows, λ _. tt, c.alone.ensures.1)

pub invariant_of-result : goal.invariant_of-result
invariant_of-result g c =
    let none = c.open-seen.ensures.1 in
    let allows = g.F.Fact.allows in
    (sym (ap length none), subst (EachHasFact allows) (sym none) (fact-none allows))
