use Rattle.std.proofs.Common.{ap, subst}
use mathlib.Core.List.{IsPrefix}
use Rattle.version_slot.proofs.Views.{prefix-longer}
use Rattle.version_slot.proofs.shared.token.SharedToken.is_within.Goals as goal

pub returns-clause-one_list : goal.returns-clause-one_list
returns-clause-one_list g c =
    let mine = c.self.inside.seen.log in
    let others = c.other.inside.seen.log in
    let both = c.learn.new.self.log in
    let again = ap (λ s. s.log) c.again-both.ensures in
    let this : IsPrefix mine both = subst (λ list. IsPrefix list both) again c.learn.ensures.2 in
    let other : IsPrefix others both = c.learn.ensures.3 in
    rw (← c.self.view_is, ← c.other.view_is) (record {
      up = prefix-longer mine others both this other;
      down = prefix-longer others mine both other this;
    })
