use Rattle.std.proofs.Common.{◌≡◌, [], ◌∷◌, ◌++◌, ap, sym, subst, ◌∙◌}
use Rattle.version_slot.specs.Views.{EachHasFact}
use Rattle.version_slot.proofs.Views.{fact-append}
use Rattle.version_slot.proofs.plain.PlainSlotPublisher.publish.Goals as goal

pub invariant_of-self-2 : goal.invariant_of-self-2
invariant_of-self-2 g c =
    let entries : c.push.new.self ≡ c.self.inside.entries ++ c.args.v ∷ [] = c.in_ok-push.ensures.ok ∙ ap (λ x. c.self.inside.entries ++ x ∷ []) c.in_ok-version.ensures in
    subst (EachHasFact g.F.Fact.allows) (sym entries) (fact-append g.F.Fact.allows _ _ c.self.invariant (subst (λ z. g.F.Fact.allows z c.args.v) (sym c.self.view_is) c.requires.fact))
