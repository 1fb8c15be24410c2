use Rattle.std.proofs.Common.{◌≡◌, ◌∙◌, ap, sym, refl, Result, Ok, Err}
use Rattle.std.specs.Prelude.{MatchResult, OnOk}
use Rattle.version_slot.proofs.Copies.{fold-last, shows}
use Rattle.version_slot.proofs.shared.copies.show.Goals as goal

-- what holds where a publishing answers Ok
where-shown : {X Y P P' G : Type 0} (Q Q' : Type 0) (r : Result X Y) → MatchResult r (λ _. P) (λ _. Q)
    → MatchResult r (λ _. P') (λ _. Q') → (P → P' → G) → OnOk r G
where-shown Q Q' (Ok x) p p' f = f p p'
where-shown Q Q' (Err y) q q' f = tt

pub publish_as-requires : goal.publish_as-requires
publish_as-requires g c next is views h at =
    let new : next ≡ c.args.next =
    is ∙ fold-last _ (λ o. o) (λ s o. refl) _ _ c.args.next _ c.in-Ok.ensures.pending in
    let was = ap (λ d. d.shown.value.slot) c.append.ensures.desk in
    shows _ _ _ views (ap (λ s. s.slot) new ∙ (c.requires ∙ sym was)) h

pub returns-clause-ok : goal.returns-clause-ok
returns-clause-ok g c = where-shown _ _ c.publish_as.result.1 c.publish_as.ensures.values c.publish_as.ensures.rule
    (λ p rule. p.0 ∙ fold-last _ (λ o. o) (λ s o. refl) _ _ c.args.next _ c.in-Ok.ensures.pending)

pub returns-clause-knows : goal.returns-clause-knows
returns-clause-knows g c = where-shown _ _ c.publish_as.result.1 c.publish_as.ensures.values c.publish_as.ensures.rule
    (λ p rule.
    let new = p.0 ∙ fold-last _ (λ o. o) (λ s o. refl) _ _ c.args.next _ c.in-Ok.ensures.pending in
    rw (← new) rule)
