use Rattle.std.proofs.Common.{◌≡◌, ◌<◌, ◌+◌, ◌++◌, ◌∷◌, ◌∙◌, ℕ, List, length, take, drop, sym, refl, ap, subst, arith}
use Rattle.std.proofs.lemmas.List.{drop_more, length-take-le, take-append-drop}
use Rattle.row_text.specs.Cutting.{IsOpen, IsWhole, keeps_open}
use Rattle.row_text.specs.declared.cutter.CutRule.{CutRule}
use Rattle.row_text.proofs.CutSteps.{keeps_open-nil, open-nil}
use Rattle.row_text.proofs.cutter.Cutter.feed.Goals as goal

pub returns-in-Row-clause-feeds : goal.returns-in-Row-clause-feeds
returns-in-Row-clause-feeds c by row held =
    let xs = c.args.piece.now in
    let i = c.in-Row.place in
    let rule = c.args.self.now.rule in
    let opened : IsOpen rule row = subst (λ (r : CutRule). IsOpen r row) (sym held.by_rule) held.opened in
    let inside : c.args.self.now.inside ≡ keeps_open rule row = held.inside ∙ ap (λ (r : CutRule). keeps_open r row) (sym held.by_rule) in
    let found = c.in-Row.ensures.finds row opened inside in
    let lt : i < length xs = found.0 in
    let le = length-take-le i xs (omega arith) in (
      (
        take i xs,
        drop (i + 1) xs,
        sym (take-append-drop i xs) ∙ ap (λ (t : List ℕ). take i xs ++ t) (drop_more xs i 0 lt ∙ ap (λ (b : ℕ). b ∷ drop (i + 1) xs) found.1),
        rw le refl,
        subst (λ (r : CutRule). IsWhole r (row ++ take i xs)) held.by_rule found.2,
      ),
      record { by_rule = held.by_rule; opened = open-nil by; started = refl; inside = sym (keeps_open-nil by) },
    )
