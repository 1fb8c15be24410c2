use Rattle.std.proofs.Common.{◌≡◌, sym, ◌∙◌, ap}
use Rattle.version_slot.proofs.Appending.{appends-moves}
use Rattle.version_slot.proofs.shared.token.SharedToken.append.Goals as goal

pub compare_exchange-found-requires : goal.compare_exchange-found-requires
compare_exchange-found-requires g c =
    let word = c.counter.invariant in
    let offer = c.plain-offer.ensures in
    let pen = c.no_pen-pen.ensures in
    let again = c.again-seen.ensures in
    let mine = c.self.inside in
    let e = c.args.version.now in
    let slot : mine.seen.book ≡ c.counter.inside.word.book =
    ap (λ told. told.slot) c.self.view_is ∙ (sym c.requires.slot ∙ sym c.counter.view_is) in
    let may : g.F.Fact.allows mine.seen.log e = rw (ap (λ told. told.list) c.self.view_is) c.requires.fact in
    let moves = appends-moves g.F.Fact.allows mine.seen.log e mine.number (sym c.self.invariant.0) may in (
      ap (λ w. w.tracked) word,
      ap (λ s. s.book) again ∙ slot,
      pen.0 ∙ (ap (λ s. s.book) again ∙ slot),
      offer.0,
      rw (ap (λ w. w.key) word, pen.1, offer.1, offer.3, ap (λ s. s.log) again) moves,
    )
