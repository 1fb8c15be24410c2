use Rattle.std.proofs.Common.{◌≡◌, ◌∙◌, [], refl, rules, sym}
use Rattle.loader.proofs.Teaching.{loaded}
use Rattle.loader.proofs.load_tests.dictionary.Dictionary.load_as.Goals as goal

pub invariant_of-self : goal.invariant_of-self
invariant_of-self c =
    let was = c.self.inside in
    let load = c.load_as.ensures.load in
    let named : c.args.d.name ≡ was.name = search rules in
    loaded was.name _ c.args.d c.args.now c.load_as.result load.postings was.loader _ was.slot _ was.board _
    (λ told h. h.0) (λ told h. (c.load_as.ensures.tokens told h).0) (named ∙ sym c.self.invariant.2) load.stands
    load.state load.are_postings (load.posted was.board [] refl) c.self.invariant
