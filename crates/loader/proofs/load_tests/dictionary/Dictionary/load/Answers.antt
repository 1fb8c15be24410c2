use Rattle.std.proofs.Common.{[], refl}
use Rattle.loader.proofs.Teaching.{loaded}
use Rattle.loader.proofs.load_tests.dictionary.Dictionary.load.Goals as goal

pub invariant_of-self : goal.invariant_of-self
invariant_of-self c =
    let was = c.self.inside in
    let load = c.load.ensures.load in
    loaded was.name _ was.loader.definition c.args.now c.load.result load.postings was.loader _ was.slot _ was.board _
    (λ told h. h.0) (λ told h. (c.load.ensures.tokens told h).0) refl load.stands load.state load.are_postings
    (load.posted was.board [] refl) c.self.invariant
