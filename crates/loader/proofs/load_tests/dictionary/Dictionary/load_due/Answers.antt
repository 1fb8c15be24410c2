use Rattle.std.proofs.Common.{[], refl}
use Rattle.loader.proofs.Teaching.{by-end, loaded, unmoved}
use Rattle.loader.proofs.load_tests.dictionary.Dictionary.load_due.Goals as goal

pub invariant_of-self : goal.invariant_of-self
invariant_of-self c =
    let was = c.self.inside in
    by-end c.load_due.result _
    (λ e. let same = c.load_due.ensures.none e in
    unmoved was.name was.loader _ was.slot _ was.board _ same.0 same.2 same.3 c.self.invariant)
    c.load_due.ensures.load
    (λ end load. loaded was.name _ was.loader.definition c.args.now end load.postings was.loader _ was.slot _
    was.board _ (λ told h. h.0) (λ told h. (c.load_due.ensures.tokens told h).0) refl load.stands load.state
    load.are_postings (load.posted was.board [] refl) c.self.invariant)
