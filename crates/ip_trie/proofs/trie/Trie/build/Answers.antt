-- Each text has a prefix.
use Rattle.std.proofs.Common.{subst, sym, rules}
use Rattle.std.specs.Prelude.{IsSome}
use Rattle.std.proofs.lemmas.Option.{slice_get-get_or}
use Rattle.ip_trie.proofs.trie.Trie.build.Goals as goal

pub returns-clause-read : goal.returns-clause-read
returns-clause-read g c = λ k d l.
    let e = c.in_ok-leaves.ensures.leaves.0.each k _ (slice_get-get_or c.args.texts.now k d l) in
    subst IsSome (sym e.1) (search rules)
