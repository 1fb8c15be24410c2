use Rattle.std.proofs.Common.{refl, subst}
use Rattle.dict_hub.specs.Over.Follows.{same}
use Rattle.dict_hub.proofs.Followed.{followed}
use Rattle.dict_hub.proofs.following.follow_one.Goals as goal

pub returns-then-is_current-clause-follows : goal.returns-then-is_current-clause-follows
returns-then-is_current-clause-follows g c =
    same c.in-Dictionary.definition c.in-Dictionary.is
    (subst (λ said. g.C.DictAt.judged (g.C.DictAt.state c.args.dictionary.now) c.in-Dictionary.definition said) c.if-is_current.true c.is_current.ensures.judged)
    c.is_current.ensures.same refl refl

pub returns-clause-follows : goal.returns-clause-follows
returns-clause-follows g c =
    followed g.C.DictAt.judged g.C.DictAt.loaded_as c.args.now c.args.item c.args.counts.now _ _ _ _ _ c.in-Dictionary.definition c.load_as-end.result _
    c.in-Dictionary.is
    (subst (λ said. g.C.DictAt.judged (g.C.DictAt.state c.args.dictionary.now) c.in-Dictionary.definition said) c.if-is_current.false c.is_current.ensures.judged)
    c.is_current.ensures.same c.load_as-end.ensures.act c.with_end.ensures.counts
