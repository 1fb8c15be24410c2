use Rattle.std.proofs.Common.{◌≤◌, length, refl, sym, subst, ◌∙◌}
use Rattle.dict_hub.proofs.Places.{loaded-within, moved_at, names-set, view_set, views_grow}
use Rattle.dict_hub.proofs.over.DeskOverDesk.reload.Goals as goal

pub returns-clause-act : goal.returns-clause-act
returns-clause-act g c =
    moved_at g.C.DictAt.state (λ from before to after. g.C.DictAt.loaded from before c.args.now c.load.result to after) c.args.self.now.dictionaries.items c.args.d c.index_mut.result.now c.load.new.self
    _ _ _ _ _ _ (loaded-within c.args.self.now.items c.args.self.now.dictionaries.items c.args.d c.args.self.now.many c.requires.loaded) c.index_mut.ensures.value c.load.ensures.act

pub returns-clause-grows : goal.returns-clause-grows
returns-clause-grows g c = record {
  views = views_grow g.C.DictAt.view g.C.DictAt.state c.args.self.now.dictionaries.items c.args.d c.index_mut.result.now c.load.new.self c.index_mut.ensures.value c.load.ensures.grows;
  items = refl;
}

pub returns-clause-learnt : goal.returns-clause-learnt
returns-clause-learnt g c = λ n h.
    subst (λ v. n ≤ length v)
    (sym (view_set g.C.DictAt.view g.C.DictAt.state c.args.self.now.dictionaries.items c.args.d c.load.new.self (loaded-within c.args.self.now.items c.args.self.now.dictionaries.items c.args.d c.args.self.now.many c.requires.loaded)))
    (c.load.ensures.learnt n h)

pub invariant_of-self-clause-named : goal.invariant_of-self-clause-named
invariant_of-self-clause-named g c =
    names-set (λ x. g.C.DictAt.name (g.C.DictAt.state x)) c.args.self.now.dictionaries.items c.args.d c.index_mut.result.now c.load.new.self
    c.index_mut.ensures.value c.load.ensures.named ∙ c.args.self.now.named
