use Rattle.std.proofs.Common.{◌≡◌, refl, sym, subst, ◌∙◌}
use Rattle.std.specs.Prelude.{IfOk}
use Rattle.version_slot.specs.Views.{IsNewestOf}
use Rattle.dict_hub.proofs.Places.{counts_have_cause, loaded-within, moved_at, names-set, view_set, views_grow}
use Rattle.dict_hub.proofs.over.DeskOverDesk.enter.Goals as goal

pub returns-clause-act : goal.returns-clause-act
returns-clause-act g c =
    moved_at g.C.DictAt.state (λ from before to after. g.C.DictAt.entered from c.enter.result to × (after ≡ before)) c.args.self.now.dictionaries.items c.args.d c.index_mut.result.now c.enter.new.self
    _ _ _ _ _ _ (loaded-within c.args.self.now.items c.args.self.now.dictionaries.items c.args.d c.args.self.now.many c.requires) c.index_mut.ensures.value (c.enter.ensures.act, refl)

pub returns-clause-grows : goal.returns-clause-grows
returns-clause-grows g c = record {
  views = views_grow g.C.DictAt.view g.C.DictAt.state c.args.self.now.dictionaries.items c.args.d c.index_mut.result.now c.enter.new.self c.index_mut.ensures.value c.enter.ensures.grows;
  items = refl;
}

pub returns-clause-seen : goal.returns-clause-seen
returns-clause-seen g c =
    subst (λ v. IfOk c.enter.result (λ s. IsNewestOf v s))
    (sym (view_set g.C.DictAt.view g.C.DictAt.state c.args.self.now.dictionaries.items c.args.d c.enter.new.self (loaded-within c.args.self.now.items c.args.self.now.dictionaries.items c.args.d c.args.self.now.many c.requires)))
    c.enter.ensures.seen

pub returns-clause-shut : goal.returns-clause-shut
returns-clause-shut g c =
    counts_have_cause _ g.C.DictAt.refusals c.args.self.now.dictionaries.items c.args.d c.index_mut.result.now c.enter.new.self (loaded-within c.args.self.now.items c.args.self.now.dictionaries.items c.args.d c.args.self.now.many c.requires) c.index_mut.ensures.value c.enter.ensures.shut

pub invariant_of-self-clause-named : goal.invariant_of-self-clause-named
invariant_of-self-clause-named g c =
    names-set (λ x. g.C.DictAt.name (g.C.DictAt.state x)) c.args.self.now.dictionaries.items c.args.d c.index_mut.result.now c.enter.new.self
    c.index_mut.ensures.value c.enter.ensures.named ∙ c.args.self.now.named
