use Rattle.std.proofs.Common.{◌<◌, length, refl, ◌∙◌, arith, add-one}
use Rattle.std.proofs.Math.ListN.{length-set}
use Rattle.loader.specs.declared.answers.LoadEnd.{LoadEnd}
use Rattle.version_slot.proofs.Views.{prefix-chain, prefix-self}
use Rattle.dict_hub.proofs.Places.{moved_at, names-set, views_grow}
use Rattle.dict_hub.proofs.over.DeskOver.first.Goals as goal

pub loop-d-init : goal.loop-d-init
loop-d-init g c = record {
  loads = refl;
  grows = record { views = λ d. prefix-self _; items = refl };
  many = refl;
}

pub loop-d-preserved : goal.loop-d-preserved
loop-d-preserved g c =
    let inv = c.loop-d.invariant in
    let dicts = c.loop-d.self.dictionaries.items in
    let lt : c.loop-d.d < length c.loop-d.self.dictionaries.items = omega (arith, c.len-d-end.ensures, inv.many, c.args.self.now.dictionaries.ok.0) in record {
      loads = rw add-one (
        _,
        inv.loads,
        moved_at g.C.DictAt.state (λ from before to after. (end : LoadEnd) × g.C.DictAt.loaded from before c.args.now end to after)
            dicts c.loop-d.d c.index_mut.result.now c.load.new.self _ _ _ _ _ _ lt c.index_mut.ensures.value (c.load.result, c.load.ensures.act),
      );
      grows = record {
        views = λ d. prefix-chain _ _ _ (inv.grows.views d)
            (views_grow g.C.DictAt.view g.C.DictAt.state dicts c.loop-d.d c.index_mut.result.now c.load.new.self c.index_mut.ensures.value c.load.ensures.grows d);
        items = inv.grows.items;
      };
      many = length-set dicts c.loop-d.d c.load.new.self ∙ inv.many;
    }

pub invariant_of-self-in-loop-d-clause-named : goal.invariant_of-self-in-loop-d-clause-named
invariant_of-self-in-loop-d-clause-named g c =
    names-set (λ x. g.C.DictAt.name (g.C.DictAt.state x)) c.loop-d.self.dictionaries.items c.loop-d.d c.index_mut.result.now c.load.new.self
    c.index_mut.ensures.value c.load.ensures.named ∙ c.loop-d.self.named
