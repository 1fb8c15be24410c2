use Rattle.std.proofs.Common.{◌<◌, ◌≤◌, ◌≡◌, ◌∷◌, ◌∙◌, length, refl, sym, subst, arith, add-one, drop}
use Rattle.std.proofs.Math.ListN.{length-set}
use Rattle.std.proofs.lemmas.Option.{slice_get_within}
use Rattle.dict_schema.specs.Sound.{IsSoundItem}
use Rattle.version_slot.proofs.Views.{prefix-chain, prefix-self}
use Rattle.dict_hub.specs.Over.{Follows, IsLoaded, item_name}
use Rattle.dict_hub.specs.declared.following.Counts.{Counts}
use Rattle.dict_hub.proofs.Places.{first-left, first-of, moved_at, name-at, names-set, rest-left, rest-of, stand-loaded, stand-named, views_grow}
use Rattle.dict_hub.proofs.over.DeskOver.follow.Goals as goal

pub loop-item-init : goal.loop-item-init
loop-item-init g c = record {
  left = refl;
  within = omega arith;
  all = c.requires.stand.many;
  sound = c.requires.sound;
  loaded = stand-loaded c.args.self.now.items c.args.items c.requires.stand c.list-items.ensures.are.loaded;
  follows = (refl, c.none-counts.ensures);
  grows = record { views = λ d. prefix-self _; items = refl };
  many = refl;
  asked = c.args.self.now.named ∙ sym (stand-named c.args.self.now.items c.args.items c.requires.stand);
  changed = subst (λ (counts : Counts). counts.changed ≤ 0) (sym c.none-counts.ensures) (omega arith);
  fewer = subst (λ (counts : Counts). counts.published ≤ counts.changed) (sym c.none-counts.ensures) (omega arith);
}

pub follow_one-requires-clause-sound : goal.follow_one-requires-clause-sound
follow_one-requires-clause-sound g c = first-of IsSoundItem c.loop-item.items c.in-Some.item c.pop_front.new.self c.in-Some.ensures c.loop-item.invariant.sound

pub follow_one-requires-clause-loaded : goal.follow_one-requires-clause-loaded
follow_one-requires-clause-loaded g c = first-of IsLoaded c.loop-item.items c.in-Some.item c.pop_front.new.self c.in-Some.ensures c.loop-item.invariant.loaded

pub follow_one-requires-clause-named : goal.follow_one-requires-clause-named
follow_one-requires-clause-named g c =
    let inv = c.loop-item.invariant in
    let left : c.in-Some.item ∷ c.pop_front.new.self ≡ drop c.loop-item.place c.args.items = sym c.in-Some.ensures ∙ inv.left in
    let here = first-left c.args.items c.loop-item.place c.in-Some.item c.pop_front.new.self left in
    let low = slice_get_within c.args.items c.loop-item.place c.in-Some.item here in
    let lt : c.loop-item.place < length c.loop-item.self.dictionaries.items = omega (arith, low, inv.all, inv.many, c.args.self.now.many) in
    name-at (λ x. g.C.DictAt.name (g.C.DictAt.state x)) item_name c.loop-item.self.dictionaries.items c.args.items c.loop-item.place
    c.index_mut.result.now c.in-Some.item inv.asked lt c.index_mut.ensures.value here

pub loop-item-preserved : goal.loop-item-preserved
loop-item-preserved g c =
    let inv = c.loop-item.invariant in
    let dicts = c.loop-item.self.dictionaries.items in
    let item = c.in-Some.item in
    let rest = c.pop_front.new.self in
    let left : item ∷ rest ≡ drop c.loop-item.place c.args.items = sym c.in-Some.ensures ∙ inv.left in
    let here = first-left c.args.items c.loop-item.place item rest left in
    let low = slice_get_within c.args.items c.loop-item.place item here in
    let lt : c.loop-item.place < length c.loop-item.self.dictionaries.items = omega (arith, low, inv.all, inv.many, c.args.self.now.many) in
    let stays = names-set (λ x. g.C.DictAt.name (g.C.DictAt.state x)) dicts c.loop-item.place c.index_mut.result.now c.follow_one.new.dictionary
    c.index_mut.ensures.value c.follow_one.ensures.named in record {
      left = rw add-one (rest-left c.args.items c.loop-item.place item rest left);
      within = omega (arith, low);
      all = inv.all;
      sound = rest-of IsSoundItem c.loop-item.items item rest c.in-Some.ensures inv.sound;
      loaded = rest-of IsLoaded c.loop-item.items item rest c.in-Some.ensures inv.loaded;
      follows = rw add-one (
        _,
        c.loop-item.counts,
        item,
        here,
        inv.follows,
        moved_at g.C.DictAt.state
            (λ from before to after. Follows g.C.DictAt.judged g.C.DictAt.loaded_as c.args.now item c.loop-item.counts from before to after c.follow_one.new.counts)
            dicts c.loop-item.place c.index_mut.result.now c.follow_one.new.dictionary _ _ _ _ _ _ lt c.index_mut.ensures.value c.follow_one.ensures.follows,
      );
      grows = record {
        views = λ d. prefix-chain _ _ _ (inv.grows.views d)
            (views_grow g.C.DictAt.view g.C.DictAt.state dicts c.loop-item.place c.index_mut.result.now c.follow_one.new.dictionary c.index_mut.ensures.value c.follow_one.ensures.grows d);
        items = inv.grows.items;
      };
      many = length-set dicts c.loop-item.place c.follow_one.new.dictionary ∙ inv.many;
      asked = stays ∙ inv.asked;
      changed = omega (arith, c.follow_one.ensures.one, inv.changed);
      fewer = c.follow_one.ensures.fewer;
    }

pub invariant_of-self-in-Some-clause-named : goal.invariant_of-self-in-Some-clause-named
invariant_of-self-in-Some-clause-named g c =
    names-set (λ x. g.C.DictAt.name (g.C.DictAt.state x)) c.loop-item.self.dictionaries.items c.loop-item.place c.index_mut.result.now
    c.follow_one.new.dictionary c.index_mut.ensures.value c.follow_one.ensures.named ∙ c.loop-item.self.named
