use Rattle.std.proofs.Common.{◌≡◌, ℕ, List, Some, map, refl, arith, slice_get, sym, ◌∙◌}
use borrow.Author.Count.{below_more}
use Rattle.std.proofs.lemmas.Option.{same_Some}
use Rattle.dict_schema.proofs.NamePlaces.{named-at}
use Rattle.dict_schema.proofs.names.is_named_before.Goals as goal

pub returns-then-is_same : goal.returns-then-is_same
returns-then-is_same g c =
    let name = c.name-name.result.now in
    let here = named-at g.N.Named.name_of c.args.items.now c.args.place c.index-items-place.result name c.requires c.index-items-place.is c.name-name.ensures in
    let earlier = named-at g.N.Named.name_of c.args.items.now c.loop-earlier.earlier c.index-items-earlier.result name (omega arith) c.index-items-earlier.is (sym (c.if-is_same.ensures.0 refl) ∙ c.name.ensures) in
    (λ _. (c.loop-earlier.earlier, name, c.loop-earlier-test.true, earlier, here), λ _. refl)

pub loop-earlier-preserved : goal.loop-earlier-preserved
loop-earlier-preserved g c =
    let earlier = named-at g.N.Named.name_of c.args.items.now c.loop-earlier.earlier c.index-items-earlier.result c.name.result.now (omega arith) c.index-items-earlier.is c.name.ensures in
    below_more (λ (k : ℕ). slice_get (map g.N.Named.name_of c.args.items.now) k ≡ Some c.name-name.result.now → ⊥) c.loop-earlier.earlier c.loop-earlier.invariant
    (λ same. absurd (cc (c.if-is_same.ensures.1 (same_Some _ _ (sym earlier ∙ same)))))

pub returns : goal.returns
returns g c =
    let here = named-at g.N.Named.name_of c.args.items.now c.args.place c.index-items-place.result c.name-name.result.now c.requires c.index-items-place.is c.name-name.ensures in
    (λ is. absurd (cc is), λ before. absurd (c.loop-earlier.invariant before.0 (omega arith) (before.3 ∙ sym before.4 ∙ here)))
