use Rattle.std.proofs.Common.{◌≡◌, ℕ, Some, refl, arith, subst, ap, IsTrue, slice_get, sym, ◌∙◌, length, List}
use borrow.Author.Count.{below_more}
use Rattle.std.proofs.lemmas.Option.{same_Some, slice_get_read}
use Rattle.dict_schema.specs.declared.definition.Column.{Column}
use Rattle.dict_schema.proofs.attributes.is_parent_before.Goals as goal

pub returns-then-as_slice-earlier : goal.returns-then-as_slice-earlier
returns-then-as_slice-earlier c =
    let columns = c.as_slice.result.now in
    let at = slice_get_read columns (length columns) c.loop-earlier.earlier c.index-as_slice-earlier.result refl (omega (arith, ap length c.as_slice.ensures)) c.index-as_slice-earlier.is in
    (λ _. (c.loop-earlier.earlier, c.index-as_slice-earlier.result, c.loop-earlier-test.true, subst (λ (xs : List Column). slice_get xs c.loop-earlier.earlier ≡ Some c.index-as_slice-earlier.result) c.as_slice.ensures at, ap (λ (k : Column). k.hierarchical) c.index-as_slice-earlier.is ∙ c.if-as_slice-earlier.true), λ _. refl)

pub loop-earlier-preserved : goal.loop-earlier-preserved
loop-earlier-preserved c =
    let columns = c.as_slice.result.now in
    let at = slice_get_read columns (length columns) c.loop-earlier.earlier c.index-as_slice-earlier.result refl (omega (arith, ap length c.as_slice.ensures)) c.index-as_slice-earlier.is in
    let here = subst (λ (xs : List Column). slice_get xs c.loop-earlier.earlier ≡ Some c.index-as_slice-earlier.result) c.as_slice.ensures at in
    below_more (λ (k : ℕ). (column : Column) → slice_get c.args.d.now.columns k ≡ Some column → IsTrue column.hierarchical → ⊥) c.loop-earlier.earlier c.loop-earlier.invariant
    (λ column is parent. let same = same_Some _ _ (sym here ∙ is) in absurd (cc (parent, ap (λ (k : Column). k.hierarchical) same, c.if-as_slice-earlier.false)))

pub returns : goal.returns
returns c = (λ is. absurd (cc is), λ before. absurd (c.loop-earlier.invariant before.0 (omega arith) before.1 before.3 before.4))
