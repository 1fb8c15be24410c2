-- A leaf more.
use Rattle.std.specs.List.{slice_get}
use Rattle.std.proofs.Common.{◌≡◌, ℕ, List, [], ◌∷◌, ◌++◌, length, Some, inl, inr, refl, arith, subst, sym, ap, ◌∙◌, length-append}
use Rattle.std.proofs.lemmas.Bool.{cases_lt}
use Rattle.std.proofs.lemmas.Grind.{common_steps}
use Rattle.std.proofs.lemmas.Option.{slice_get_read, slice_get_within}
use Rattle.dict_value.specs.Addresses.{prefix_in}
use Rattle.ip_trie.specs.Cells.{AreLeaves}
use Rattle.ip_trie.specs.declared.cells.Leaf.{Leaf}
use Rattle.ip_trie.proofs.Lists.{get-append_here, get-append_left}
use Rattle.ip_trie.proofs.RowPrefixes.{leaves-push, reads-prefix}
use Rattle.ip_trie.proofs.build.leaves_of.Goals as goal

pub loop-row-preserved : goal.loop-row-preserved
loop-row-preserved c =
    let old = c.loop-row.leaves.items in
    let i = c.loop-row.invariant in
    let row = c.loop-row.row in
    let items : c.push.new.self.items ≡ old ++ c.leaf_of.result ∷ [] = grind (arith, common_steps) in
    let here = slice_get_read c.args.texts.now (length c.args.texts.now) row c.index-texts-row.result refl (omega arith) c.index-texts-row.is in
    let reads : prefix_in c.index-texts-row.result ≡ Some c.in-Ok-read_prefix.prefix = reads-prefix _ c.in-Ok-read_prefix.prefix (ap (λ (z : List ℕ). prefix_in z) (sym c.as_slice.ensures)) c.in-Ok-read_prefix.ensures.value in
    record {
      len = ap length items ∙ (length-append old (c.leaf_of.result ∷ []) ∙ (let n = i.len in omega (arith, n)));
      each = λ place text l got. elim (cases_lt place row) [
        | inl before ↦
            let e = i.each place text before got in
            (e.0, e.1, e.2, ap (λ (z : List Leaf). slice_get z place) items ∙ (get-append_left old (c.leaf_of.result ∷ []) place (let n = i.len in omega (arith, n, before)) ∙ e.3))
        | inr last ↦
            let e : row ≡ place = omega (arith, l, last) in
            let got_here : slice_get c.args.texts.now row ≡ Some text = subst (λ k. slice_get c.args.texts.now k ≡ Some text) (sym e) got in
            let same : c.index-texts-row.result ≡ text = cc (here, got_here) in
            let n : length old ≡ place = i.len ∙ e in (
              c.in-Ok-read_prefix.prefix,
              subst (λ (z : List ℕ). prefix_in z ≡ Some c.in-Ok-read_prefix.prefix) same reads,
              c.in-Ok-read_prefix.ensures.fits,
              ap (λ (z : List Leaf). slice_get z place) items ∙ (subst (λ k. slice_get (old ++ c.leaf_of.result ∷ []) k ≡ Some c.leaf_of.result) n (get-append_here old c.leaf_of.result) ∙ ap Some c.leaf_of.ensures.is),
            )
      ];
      sound = subst AreLeaves (sym items) (leaves-push old c.leaf_of.result i.sound c.leaf_of.ensures.len (omega arith) c.leaf_of.ensures.cleared);
    }

pub returns-clause-leaves : goal.returns-clause-leaves
returns-clause-leaves c =
    let i = c.loop-row.invariant in
    let all : c.loop-row.row ≡ length c.args.texts.now = omega arith in (
      record {
        len = i.len ∙ all;
        each = λ place text got. i.each place text (let w = slice_get_within c.args.texts.now place text got in omega (arith, w, all)) got;
      },
      i.sound,
    )
