-- A row more, or one of the other family.
use Rattle.std.proofs.Common.{◌≡◌, ◌+◌, ◌-◌, ◌*◌, ◌^◌, arith, subst, sym, ap, ◌∙◌}
use Rattle.ip_trie.specs.Cells.{digit, leaf_at, level_of, no_leaf}
use Rattle.ip_trie.specs.declared.cells.Leaf.{Leaf}
use Rattle.ip_trie.specs.steps.Growing.{AreBettered}
use Rattle.ip_trie.proofs.Bits.{covered-within}
use Rattle.ip_trie.proofs.Grown.{way-room}
use Rattle.ip_trie.proofs.Lists.{any-default, same-bool}
use Rattle.ip_trie.proofs.Marks.{marked-trie}
use Rattle.ip_trie.proofs.build.put.Goals as goal

pub overflow_add-from : goal.overflow_add-from
overflow_add-from c =
    let r = way-room c.args.leaves.now c.args.v6 c.args.row c.level_of-last.result c.in_ok-start.start c.way.new.cells.items c.in_ok-start.ensures.grown in
    let i = c.in_ok-start.ensures.room in
    let m = c.requires.rows in
    let l = c.requires.row in
    let d = c.digit_of.ensures.within in
    let w = c.level_of-last.ensures.within in
    omega (arith, r, i, m, l, d, w)

pub overflow_add-from-2 : goal.overflow_add-from-2
overflow_add-from-2 c =
    let leaves = c.args.leaves.now in
    let e = any-default leaves c.args.row _ no_leaf c.requires.row in
    let level : c.level_of-last.result ≡ level_of (leaf_at leaves c.args.row).len = c.level_of-last.ensures.is ∙ ap (λ (x : Leaf). level_of x.len) e in
    let w = c.level_of-last.ensures.within in
    let fits = covered-within (leaf_at leaves c.args.row).len c.level_of-last.result (leaf_at leaves c.args.row).bits 0 w level (c.requires.leaves.len c.args.row) (c.requires.leaves.cleared c.args.row) in
    let d = c.digit_of.ensures.is ∙ ap (λ (x : Leaf). digit c.level_of-last.result x.bits) e in
    let k = c.covered.ensures ∙ ap (λ (x : Leaf). 2 ^ (4 * c.level_of-last.result + 4 - x.len)) e in
    let r = way-room leaves c.args.v6 c.args.row c.level_of-last.result c.in_ok-start.start c.way.new.cells.items c.in_ok-start.ensures.grown in
    let i = c.in_ok-start.ensures.room in
    let m = c.requires.rows in
    let l = c.requires.row in
    omega (arith, r, i, m, l, d, w, k, fits)

pub mark-requires-clause-end : goal.mark-requires-clause-end
mark-requires-clause-end c =
    let leaves = c.args.leaves.now in
    let e = any-default leaves c.args.row _ no_leaf c.requires.row in
    let level : c.level_of-last.result ≡ level_of (leaf_at leaves c.args.row).len = c.level_of-last.ensures.is ∙ ap (λ (x : Leaf). level_of x.len) e in
    let w = c.level_of-last.ensures.within in
    let fits = covered-within (leaf_at leaves c.args.row).len c.level_of-last.result (leaf_at leaves c.args.row).bits 0 w level (c.requires.leaves.len c.args.row) (c.requires.leaves.cleared c.args.row) in
    let d = c.digit_of.ensures.is ∙ ap (λ (x : Leaf). digit c.level_of-last.result x.bits) e in
    let k = c.covered.ensures ∙ ap (λ (x : Leaf). 2 ^ (4 * c.level_of-last.result + 4 - x.len)) e in
    let r = way-room leaves c.args.v6 c.args.row c.level_of-last.result c.in_ok-start.start c.way.new.cells.items c.in_ok-start.ensures.grown in
    omega (arith, r, d, k, fits)

pub returns-clause-trie : goal.returns-clause-trie
returns-clause-trie c =
    let leaves = c.args.leaves.now in
    let e = any-default leaves c.args.row _ no_leaf c.requires.row in
    let level : c.level_of-last.result ≡ level_of (leaf_at leaves c.args.row).len = c.level_of-last.ensures.is ∙ ap (λ (x : Leaf). level_of x.len) e in
    let d = c.digit_of.ensures.is ∙ ap (λ (x : Leaf). digit c.level_of-last.result x.bits) e in
    let k = c.covered.ensures ∙ ap (λ (x : Leaf). 2 ^ (4 * c.level_of-last.result + 4 - x.len)) e in
    let x = (leaf_at leaves c.args.row).bits in
    let start = c.in_ok-start.start in
    let marked = subst (λ n. AreBettered leaves c.args.row (start + digit c.level_of-last.result x) (start + digit c.level_of-last.result x + n) c.way.new.cells.items c.mark.new.cells.items) k
    (subst (λ n. AreBettered leaves c.args.row (start + n) (start + n + c.covered.result) c.way.new.cells.items c.mark.new.cells.items) d c.mark.ensures) in
    marked-trie leaves c.args.v6 c.args.row c.level_of-last.result start c.requires.leaves c.way.new.cells.items c.mark.new.cells.items (c.requires.row, sym (ap (λ (x : Leaf). x.v6) e) ∙ same-bool _ _ c.if-leaf-v6.false) level c.in_ok-start.ensures.grown marked
