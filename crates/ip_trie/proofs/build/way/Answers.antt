-- The way begins at the root, and goes on by a node.
use Rattle.std.proofs.Common.{◌≡◌, ◌+◌, arith, subst, ap, ◌∙◌}
use Rattle.ip_trie.specs.Cells.{digit, leaf_at, no_leaf}
use Rattle.ip_trie.specs.declared.cells.Leaf.{Leaf}
use Rattle.ip_trie.specs.steps.Growing.{GrowsCells}
use Rattle.ip_trie.proofs.Bits.{level-within}
use Rattle.ip_trie.proofs.Grown.{way-more, way-room, way-start}
use Rattle.ip_trie.proofs.Lists.{any-default}
use Rattle.ip_trie.proofs.build.way.Goals as goal

pub loop-level-init : goal.loop-level-init
loop-level-init c = record {
  grown = way-start c.args.leaves.now c.args.v6 c.args.row c.args.cells.now.items c.requires.trie;
  room = let r = c.requires.room in omega (arith, r);
}

pub overflow_add-start : goal.overflow_add-start
overflow_add-start c =
    let r = way-room c.args.leaves.now c.args.v6 c.args.row c.loop-level.level c.loop-level.start c.loop-level.cells.items c.loop-level.invariant.grown in
    let i = c.loop-level.invariant.room in
    let m = c.requires.rows in
    let l = c.requires.row.0 in
    let last = c.requires.last in
    let w = level-within (leaf_at c.args.leaves.now c.args.row).len (c.requires.leaves.len c.args.row) in
    let d = c.digit_of.ensures.within in
    omega (arith, r, i, m, l, last, w, d)

pub grow-requires-clause-within : goal.grow-requires-clause-within
grow-requires-clause-within c =
    let r = way-room c.args.leaves.now c.args.v6 c.args.row c.loop-level.level c.loop-level.start c.loop-level.cells.items c.loop-level.invariant.grown in
    let d = c.digit_of.ensures.within in
    omega (arith, r, d)

pub grow-requires-clause-room : goal.grow-requires-clause-room
grow-requires-clause-room c =
    let i = c.loop-level.invariant.room in
    let m = c.requires.rows in
    let l = c.requires.row.0 in
    let last = c.requires.last in
    let w = level-within (leaf_at c.args.leaves.now c.args.row).len (c.requires.leaves.len c.args.row) in
    omega (arith, i, m, l, last, w)

pub loop-level-preserved : goal.loop-level-preserved
loop-level-preserved c =
    let leaves = c.args.leaves.now in
    let bits : c.digit_of.result ≡ digit c.loop-level.level (leaf_at leaves c.args.row).bits =
    c.digit_of.ensures.is ∙ ap (λ (e : Leaf). digit c.loop-level.level e.bits) (any-default leaves c.args.row _ no_leaf c.requires.row.0) in
    record {
      grown = way-more leaves c.args.v6 c.args.row c.loop-level.level c.loop-level.start c.in_ok-start.start c.loop-level.cells.items c.grow.new.cells.items c.requires.leaves c.requires.row (let l = c.requires.last in let t = c.loop-level-test.true in omega (arith, l, t)) c.loop-level.invariant.grown
          (subst (λ k. GrowsCells c.loop-level.cells.items (c.loop-level.start + k) c.grow.new.cells.items c.in_ok-start.start) bits c.in_ok-start.ensures.grows);
      room = let r = c.in_ok-start.ensures.room in let i = c.loop-level.invariant.room in omega (arith, r, i);
    }
