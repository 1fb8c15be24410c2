-- The cell of the table, and a cell of each level.
use Rattle.std.proofs.Common.{◌≡◌, ◌≢◌, ◌+◌, ◌<◌, ◌≤◌, arith, subst, sym, ap, ◌∙◌}
use Rattle.ip_trie.specs.Cells.{IsOfFamily, digit, leaf_at, level_of, next_at, no_leaf, node, top}
use Rattle.ip_trie.specs.declared.cells.Leaf.{Leaf}
use Rattle.ip_trie.proofs.Joined.{AreJoined, bucket-joined, level-joined, way-joined}
use Rattle.ip_trie.proofs.Lists.{any-default, same-bool}
use Rattle.ip_trie.proofs.Nodes.{node-next, node-sound}
use Rattle.ip_trie.proofs.prune.join_way.Goals as goal

pub loop-level-init : goal.loop-level-init
loop-level-init c =
    let leaves = c.args.leaves.now in
    let cells = c.args.cells.now in
    let row = c.args.row in
    let t = c.requires.filled.trie in
    let bits = (leaf_at leaves row).bits in
    let e = any-default leaves row _ no_leaf c.requires.row in
    let inside : IsOfFamily leaves c.args.v6 row = (c.requires.row, sym (ap (λ (x : Leaf). x.v6) e) ∙ same-bool _ _ c.if-leaf-v6.false) in
    let last : c.level_of-last.result ≡ level_of (leaf_at leaves row).len = c.level_of-last.ensures.is ∙ ap (λ (x : Leaf). level_of x.len) e in
    let most : 4 ≤ c.level_of-last.result = c.if-last-lt4.false in
    let deep : 4 ≤ level_of (leaf_at leaves row).len = omega (arith, last, most) in
    let at : c.bucket_of-bucket.result ≡ top 16 bits = c.bucket_of-bucket.ensures.is ∙ ap (λ (x : Leaf). top 16 x.bits) e in
    let here : next_at cells c.bucket_of-bucket.result ≡ node cells bits 4 = (c.requires.filled.table c.bucket_of-bucket.result c.bucket_of-bucket.ensures.within bits (c.requires.leaves.small row) (sym at)).0 in
    let far = node-sound cells t.size t.nexts bits 4 (t.paths row 4 c.requires.row inside deep) in
    let room = far.2 in
    record {
      room = omega (arith, here, room);
      here = here;
      joined = bucket-joined leaves c.args.v6 cells row c.bucket_of-bucket.result c.args.below.now.items c.join.new.below.items c.join.ensures at inside deep c.requires.below;
    }

pub loop-level-preserved : goal.loop-level-preserved
loop-level-preserved c =
    let leaves = c.args.leaves.now in
    let cells = c.args.cells.now in
    let row = c.args.row in
    let t = c.requires.filled.trie in
    let bits = (leaf_at leaves row).bits in
    let level = c.loop-level.level in
    let i = c.loop-level.invariant in
    let e = any-default leaves row _ no_leaf c.requires.row in
    let inside : IsOfFamily leaves c.args.v6 row = (c.requires.row, sym (ap (λ (x : Leaf). x.v6) e) ∙ same-bool _ _ c.if-leaf-v6.false) in
    let last : c.level_of-last.result ≡ level_of (leaf_at leaves row).len = c.level_of-last.ensures.is ∙ ap (λ (x : Leaf). level_of x.len) e in
    let less : level < c.level_of-last.result = c.loop-level-test.true in
    let low : 4 ≤ level = c.loop-level.auto.level in
    let short : level < level_of (leaf_at leaves row).len = omega (arith, last, less) in
    let d : c.digit_of.result ≡ digit level bits = c.digit_of.ensures.is ∙ ap (λ (x : Leaf). digit level x.bits) e in
    let at : c.loop-level.start + c.digit_of.result ≡ node cells bits level + digit level bits = let h = i.here in omega (arith, h, d) in
    let there : node cells bits level ≢ 0 = t.paths row level c.requires.row inside (omega (arith, short)) in
    let here : next_at cells (c.loop-level.start + c.digit_of.result) ≡ node cells bits (level + 1) = ap (next_at cells) at ∙ sym (node-next cells bits level there) in
    let far = node-sound cells t.size t.nexts bits (level + 1) (t.paths row (level + 1) c.requires.row inside (omega (arith, short))) in
    let room = far.2 in
    record {
      room = omega (arith, here, room);
      here = here;
      joined = level-joined leaves c.args.v6 cells row level (c.loop-level.start + c.digit_of.result) c.loop-level.below.items c.join-in-loop-level.new.below.items c.join-in-loop-level.ensures at inside low short i.joined;
    }

pub returns : goal.returns
returns c =
    let leaves = c.args.leaves.now in
    let e = any-default leaves c.args.row _ no_leaf c.requires.row in
    let last : c.level_of-last.result ≡ level_of (leaf_at leaves c.args.row).len = c.level_of-last.ensures.is ∙ ap (λ (x : Leaf). level_of x.len) e in
    let most : 4 ≤ c.level_of-last.result = c.if-last-lt4.false in
    let past = c.loop-level-test.false in
    let bound = c.loop-level.auto in
    let end : c.loop-level.level ≡ c.level_of-last.result = omega (arith, past, most) in
    way-joined leaves c.args.v6 c.args.cells.now c.args.row c.loop-level.below.items
    (subst (λ k. AreJoined leaves c.args.v6 c.args.cells.now c.args.row k c.loop-level.below.items) (end ∙ last) c.loop-level.invariant.joined)
