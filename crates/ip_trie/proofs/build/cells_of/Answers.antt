-- From the empty trie to that of all rows, its table, and the rows in place of nodes.
use Rattle.std.proofs.Common.{◌≡◌, List, length, inr, arith, subst, sym}
use Rattle.ip_trie.specs.Below.{AreBelow}
use Rattle.ip_trie.specs.Cells.{IsTrie}
use Rattle.ip_trie.specs.Kept.{IsWholeTrie}
use Rattle.ip_trie.specs.declared.cells.Cell.{Cell}
use Rattle.ip_trie.proofs.Pruned.{below-within, cut-pruned, pruned-safe}
use Rattle.ip_trie.proofs.Scans.{empty-trie}
use Rattle.ip_trie.proofs.build.cells_of.Goals as goal

pub loop-row-init : goal.loop-row-init
loop-row-init c = record {
  trie = empty-trie c.args.leaves.now c.args.v6 c.in_ok-cells.cells.items c.in_ok-cells.ensures.len c.in_ok-cells.ensures.next c.in_ok-cells.ensures.row;
  room = let l = c.in_ok-cells.ensures.len in omega (arith, l);
}

pub rows_below-requires-clause-filled : goal.rows_below-requires-clause-filled
rows_below-requires-clause-filled c =
    let leaves = c.args.leaves.now in
    let e : c.loop-row.row ≡ length leaves = omega arith in
    subst (IsWholeTrie leaves c.args.v6) (sym c.as_slice.ensures.value) (c.fill_table.ensures leaves c.args.v6 c.requires.leaves (subst (λ n. IsTrie leaves c.args.v6 n c.loop-row.cells.items) e c.loop-row.invariant.trie))

pub cut_all-requires-clause-rows : goal.cut_all-requires-clause-rows
cut_all-requires-clause-rows c =
    let below = subst (AreBelow c.args.leaves.now c.args.v6 c.as_slice.result.now (length c.args.leaves.now)) (sym c.as_slice-2.ensures.value) c.in_ok-below.ensures in
    below-within c.args.leaves.now c.args.v6 c.as_slice.result.now (length c.args.leaves.now) c.as_slice-2.result.now c.requires.rows below

pub returns-clause-cells : goal.returns-clause-cells
returns-clause-cells c =
    let leaves = c.args.leaves.now in
    let whole = c.fill_table.new.cells.items in
    let e : c.loop-row.row ≡ length leaves = omega arith in
    let filled = c.fill_table.ensures leaves c.args.v6 c.requires.leaves (subst (λ n. IsTrie leaves c.args.v6 n c.loop-row.cells.items) e c.loop-row.invariant.trie) in
    let below = subst (AreBelow leaves c.args.v6 c.as_slice.result.now (length leaves)) (sym c.as_slice-2.ensures.value) c.in_ok-below.ensures in
    inr (whole, filled, cut-pruned leaves c.args.v6 whole c.cut_all.new.cells.items c.as_slice-2.result.now (subst (λ (z : List Cell). AreBelow leaves c.args.v6 z (length leaves) c.as_slice-2.result.now) c.as_slice.ensures.value below) c.cut_all.ensures)

pub returns-clause-safe : goal.returns-clause-safe
returns-clause-safe c =
    let leaves = c.args.leaves.now in
    let whole = c.fill_table.new.cells.items in
    let e : c.loop-row.row ≡ length leaves = omega arith in
    let filled = c.fill_table.ensures leaves c.args.v6 c.requires.leaves (subst (λ n. IsTrie leaves c.args.v6 n c.loop-row.cells.items) e c.loop-row.invariant.trie) in
    let below = subst (AreBelow leaves c.args.v6 c.as_slice.result.now (length leaves)) (sym c.as_slice-2.ensures.value) c.in_ok-below.ensures in
    pruned-safe leaves c.args.v6 (length leaves) whole c.cut_all.new.cells.items filled.trie (cut-pruned leaves c.args.v6 whole c.cut_all.new.cells.items c.as_slice-2.result.now (subst (λ (z : List Cell). AreBelow leaves c.args.v6 z (length leaves) c.as_slice-2.result.now) c.as_slice.ensures.value below) c.cut_all.ensures)
