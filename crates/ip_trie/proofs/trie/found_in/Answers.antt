-- A step for each level, and one for the only row below.
use Rattle.std.proofs.Common.{◌≡◌, ◌≢◌, ◌+◌, ◌-◌, ◌*◌, ◌%◌, ◌<◌, ◌≤◌, ◌^◌, get_or, inl, inr, refl, arith, sym, ◌∙◌, ap, subst, rules}
use Rattle.ip_trie.specs.Below.{IsPrunedNext}
use Rattle.ip_trie.specs.Cells.{EndsAbove, TellsBest, blank, digit, next_at, node, cell_row}
use Rattle.ip_trie.specs.declared.cells.Cell.{Cell}
use Rattle.ip_trie.proofs.Pruned.{follows-bucket, follows-cell, follows-node, follows-row, tells-last, whole-of}
use Rattle.ip_trie.proofs.Scans.{cell-read, ended, ended-all, next-shared, step-row}
use Rattle.ip_trie.proofs.Tells.{tells-all}
use Rattle.ip_trie.proofs.trie.found_in.Goals as goal

pub loop-level-init : goal.loop-level-init
loop-level-init g c =
    let cells = c.args.cells.now in
    let leaves = c.args.leaves.now in
    let bits = c.args.bits in
    let at = c.bucket_of.result in
    let small : bits < 2 ^ 128 = omega arith in
    let read = cell-read cells at c.at-cell.result c.at-cell.ensures.item in
    let next : next_at cells at ≡ c.at-cell.result.next = ap (λ (e : Cell). e.next) read in
    record {
      nodes = λ some below. let n = c.requires.safe.nodes at (λ z. some (sym next ∙ z)) (λ z. below (ap (λ k. k % 16) (sym next) ∙ z)) in omega (arith, n, next);
      rows = λ row is. c.requires.safe.rows at row (next ∙ is);
      told = λ v6 whole filled pruned.
          let first = sym c.bucket_of.ensures.is in
          let bucket = filled.table at c.bucket_of.ensures.within bits small first in (
            follows-bucket leaves v6 whole c.requires.leaves filled bits small at c.at-cell.result.next c.bucket_of.ensures.within first (subst (IsPrunedNext leaves v6 whole at) next (pruned.nexts at)),
            subst (TellsBest leaves (EndsAbove leaves v6 4 bits)) (sym (pruned.rows at) ∙ ap (λ (e : Cell). e.row) read) bucket.1,
          );
      steps = c.at-cell.ensures.bound;
      shares = λ v6 whole filled pruned. inl refl;
    }

pub returns-in-Nothing-clause-found : goal.returns-in-Nothing-clause-found
returns-in-Nothing-clause-found g c = λ v6 are.
    let leaves = c.args.leaves.now in
    let l = c.loop-level.level in
    let small : c.args.bits < 2 ^ 128 = omega arith in
    let w = whole-of leaves v6 c.args.cells.now (λ none. (let t = c.if-is_empty.ensures.1 none in search rules)) are in
    let told = c.loop-level.invariant.told v6 w.0 w.1 w.2 in
    let less : l < 32 = c.loop-level-test.true in
    let none : c.loop-level.cell.next ≡ 0 = c.in-Nothing.ensures in
    let node_is = follows-node leaves v6 w.0 c.requires.leaves w.1 c.args.bits small l c.loop-level.cell.next (λ one. omega (arith, one, none)) told.0 in
    tells-all leaves v6 c.args.bits l c.loop-level.best (ended leaves v6 w.0 c.requires.leaves w.1.trie c.args.bits small l (omega (arith, less)) (sym node_is ∙ none)) told.1

pub returns-in-Nothing-clause-steps : goal.returns-in-Nothing-clause-steps
returns-in-Nothing-clause-steps g c = λ v6 are.
    let w = whole-of c.args.leaves.now v6 c.args.cells.now (λ none. (let t = c.if-is_empty.ensures.1 none in search rules)) are in
    let s = c.loop-level.invariant.steps in
    let low = c.loop-level.auto.level in
    elim (c.loop-level.invariant.shares v6 w.0 w.1 w.2) [
      | inl first ↦ (0, inl refl, omega (arith, s, first))
      | inr more ↦ (4 * (c.loop-level.level - 1), inr more, omega (arith, s, low))
    ]

pub last_of-requires-clause-row : goal.last_of-requires-clause-row
last_of-requires-clause-row g c = c.loop-level.invariant.rows c.in-Row.row c.in-Row.ensures

pub returns-in-Row-clause-found : goal.returns-in-Row-clause-found
returns-in-Row-clause-found g c = λ v6 are.
    let leaves = c.args.leaves.now in
    let l = c.loop-level.level in
    let small : c.args.bits < 2 ^ 128 = omega arith in
    let w = whole-of leaves v6 c.args.cells.now (λ none. (let t = c.if-is_empty.ensures.1 none in search rules)) are in
    let told = c.loop-level.invariant.told v6 w.0 w.1 w.2 in
    let row = follows-row leaves v6 w.0 c.requires.leaves w.1 c.args.bits small l c.loop-level.cell.next c.in-Row.row c.in-Row.ensures told.0 in
    tells-last leaves v6 w.0 c.requires.leaves w.1 c.args.bits small l c.in-Row.row c.loop-level.best c.last_of.result row.1 c.last_of.ensures.last told.1

pub returns-in-Row-clause-steps : goal.returns-in-Row-clause-steps
returns-in-Row-clause-steps g c = λ v6 are.
    let leaves = c.args.leaves.now in
    let l = c.loop-level.level in
    let small : c.args.bits < 2 ^ 128 = omega arith in
    let less : l < 32 = c.loop-level-test.true in
    let low : 4 ≤ l = c.loop-level.auto.level in
    let w = whole-of leaves v6 c.args.cells.now (λ none. (let t = c.if-is_empty.ensures.1 none in search rules)) are in
    let told = c.loop-level.invariant.told v6 w.0 w.1 w.2 in
    let row = follows-row leaves v6 w.0 c.requires.leaves w.1 c.args.bits small l c.loop-level.cell.next c.in-Row.row c.in-Row.ensures told.0 in
    let s = c.loop-level.invariant.steps in
    let more = c.last_of.ensures.step in
    (4 * (l + 1 - 1), inr (next-shared leaves v6 _ w.0 w.1.trie c.args.bits l small (omega (arith, low)) less row.0), omega (arith, s, more, low))

pub loop-level-preserved : goal.loop-level-preserved
loop-level-preserved g c =
    let cells = c.args.cells.now in
    let leaves = c.args.leaves.now in
    let bits = c.args.bits in
    let l = c.loop-level.level in
    let i = c.loop-level.invariant in
    let at = c.in-Node.start + c.digit_of.result in
    let small : bits < 2 ^ 128 = omega arith in
    let less : l < 32 = c.loop-level-test.true in
    let low : 4 ≤ l = c.loop-level.auto.level in
    let below = c.in-Node.ensures in
    let read = cell-read cells at c.at-cell-in-Node.result c.at-cell-in-Node.ensures.item in
    let next : next_at cells at ≡ c.at-cell-in-Node.result.next = ap (λ (e : Cell). e.next) read in
    record {
      nodes = λ some b. let n = c.requires.safe.nodes at (λ z. some (sym next ∙ z)) (λ z. b (ap (λ k. k % 16) (sym next) ∙ z)) in omega (arith, n, next);
      rows = λ row is. c.requires.safe.rows at row (next ∙ is);
      told = λ v6 whole filled pruned.
          let told = i.told v6 whole filled pruned in
          let node_is = follows-node leaves v6 whole c.requires.leaves filled bits small l c.loop-level.cell.next below.1 told.0 in
          let there : node whole bits l ≢ 0 = λ z. below.0 (node_is ∙ z) in
          let here : node whole bits l + digit l bits ≡ at = let d = c.digit_of.ensures.is in let s = below.2 in omega (arith, node_is, d, s) in
          let row : c.at-cell-in-Node.result.row ≡ cell_row whole (node whole bits l + digit l bits) = sym (ap (λ (e : Cell). e.row) read) ∙ (pruned.rows at ∙ ap (cell_row whole) (sym here)) in (
            follows-cell leaves v6 whole c.requires.leaves filled bits small l at c.at-cell-in-Node.result.next low less there here (subst (IsPrunedNext leaves v6 whole at) next (pruned.nexts at)),
            step-row leaves v6 whole c.requires.leaves filled.trie bits small l c.loop-level.best c.better-best.result (get_or whole (node whole bits l + digit l bits) blank) less there refl (λ z. c.better-best.ensures.kept (row ∙ z)) (λ some. c.better-best.ensures.new (λ z. some (sym row ∙ z)) ∙ row) told.1,
          );
      steps = let s = i.steps in let b = c.at-cell-in-Node.ensures.bound in omega (arith, s, b, low);
      shares = λ v6 whole filled pruned.
          let told = i.told v6 whole filled pruned in
          let node_is = follows-node leaves v6 whole c.requires.leaves filled bits small l c.loop-level.cell.next below.1 told.0 in
          inr (next-shared leaves v6 _ whole filled.trie bits l small (omega (arith, low)) less (λ z. below.0 (node_is ∙ z)));
    }

pub returns-clause-found : goal.returns-clause-found
returns-clause-found g c = λ v6 are.
    let leaves = c.args.leaves.now in
    let small : c.args.bits < 2 ^ 128 = omega arith in
    let w = whole-of leaves v6 c.args.cells.now (λ none. (let t = c.if-is_empty.ensures.1 none in search rules)) are in
    let told = c.loop-level.invariant.told v6 w.0 w.1 w.2 in
    let e : c.loop-level.level ≡ 32 = omega arith in
    tells-all leaves v6 c.args.bits 32 c.loop-level.best (ended-all leaves v6 w.0 c.requires.leaves w.1.trie c.args.bits small) (subst (λ k. TellsBest leaves (EndsAbove leaves v6 k c.args.bits) c.loop-level.best) e told.1)

pub returns-clause-steps : goal.returns-clause-steps
returns-clause-steps g c = λ v6 are.
    let w = whole-of c.args.leaves.now v6 c.args.cells.now (λ none. (let t = c.if-is_empty.ensures.1 none in search rules)) are in
    let s = c.loop-level.invariant.steps in
    let low = c.loop-level.auto.level in
    elim (c.loop-level.invariant.shares v6 w.0 w.1 w.2) [
      | inl first ↦ (0, inl refl, omega (arith, s, first))
      | inr more ↦ (4 * (c.loop-level.level - 1), inr more, omega (arith, s, low))
    ]
