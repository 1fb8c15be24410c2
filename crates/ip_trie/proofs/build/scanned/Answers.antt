-- The first four levels.
use Rattle.std.proofs.Common.{◌≡◌, ◌≢◌, ◌+◌, ◌-◌, ◌<◌, ◌^◌, get_or, inl, inr, refl, arith, sym, ◌∙◌, ap, subst}
use Rattle.ip_trie.specs.Cells.{EndsAbove, TellsBest, blank, digit, node}
use Rattle.ip_trie.proofs.Nodes.{node-none, node-past}
use Rattle.ip_trie.proofs.Scans.{ended, step-node, step-row}
use Rattle.ip_trie.proofs.Tells.{tells-above, tells-none}
use Rattle.ip_trie.proofs.build.scanned.Goals as goal

pub loop-level-init : goal.loop-level-init
loop-level-init c = record {
  room = λ some. c.requires.size;
  within = λ some. inl refl;
  told = λ leaves v6 sound t. (sym (node-none c.args.cells.now c.args.bits), tells-none leaves v6 c.args.bits);
}

pub returns-then-next-eq0-clause-told : goal.returns-then-next-eq0-clause-told
returns-then-next-eq0-clause-told c = λ leaves v6 sound t.
    let cells = c.args.cells.now in
    let l = c.loop-level.level in
    let small : c.args.bits < 2 ^ 128 = omega arith in
    let less : l < 4 = c.loop-level-test.true in
    let told = c.loop-level.invariant.told leaves v6 sound t in
    let none : node cells c.args.bits l ≡ 0 = sym told.0 ∙ c.if-next-eq0.true in
    let e : l + (4 - l) ≡ 4 = omega (arith, less) in
    let past : node cells c.args.bits 4 ≡ 0 = subst (λ k. node cells c.args.bits k ≡ 0) e (node-past cells c.args.bits l (4 - l) none) in
    (c.if-next-eq0.true ∙ sym past, tells-above leaves v6 c.args.bits l 4 c.loop-level.row (omega (arith, less)) (ended leaves v6 cells sound t c.args.bits small l (omega (arith, less)) none) told.1)

pub loop-level-preserved : goal.loop-level-preserved
loop-level-preserved c =
    let cells = c.args.cells.now in
    let l = c.loop-level.level in
    let less : l < 4 = c.loop-level-test.true in
    let small : c.args.bits < 2 ^ 128 = omega arith in
    record {
      room = λ some. c.requires.closed.nexts (c.loop-level.next + c.digit_of.result) (omega (arith, some));
      within = λ some. inr (c.loop-level.next + c.digit_of.result, refl);
      told = λ leaves v6 sound t.
          let told = c.loop-level.invariant.told leaves v6 sound t in
          let there : node cells c.args.bits l ≢ 0 = λ z. c.if-next-eq0.false (told.0 ∙ z) in
          let at : node cells c.args.bits l + digit l c.args.bits ≡ c.loop-level.next + c.digit_of.result = let a = told.0 in let b = c.digit_of.ensures.is in omega (arith, a, b) in
          let read = ap (λ k. get_or cells k blank) at in (
            step-node leaves v6 cells sound t c.args.bits small l _ there read,
            step-row leaves v6 cells sound t c.args.bits small l c.loop-level.row c.better-row.result _ (omega (arith, less)) there read c.better-row.ensures.kept c.better-row.ensures.new told.1,
          );
    }

pub returns-clause-told : goal.returns-clause-told
returns-clause-told c = λ leaves v6 sound t.
    let told = c.loop-level.invariant.told leaves v6 sound t in
    let e : c.loop-level.level ≡ 4 = omega arith in
    (told.0 ∙ ap (node c.args.cells.now c.args.bits) e, subst (λ k. TellsBest leaves (EndsAbove leaves v6 k c.args.bits) c.loop-level.row) e told.1)
