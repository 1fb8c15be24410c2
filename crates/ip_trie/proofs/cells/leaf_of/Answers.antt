-- The bits past the length are cleared.
use Rattle.std.proofs.Common.{◌≡◌, ◌≤◌, ◌%◌, ◌-◌, ◌^◌, ◌<◌, cond, ap, subst}
use Rattle.dict_value.specs.Addresses.{prefix_width}
use Rattle.ip_trie.proofs.Bits.{cleared-short}
use Rattle.ip_trie.proofs.cells.leaf_of.Goals as goal

pub returns-else-prefix-clause-cleared : goal.returns-else-prefix-clause-cleared
returns-else-prefix-clause-cleared c =
    let p = c.args.prefix in
    let width : prefix_width p ≡ 32 = ap (λ b. cond b 128 32) c.if-prefix.false in
    cleared-short p.bits p.len (subst (λ k. p.len ≤ k) width c.requires.len) (subst (λ k. p.bits < 2 ^ k) width c.requires.bits) (subst (λ k. p.bits % 2 ^ (k - p.len) ≡ 0) width c.requires.cleared)
