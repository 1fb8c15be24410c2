-- The best of the family's rows.
use Rattle.std.proofs.Common.{◌≡◌, ◌⊎◌, ◌*◌, ◌%◌, ◌^◌, true, false, arith, subst, sym}
use Rattle.ip_trie.specs.Cells.{HasBits, Shares, TellsBest}
use Rattle.ip_trie.proofs.RowPrefixes.{IsBits, found-none, found-some, in-common, long, short}
use Rattle.ip_trie.proofs.trie.Trie.best_for.Goals as goal

pub returns-in-V4-clause-none : goal.returns-in-V4-clause-none
returns-in-V4-clause-none g c = λ texts are z.
    let n = c.in-V4.bits in
    let b : c.from.result * 2 ^ 96 % 2 ^ 128 ≡ n * 2 ^ 96 = (let e = c.from.ensures in omega (arith, e)) in
    let of : IsBits c.args.address.now false (n * 2 ^ 96) = subst (λ a. IsBits a false (n * 2 ^ 96)) (sym c.in-V4.is) (short n) in
    found-none texts c.args.self.now.leaves are.read c.args.address.now false (n * 2 ^ 96) of (subst (TellsBest c.args.self.now.leaves (HasBits c.args.self.now.leaves false (n * 2 ^ 96))) z (subst (λ k. TellsBest c.args.self.now.leaves (HasBits c.args.self.now.leaves false k) c.found_in.result) b (c.found_in.ensures.found false are.v4)))

pub returns-in-V4-clause-some : goal.returns-in-V4-clause-some
returns-in-V4-clause-some g c = λ texts are some.
    let n = c.in-V4.bits in
    let b : c.from.result * 2 ^ 96 % 2 ^ 128 ≡ n * 2 ^ 96 = (let e = c.from.ensures in omega (arith, e)) in
    let of : IsBits c.args.address.now false (n * 2 ^ 96) = subst (λ a. IsBits a false (n * 2 ^ 96)) (sym c.in-V4.is) (short n) in
    found-some texts c.args.self.now.leaves are.read c.args.address.now false (n * 2 ^ 96) of c.found_in.result some (subst (λ k. TellsBest c.args.self.now.leaves (HasBits c.args.self.now.leaves false k) c.found_in.result) b (c.found_in.ensures.found false are.v4))

pub returns-in-V4-clause-steps : goal.returns-in-V4-clause-steps
returns-in-V4-clause-steps g c = λ texts are.
    let n = c.in-V4.bits in
    let b : c.from.result * 2 ^ 96 % 2 ^ 128 ≡ n * 2 ^ 96 = (let e = c.from.ensures in omega (arith, e)) in
    let of : IsBits c.args.address.now false (n * 2 ^ 96) = subst (λ a. IsBits a false (n * 2 ^ 96)) (sym c.in-V4.is) (short n) in
    let s = c.found_in.ensures.steps false are.v4 in
    (s.0, in-common texts c.args.self.now.leaves are.read c.args.address.now false (n * 2 ^ 96) of s.0 (subst (λ k. (s.0 ≡ 0) ⊎ Shares c.args.self.now.leaves false k s.0) b s.1), s.2)

pub returns-in-V6-clause-none : goal.returns-in-V6-clause-none
returns-in-V6-clause-none g c = λ texts are z.
    let n = c.in-V6.bits in
    let of : IsBits c.args.address.now true n = subst (λ a. IsBits a true n) (sym c.in-V6.is) (long n) in
    found-none texts c.args.self.now.leaves are.read c.args.address.now true n of (subst (TellsBest c.args.self.now.leaves (HasBits c.args.self.now.leaves true n)) z (c.found_in-in-V6.ensures.found true are.v6))

pub returns-in-V6-clause-some : goal.returns-in-V6-clause-some
returns-in-V6-clause-some g c = λ texts are some.
    let n = c.in-V6.bits in
    let of : IsBits c.args.address.now true n = subst (λ a. IsBits a true n) (sym c.in-V6.is) (long n) in
    found-some texts c.args.self.now.leaves are.read c.args.address.now true n of c.found_in-in-V6.result some (c.found_in-in-V6.ensures.found true are.v6)

pub returns-in-V6-clause-steps : goal.returns-in-V6-clause-steps
returns-in-V6-clause-steps g c = λ texts are.
    let n = c.in-V6.bits in
    let of : IsBits c.args.address.now true n = subst (λ a. IsBits a true n) (sym c.in-V6.is) (long n) in
    let s = c.found_in-in-V6.ensures.steps true are.v6 in
    (s.0, in-common texts c.args.self.now.leaves are.read c.args.address.now true n of s.0 s.1, s.2)
