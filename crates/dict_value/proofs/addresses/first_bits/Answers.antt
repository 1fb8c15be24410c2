-- What is left after the remainder is a multiple.
use Rattle.std.proofs.Common.{◌≡◌, ℕ, ◌+◌, ◌-◌, ◌*◌, ◌/◌, ◌%◌, ◌^◌, ◌<◌, ap, ◌∙◌, arith}
use Rattle.std.proofs.lemmas.Nat.{mod-mul-add, div-add-mod', one_shl, pow_pos}
use Rattle.dict_value.proofs.addresses.first_bits.Goals as goal

multiple : (n m : ℕ) → 0 < m → (n - n % m) % m ≡ 0
multiple n m some =
    let whole : n - n % m ≡ n / m * m + 0 = omega (arith, div-add-mod' n m) in
    ap (λ k. k % m) whole ∙ mod-mul-add (n / m) m 0 some

pub returns-clause-cleared : goal.returns-clause-cleared
returns-clause-cleared c =
    let n = c.args.bits in
    let cleared = c.args.width - c.args.count in
    let shifted : 1 * 2 ^ c.from-cleared.result % 2 ^ 128 ≡ 2 ^ cleared =
    ap (λ k. 1 * 2 ^ k % 2 ^ 128) c.from-cleared.ensures ∙ one_shl cleared 128 (omega arith) in
    ap (λ m. (n - n % m) % 2 ^ cleared) shifted ∙ multiple n (2 ^ cleared) (pow_pos cleared)
