-- Value by value.
use Rattle.std.proofs.Common.{◌≡◌, ◌<◌, List, ap, arith, get_or, length, subst}
use Rattle.std.proofs.lemmas.Bool.Decides.{nat_tests}
use Rattle.dict_value.specs.declared.value.Value.{Value}
use Rattle.hashed_layout.proofs.KeyLemmas.{end-told, next-left}
use Rattle.hashed_layout.proofs.key_bytes.begins_with_key.Goals as goal

pub loop-value-preserved : goal.loop-value-preserved
loop-value-preserved c = λ more.
    let key = c.args.key.now in
    let i = c.loop-value.value-index in
    let v = c.value-item.result in
    let len = ap length c.as_slice-value-items.ensures in
    let within : i < length key = omega (arith, len) in
    let is : v ≡ get_or key i v = subst (λ (l : List Value). v ≡ get_or l i v) c.as_slice-value-items.ensures c.value-item.is in
    next-left c.args.bytes.now c.loop-value.rest.now c.in-Some.next.now more key i v within is c.in-Some.ensures (c.loop-value.invariant more)

pub returns-then-not-is_empty : goal.returns-then-not-is_empty
returns-then-not-is_empty c =
    let len = ap length c.as_slice-value-items.ensures in
    end-told c.args.bytes.now c.args.key.now c.loop-value.value-index (omega (arith, len)) c.loop-value.rest.now c.loop-value.invariant (grind (arith, nat_tests, c.if-not-is_empty.ensures))
