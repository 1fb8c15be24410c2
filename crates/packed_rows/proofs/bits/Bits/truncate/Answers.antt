use Rattle.std.proofs.Common.{◌≤◌, ◌∙◌, length, take, ap, arith}
use Rattle.std.proofs.lemmas.List.{length-take-le}
use Rattle.packed_rows.specs.Bits.{BitList, bits_in}
use Rattle.packed_rows.proofs.BitLists.{bits-cut, length-bits}
use Rattle.packed_rows.proofs.bits.Bits.truncate.Goals as goal

pub invariant_of-self : goal.invariant_of-self
invariant_of-self c =
    let count = length-bits c.self.inside.bytes.items c.self.inside.count in
    let is = ap (λ (bits : BitList). length bits) c.self.view_is in
    let within : c.bytes_for.result ≤ length c.self.inside.bytes.items = omega (arith, c.requires, c.self.invariant, count, is, c.bytes_for.ensures) in
    rw c.truncate.ensures.items (length-take-le c.bytes_for.result c.self.inside.bytes.items within ∙ c.bytes_for.ensures)

pub returns : goal.returns
returns c =
    let count = length-bits c.self.inside.bytes.items c.self.inside.count in
    let is = ap (λ (bits : BitList). length bits) c.self.view_is in
    ap (λ bytes. bits_in bytes c.args.count) c.truncate.ensures.items
    ∙ (bits-cut c.self.inside.bytes.items c.self.inside.count c.args.count c.bytes_for.result (omega (arith, c.requires, count, is)) c.bytes_for.ensures
    ∙ ap (λ (bits : BitList). take c.args.count bits) c.self.view_is)
