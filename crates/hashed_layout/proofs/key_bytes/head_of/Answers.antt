-- Sixteen digits are all of a number of 128 bits.
use Rattle.std.proofs.Common.{◌∷◌, ◌<◌, ◌^◌, ◌∙◌, ap, arith, length}
use Rattle.hashed_layout.specs.KeyBytes.{digits_of, magnitude_of}
use Rattle.hashed_layout.proofs.KeyLemmas.{digits-all}
use Rattle.hashed_layout.proofs.key_bytes.head_of.Goals as goal

pub returns-clause-bytes : goal.returns-clause-bytes
returns-clause-bytes c =
    let n = c.kind_and_number-kind.result.1 in
    let k = c.kind_and_number-kind.result.0 in
    let small : n < 256 ^ 16 = omega (arith, c.kind_and_number-kind.type_inv) in
    c.head_from.ensures.bytes ∙ ap (λ ds. k ∷ length ds ∷ ds) (digits-all 16 n small)
    ∙ ap (λ m. k ∷ length (digits_of m) ∷ digits_of m) c.kind_and_number-kind.ensures.number
    ∙ ap (λ m. m ∷ length (digits_of (magnitude_of c.args.value.now)) ∷ digits_of (magnitude_of c.args.value.now)) c.kind_and_number-kind.ensures.kind
