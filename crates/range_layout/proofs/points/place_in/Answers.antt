-- A search by halves finds what is there.
use Rattle.std.proofs.Common.{Err, inl, inr, arith}
use Rattle.std.proofs.lemmas.Bool.{cases_lt}
use Rattle.std.proofs.lemmas.List.Sorted.{searched}
use Rattle.range_layout.proofs.Rising.{place-of, rises-no_less}
use Rattle.range_layout.proofs.points.place_in.Goals as goal

pub unreachable-requires : goal.unreachable-requires
unreachable-requires c =
    let numbers = c.args.numbers.now in
    let s = searched numbers c.args.number (Err c.in-Err.field-0) c.in-Err.ensures.position (rises-no_less numbers c.requires.rises) in
    let at = place-of numbers c.args.number c.requires.there in
    elim (cases_lt at.0 c.in-Err.field-0) [
      | inl before ↦ let u = s.1 at.0 before in let e = at.2 in omega (arith, u, e)
      | inr behind ↦ let u = s.2 at.0 behind at.1 in let e = at.2 in omega (arith, u, e)
    ]
