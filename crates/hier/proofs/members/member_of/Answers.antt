-- A search by halves in a rising list.
use Rattle.std.proofs.Common.{Err, inl, inr, arith}
use Rattle.std.proofs.lemmas.Bool.{cases_lt}
use Rattle.std.proofs.lemmas.List.Sorted.{searched}
use Rattle.hier.proofs.Lists.{contains-at, rises-no_less}
use Rattle.hier.proofs.members.member_of.Goals as goal

pub returns-in-Err-clause-none : goal.returns-in-Err-clause-none
returns-in-Err-clause-none c = λ rises has.
    let members = c.args.members.now in
    let s = searched members c.args.key (Err c.in-Err.field-0) c.in-Err.ensures.position (rises-no_less members rises) in
    let at = contains-at members c.args.key has in
    elim (cases_lt at.0 c.in-Err.field-0) [
      | inl before ↦ let u = s.1 at.0 before in let e = at.2 in omega (arith, u, e)
      | inr behind ↦ let u = s.2 at.0 behind at.1 in let e = at.2 in omega (arith, u, e)
    ]
