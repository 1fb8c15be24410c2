-- The date that has this number.
use Rattle.std.proofs.Common.{◌≡◌, pos, w16, FitsSigned, unsigned_abs, ap, ◌∙◌, arith}
use Rattle.std.proofs.lemmas.Int.{ints, to_z-of_z}
use Rattle.jiff_core.specs.Calendar.{days_from_civil}
use Rattle.jiff_core.proofs.SignedLemmas.{signed_arith}
use Rattle.dict_value.specs.Dates.{civil}
use Rattle.dict_value.proofs.CivilDays.{civil_of_date}
use Rattle.dict_value.proofs.dates.civil_at.Goals as goal

pub returns-clause-civil : goal.returns-clause-civil
returns-clause-civil c =
    let date = c.in-Ok.date in
    let number : days_from_civil date.year date.month date.day ≡ pos c.args.day = omega (arith, ints, c.in-Ok.ensures.value) in
    let found = civil_of_date date.year date.month date.day c.args.day (date.year_in, date.month_in, date.day_in) number (omega arith) in
    let fits : FitsSigned w16 date.year = omega (arith, signed_arith, found.1, found.2) in
    ap (λ y. civil y date.month date.day) (c.unsigned_abs.ensures.value ∙ ap unsigned_abs (to_z-of_z w16 date.year fits)) ∙ found.0
