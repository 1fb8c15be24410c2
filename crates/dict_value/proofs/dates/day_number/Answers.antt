-- `jiff` has the date exactly where the calendar has it.
use Rattle.std.proofs.Common.{◌≡◌, pos, w8, w16, w32, Some, ap, refl, ◌∙◌, arith}
use Rattle.std.proofs.lemmas.Int.{ints, to_z_pos, to_z-of_z}
use Rattle.jiff_core.specs.Calendar.{days_from_civil, IsDate}
use Rattle.jiff_core.specs.Date.{epoch_day}
use Rattle.dict_value.proofs.CivilDays.{civil_true}
use Rattle.dict_value.proofs.dates.day_number.Goals as goal

pub returns-in-Ok : goal.returns-in-Ok
returns-in-Ok c =
    let year = to_z_pos w16 c.args.year (omega arith) in
    let month = to_z_pos w8 c.args.month (omega arith) in
    let day = to_z_pos w8 c.args.day (omega arith) in
    let raw = c.in-Ok.ensures.succeeds.0 refl in
    let date : IsDate (pos c.args.year) (pos c.args.month) (pos c.args.day) = simp (year, month, day) at raw in
    let value = c.in-Ok.ensures.value in
    let y : c.in-Ok.date.year ≡ pos c.args.year = value.0 ∙ year in
    let m : c.in-Ok.date.month ≡ c.args.month = omega (arith, ints, value.1) in
    let d : c.in-Ok.date.day ≡ c.args.day = omega (arith, ints, value.2) in
    let number : c.to_unix_epoch_day.result ≡ days_from_civil (pos c.args.year) c.args.month c.args.day =
    c.to_unix_epoch_day.ensures.value ∙ ap epoch_day c.to_plain.ensures ∙ (λ i. days_from_civil (y i) (m i) (d i)) in
    rw (civil_true c.args.year c.args.month c.args.day date)
    (ap Some (to_z-of_z w32 c.to_unix_epoch_day.result (omega (arith, ints)) ∙ number))
