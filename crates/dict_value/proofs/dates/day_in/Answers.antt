-- The last two places are digits.
use Rattle.std.proofs.Common.{sym, ◌∙◌}
use Rattle.dict_value.proofs.Digits.{both}
use Rattle.dict_value.proofs.dates.day_in.Goals as goal

pub short_number-day-requires-clause-digits : goal.short_number-day-requires-clause-digits
short_number-day-requires-clause-digits c = (both _ _ (sym c.has_date_form.ensures ∙ c.if-not-has_date_form.false)).1
