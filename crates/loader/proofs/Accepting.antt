-- What a load is judged to give doesn't rest on former rows that aren't kept.
use Rattle.std.proofs.Common.{◌≡◌, ℕ, zero, suc, List, length, Result, Ok, Err, refl, subst}
use Rattle.std.specs.Prelude.{ℤ, pos, negsuc, true, false}
use Rattle.child_io.specs.Gathers.{outcome_of}
use Rattle.child_io.specs.declared.child.Outcome.{Outcome}
use Rattle.child_io.specs.declared.child.Outcome.TheVariants as outcome
use Rattle.child_io.specs.declared.pieces.PieceEnd.{PieceEnd}
use Rattle.child_io.specs.declared.pieces.PieceEnd.TheVariants as piece_end
use Rattle.dict_schema.specs.declared.definition.Definition.{Definition}
use Rattle.dict_schema.specs.declared.definition.Update.{Update}
use Rattle.dict_schema.specs.declared.definition.Update.TheVariants as update
use Rattle.dict_value.specs.declared.fault.Cause.{Cause}
use Rattle.dict_value.specs.declared.fault.Cause.TheVariants as cause
use Rattle.dict_value.specs.declared.fault.Exit.TheVariants.{Code, Killed}
use Rattle.packed_rows.specs.Columns.{RowList}
use Rattle.loader.specs.Accepts.{Accepts, OutputGives, Lays, LaysTooLarge, Refuses, undecoded, untaken, too_large}
use Rattle.loader.specs.Loaders.{kept_rows}

-- with an update field the rows are kept
lays-kept : (u : Update) (keys : ℕ) (former whole fresh rows : RowList) → former ≡ kept_rows u whole → Lays u keys former fresh rows → Lays u keys whole fresh rows
lays-kept update.None keys former whole fresh rows e h = h
lays-kept (update.Field name lag) keys former whole fresh rows e h = subst (λ z. Lays (update.Field name lag) keys z fresh rows) e h

large-kept : (u : Update) (keys : ℕ) (former whole fresh : RowList) (why : Cause) → former ≡ kept_rows u whole → LaysTooLarge u keys former fresh why → LaysTooLarge u keys whole fresh why
large-kept update.None keys former whole fresh why e h = h
large-kept (update.Field name lag) keys former whole fresh why e h = subst (λ z. LaysTooLarge (update.Field name lag) keys z fresh why) e h

module _ (d : Definition) (former whole : RowList) (kept : former ≡ kept_rows d.source.update whole) where
  refuses-kept : (output : List ℕ) (why : Cause) → Refuses d former output why → Refuses d whole output why
  refuses-kept output why (undecoded h) = undecoded h
  refuses-kept output why (untaken rows decoded h) = untaken rows decoded h
  refuses-kept output why (too_large rows has h) = too_large rows has (large-kept d.source.update (length d.keys) former whole rows why kept h)

  gives-kept : (output : List ℕ) (given : Result RowList Cause) → OutputGives d former output given → OutputGives d whole output given
  gives-kept output (Ok rows) (fresh, has, laid) = (fresh, has, lays-kept d.source.update (length d.keys) former whole fresh rows kept laid)
  gives-kept output (Err why) h = refuses-kept output why h

  pub accepts-kept : (o : Outcome) (given : Result RowList Cause) → Accepts d former o given → Accepts d whole o given
  accepts-kept outcome.NotStarted given h = h
  accepts-kept outcome.WriteFailed given h = h
  accepts-kept (outcome.Cut bytes timed_out) given h = h
  accepts-kept outcome.TooLong given h = h
  accepts-kept (outcome.WaitFailed bytes) given h = h
  accepts-kept (outcome.Ended bytes Killed) given h = h
  accepts-kept (outcome.Ended bytes (Code (pos zero))) given h = gives-kept bytes given h
  accepts-kept (outcome.Ended bytes (Code (pos (suc n)))) given h = h
  accepts-kept (outcome.Ended bytes (Code (negsuc n))) given h = h
  accepts-kept outcome.NoMemory given h = h

-- ---- only a child that isn't started is refused so

no-start : (d : Definition) (former : RowList) (output : List ℕ) → Refuses d former output cause.Start → ⊥
no-start d former output (undecoded h) = h
no-start d former output (untaken rows decoded h) = h
no-start d former output (too_large rows has h) = no-large d.source.update h where
  no-large : (u : Update) → LaysTooLarge u (length d.keys) former rows cause.Start → ⊥
  no-large update.None h = h
  no-large (update.Field name lag) (standing, laid, h) = h

pub start-is : (d : Definition) (former : RowList) (output : List ℕ) (ending : PieceEnd) → Accepts d former (outcome_of ending output) (Err cause.Start) → ending ≡ piece_end.NotStarted
start-is d former output piece_end.NotStarted h = refl
start-is d former output piece_end.WriteFailed h = absurd h
start-is d former output (piece_end.Cut true) h = cc
start-is d former output (piece_end.Cut false) h = cc
start-is d former output piece_end.TooLong h = cc
start-is d former output piece_end.WaitFailed h = cc
start-is d former output (piece_end.Ended Killed) h = cc
start-is d former output (piece_end.Ended (Code (pos zero))) h = absurd (no-start d former output h)
start-is d former output (piece_end.Ended (Code (pos (suc n)))) h = cc
start-is d former output (piece_end.Ended (Code (negsuc n))) h = cc
start-is d former output piece_end.NoMemory h = absurd h

-- ---- a status that isn't 0

pub status-refused : (d : Definition) (former : RowList) (output : List ℕ) (status : ℤ) → (status ≡ pos 0 → ⊥) → Accepts d former (outcome.Ended output (Code status)) (Err (cause.Status status))
status-refused d former output (pos zero) some = absurd (some refl)
status-refused d former output (pos (suc n)) some = refl
status-refused d former output (negsuc n) some = refl
