-- What a load comes to, by its definition, the former rows and the outcome of its child: a list of rows, or one cause.
use Rattle.std.specs.Prelude.{◌≡◌, ◌<◌, ◌≤◌, ℕ, zero, pos, List, length, Result, Ok, Err, if◌then◌else◌}
use Rattle.child_io.specs.declared.child.Outcome.{Outcome}
use Rattle.child_io.specs.declared.child.Outcome.TheVariants.{NotStarted, WriteFailed, Cut, TooLong}
use Rattle.child_io.specs.declared.child.Outcome.TheVariants.{WaitFailed, Ended, NoMemory}
use Rattle.dict_schema.specs.Shapes.{shape_of}
use Rattle.dict_schema.specs.declared.definition.Definition.{Definition}
use Rattle.dict_schema.specs.declared.definition.Update.{Update}
use Rattle.dict_schema.specs.declared.definition.Update.TheVariants.{None, Field}
use Rattle.dict_value.specs.declared.fault.Cause.{Cause}
use Rattle.dict_value.specs.declared.fault.Cause.TheVariants as cause
use Rattle.dict_value.specs.declared.fault.Exit.TheVariants.{Code, Killed}
use Rattle.dict_value.specs.declared.value.TheConstants.{MOST_ROWS}
use Rattle.dict_version.specs.Rows.{IsRefusedFor, LayoutTakes}
use Rattle.dict_version.specs.declared.fault.LayoutFault.TheVariants as layout
use Rattle.overlay.specs.Overlays.{Overlay}
use Rattle.packed_rows.specs.Columns.{RowList}
use Rattle.packed_rows.specs.Packs.{text_of_rows}
use Rattle.row_text.specs.Decoding.{Decoded}
use Rattle.row_text.specs.declared.decode.DecodeFault.TheVariants.{Bad, TooMany}
use Rattle.rows_typed.specs.Shapes.{Decode}

-- the greatest number of bytes that the String values of an overlay may have together
abbrev pub most_text : ℕ
most_text = 268435456

-- how many bytes the String values of rows have together, those of keys included
abbrev pub text_size : RowList → ℕ
text_size rows = length (text_of_rows rows)

-- what an output decodes to by a definition
abbrev pub DecodesTo : Definition → List ℕ → Decoded → Type 0
DecodesTo d output answer = Decode (shape_of d) d.source.format output answer

-- the output decodes to these rows, and the layout takes them
pub record HasTakenRows (d : Definition) (output : List ℕ) (rows : RowList) : Type 0 where
  pub decoded : DecodesTo d output (Ok rows)
  pub taken : LayoutTakes d rows

-- new rows laid over the former ones, with not too many rows and texts
pub record Updates (keys : ℕ) (former fresh rows : RowList) : Type 0 where
  pub laid : Overlay keys former fresh rows
  pub few : length rows ≤ MOST_ROWS
  pub short : text_size rows ≤ most_text

-- the rows of a load by those of its output: these, or with an update field their overlay
abbrev pub Lays : Update → ℕ → RowList → RowList → RowList → Type 0
Lays None keys former fresh rows = rows ≡ fresh
Lays (Field name lag) keys former fresh rows = Updates keys former fresh rows

-- the overlay is too large: it has too many rows, or else too long texts
abbrev pub IsOversized : RowList → Cause → Type 0
IsOversized rows cause.Rows = MOST_ROWS < length rows
IsOversized rows (cause.Longer limit) =
    (length rows ≤ MOST_ROWS) × (most_text < text_size rows) × (limit ≡ most_text)
IsOversized rows _ = ⊥

abbrev pub LaysTooLarge : Update → ℕ → RowList → RowList → Cause → Type 0
LaysTooLarge None keys former fresh why = ⊥
LaysTooLarge (Field name lag) keys former fresh why =
    (rows : RowList) × Overlay keys former fresh rows × IsOversized rows why

-- the fault of decoding
abbrev pub IsUndecoded : Definition → List ℕ → Cause → Type 0
IsUndecoded d output (cause.Row bad) = DecodesTo d output (Err (Bad bad))
IsUndecoded d output cause.Rows = DecodesTo d output (Err TooMany)
IsUndecoded d output _ = ⊥

-- the first key that the layout doesn't take
abbrev pub IsUntaken : Definition → RowList → Cause → Type 0
IsUntaken d rows (cause.Key number) = IsRefusedFor d rows (layout.KeyTooLarge number)
IsUntaken d rows (cause.Prefix row) = IsRefusedFor d rows (layout.BadPrefix row)
IsUntaken d rows _ = ⊥

-- why a whole output gives no rows: it doesn't decode; or else the layout doesn't take its rows; or else the overlay is
-- too large
pub data Refuses (d : Definition) (former : RowList) (output : List ℕ) (why : Cause) : Type 0 where
  undecoded : IsUndecoded d output why → Refuses d former output why
  untaken : (rows : RowList) → DecodesTo d output (Ok rows) → IsUntaken d rows why → Refuses d former output why
  too_large : (rows : RowList) → HasTakenRows d output rows
      → LaysTooLarge d.source.update (length d.keys) former rows why → Refuses d former output why

-- what a whole output gives
abbrev pub OutputGives : Definition → RowList → List ℕ → Result RowList Cause → Type 0
OutputGives d former output (Ok rows) =
    (fresh : RowList) × HasTakenRows d output fresh × Lays d.source.update (length d.keys) former fresh rows
OutputGives d former output (Err why) = Refuses d former output why

-- The rows of the whole output of a child that ended with status 0, or the first cause that is met. A load writes no
-- input.
abbrev pub Accepts : Definition → RowList → Outcome → Result RowList Cause → Type 0
Accepts d former NotStarted given = given ≡ Err cause.Start
Accepts d former WriteFailed given = ⊥
Accepts d former (Cut bytes timed_out) given = given ≡ Err (if timed_out then cause.TimedOut else cause.Read)
Accepts d former TooLong given = given ≡ Err (cause.Longer d.max_output)
Accepts d former (WaitFailed bytes) given = given ≡ Err cause.Read
Accepts d former (Ended bytes Killed) given = given ≡ Err cause.Killed
Accepts d former (Ended bytes (Code (pos zero))) given = OutputGives d former bytes given
Accepts d former (Ended bytes (Code status)) given = given ≡ Err (cause.Status status)
Accepts d former NoMemory given = ⊥
