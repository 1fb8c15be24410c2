-- The judge of the world that can be run is what a load of its dictionary is judged by.
use Rattle.std.proofs.Common.{◌≡◌, ◌<◌, ◌≤◌, ◌∙◌, ◌++◌, ℕ, zero, suc, List, [], ◌∷◌, length, Some, None, Ok, Err, refl, sym, ap, subst, arith, slice_get}
use Rattle.std.specs.Prelude.{◌↔◌, pos, false}
use Rattle.std.specs.List.{AllByRecursion}
use Rattle.std.proofs.lemmas.List.Elements.{All-from_recursion, recursion_from_All}
use Rattle.std.proofs.lemmas.Option.{none-some, same_Some}
use Rattle.child_io.specs.declared.child.Outcome.TheVariants.{Ended}
use Rattle.dict_schema.specs.Shapes.{shape_of}
use Rattle.dict_schema.specs.declared.definition.Role.TheVariants as role
use Rattle.dict_schema.specs.declared.definition.ShapeColumn.{ShapeColumn}
use Rattle.dict_value.specs.Values.{text_reading}
use Rattle.dict_value.specs.declared.fault.Cause.{Cause}
use Rattle.dict_value.specs.declared.fault.Cause.TheVariants as cause
use Rattle.dict_value.specs.declared.fault.Exit.TheVariants.{Code}
use Rattle.dict_value.specs.declared.value.ColType.TheVariants.{Str, UInt64}
use Rattle.dict_value.specs.declared.value.Field.{Field}
use Rattle.dict_value.specs.declared.value.Field.TheVariants as field
use Rattle.dict_value.specs.declared.value.Format.TheVariants.{Tab}
use Rattle.dict_value.specs.declared.value.Value.{Value}
use Rattle.dict_value.specs.declared.value.Value.TheVariants.{Null, U, I, S, Day, Second, Id, V4, V6, Dec}
use Rattle.dict_version.specs.Keys.{key_number, numbers_of}
use Rattle.flat_layout.specs.Cells.{IsFirstTooLarge}
use Rattle.load_core.specs.FlatRows.{HasFirstKey, HasNoTableFor, HasSmallKey, IsFirstLarge}
use Rattle.load_core.specs.WorldRows.{key_column, text_column, world_columns, row_verdicts}
use Rattle.load_core.specs.WorldSteps.{Candidate}
use Rattle.packed_rows.specs.Columns.{RowList}
use Rattle.row_text.specs.Decoding.{Decoded, Decodes, Reader}
use Rattle.row_text.specs.declared.decode.DecodeFault.TheVariants.{Bad, TooMany}
use Rattle.rows_typed.specs.Shapes.{column_by, columns_of}
use Rattle.loader.specs.Accepts.{Accepts, DecodesTo, IsUndecoded, IsUntaken, Refuses, undecoded, untaken, too_large}
use Rattle.loader.specs.Worlds.{world_definition}

-- ---- the columns

abbrev key_shape : ShapeColumn
key_shape = record { ty = record { base = UInt64; nullable = false }; role = role.Key; default = U 0 }

abbrev text_shape : ShapeColumn
text_shape = record { ty = record { base = Str; nullable = false }; role = role.Attribute; default = S [] }

shape-is : shape_of world_definition ≡ key_shape ∷ text_shape ∷ []
shape-is = refl

key-same : (seen : Field) → column_by Tab key_shape seen ≡ key_column seen
key-same field.Null = refl
key-same (field.Text text) = refl

text-same : (seen : Field) → column_by Tab text_shape seen ≡ text_column seen
unfolding text_reading
text-same field.Null = refl
text-same (field.Text text) = refl

columns-same : columns_of Tab (shape_of world_definition) ≡ world_columns
columns-same = ap (columns_of Tab) shape-is ∙ (λ i. (λ seen. key-same seen i) ∷ (λ seen. text-same seen i) ∷ [])

to-world : (text : List ℕ) (answer : Decoded) → DecodesTo world_definition text answer → Decodes Tab world_columns text answer
to-world text answer h = subst (λ (columns : List Reader). Decodes Tab columns text answer) columns-same h

from-world : (text : List ℕ) (answer : Decoded) → Decodes Tab world_columns text answer → DecodesTo world_definition text answer
from-world text answer h = subst (λ (columns : List Reader). Decodes Tab columns text answer) (sym columns-same) h

-- ---- the keys

abbrev key_of : List Value → ℕ
key_of row = key_number (slice_get row 0)

small-row : (row : List Value) → HasSmallKey row → key_of row < 500000
small-row [] h = omega arith
small-row (U n ∷ values) h = h n (values, refl)
small-row (Null ∷ values) h = omega arith
small-row (I z ∷ values) h = omega arith
small-row (S text ∷ values) h = omega arith
small-row (Day n ∷ values) h = omega arith
small-row (Second n ∷ values) h = omega arith
small-row (Id n ∷ values) h = omega arith
small-row (V4 n ∷ values) h = omega arith
small-row (V6 n ∷ values) h = omega arith
small-row (Dec z ∷ values) h = omega arith

row-small : (row : List Value) → key_of row < 500000 → HasSmallKey row
row-small row h key (values, e) = let same : key_of row ≡ key = ap key_of e in omega (arith, h, same)

has-key : (row : List Value) (key : ℕ) → key_of row ≡ key → 500000 ≤ key → HasFirstKey row key
has-key [] key e large = absurd (omega (arith, e, large))
has-key (U n ∷ values) key e large = (values, ap (λ k. U k ∷ values) e)
has-key (Null ∷ values) key e large = absurd (omega (arith, e, large))
has-key (I z ∷ values) key e large = absurd (omega (arith, e, large))
has-key (S text ∷ values) key e large = absurd (omega (arith, e, large))
has-key (Day n ∷ values) key e large = absurd (omega (arith, e, large))
has-key (Second n ∷ values) key e large = absurd (omega (arith, e, large))
has-key (Id n ∷ values) key e large = absurd (omega (arith, e, large))
has-key (V4 n ∷ values) key e large = absurd (omega (arith, e, large))
has-key (V6 n ∷ values) key e large = absurd (omega (arith, e, large))
has-key (Dec z ∷ values) key e large = absurd (omega (arith, e, large))

each-small : (rows : RowList) → AllByRecursion (λ number. number < 500000) (numbers_of rows) → AllByRecursion HasSmallKey rows
each-small [] h = tt
each-small (row ∷ rows) h = (row-small row h.0, each-small rows h.1)

small-each : (rows : RowList) → AllByRecursion HasSmallKey rows → AllByRecursion (λ number. number < 500000) (numbers_of rows)
small-each [] h = tt
small-each (row ∷ rows) h = (small-row row h.0, small-each rows h.1)

first-large : (rows : RowList) (place key : ℕ) → slice_get (numbers_of rows) place ≡ Some key → 500000 ≤ key
    → ((earlier other : ℕ) → earlier < place → slice_get (numbers_of rows) earlier ≡ Some other → other < 500000) → IsFirstLarge rows key
first-large [] place key here large lower = absurd (none-some key here)
first-large (row ∷ rows) zero key here large lower =
    record { before = []; row = row; after = rows; parts = refl; small = tt; here = has-key row key (same_Some (key_of row) key here) large; large = large }
first-large (row ∷ rows) (suc place) key here large lower =
    let rest = first-large rows place key here large (λ earlier other less at. lower (suc earlier) other (omega (arith, less)) at) in
    record {
      before = row ∷ rest.before;
      row = rest.row;
      after = rest.after;
      parts = ap (λ (l : RowList). row ∷ l) rest.parts;
      small = (row-small row (lower 0 (key_of row) (omega arith) refl), rest.small);
      here = rest.here;
      large = rest.large;
    }

key-there : (before : RowList) (row : List Value) (after : RowList) (key : ℕ) → HasFirstKey row key → slice_get (numbers_of (before ++ row ∷ after)) (length before) ≡ Some key
key-there [] row after key (values, e) = ap (λ r. Some (key_of r)) e
key-there (first ∷ before) row after key has = key-there before row after key has

key-below : (before : RowList) (row : List Value) (after : RowList) → AllByRecursion HasSmallKey before → (earlier other : ℕ) → earlier < length before → slice_get (numbers_of (before ++ row ∷ after)) earlier ≡ Some other → other < 500000
key-below [] row after small earlier other less at = absurd (omega (arith, less))
key-below (first ∷ before) row after small zero other less at =
    let same = same_Some (key_of first) other at in
    let low = small-row first small.0 in
    omega (arith, low, same)
key-below (first ∷ before) row after small (suc earlier) other less at =
    key-below before row after small.1 earlier other (omega (arith, less)) at

large-first : (rows : RowList) (key : ℕ) → IsFirstLarge rows key → IsFirstTooLarge (numbers_of rows) 500000 key
large-first rows key f = subst (λ (l : RowList). IsFirstTooLarge (numbers_of l) 500000 key) (sym f.parts) (record {
  place = length f.before;
  here = key-there f.before f.row f.after key f.here;
  large = f.large;
  before = key-below f.before f.row f.after f.small;
})

-- ---- the verdicts

pub accepted : (load : Candidate) (former : RowList) → row_verdicts load None ↔ ((rows : RowList) × Accepts world_definition former (Ended load.bytes (Code (pos 0))) (Ok rows))
accepted load former = (
  λ (rows, table). (
    rows,
    (
      rows,
      record {
        decoded = from-world load.bytes (Ok rows) table.decoded;
        taken = All-from_recursion (λ number. number < 500000) (numbers_of rows) (small-each rows table.keys);
      },
      refl,
    ),
  ),
  λ (rows, (fresh, has, same)). (
    fresh,
    record {
      decoded = to-world load.bytes (Ok fresh) has.decoded;
      keys = each-small fresh (recursion_from_All (λ number. number < 500000) (numbers_of fresh) has.taken);
    },
  ),
)

to-refused : (load : Candidate) (former : RowList) (why : Cause) → HasNoTableFor (Decodes Tab world_columns load.bytes) why → Refuses world_definition former load.bytes why
to-refused load former (cause.Row bad) h = undecoded (from-world load.bytes (Err (Bad bad)) h)
to-refused load former cause.Rows h = undecoded (from-world load.bytes (Err TooMany) h)
to-refused load former (cause.Key key) (rows, decoded, first) = untaken rows (from-world load.bytes (Ok rows) decoded) (large-first rows key first)
to-refused load former cause.Start h = absurd h
to-refused load former cause.Read h = absurd h
to-refused load former cause.TimedOut h = absurd h
to-refused load former (cause.Status n) h = absurd h
to-refused load former cause.Killed h = absurd h
to-refused load former (cause.Longer n) h = absurd h
to-refused load former (cause.Prefix n) h = absurd h
to-refused load former cause.Spent h = absurd h
to-refused load former cause.NoMemory h = absurd h

from-undecoded : (load : Candidate) (why : Cause) → IsUndecoded world_definition load.bytes why → HasNoTableFor (Decodes Tab world_columns load.bytes) why
from-undecoded load (cause.Row bad) h = to-world load.bytes (Err (Bad bad)) h
from-undecoded load cause.Rows h = to-world load.bytes (Err TooMany) h
from-undecoded load (cause.Key key) h = absurd h
from-undecoded load cause.Start h = absurd h
from-undecoded load cause.Read h = absurd h
from-undecoded load cause.TimedOut h = absurd h
from-undecoded load (cause.Status n) h = absurd h
from-undecoded load cause.Killed h = absurd h
from-undecoded load (cause.Longer n) h = absurd h
from-undecoded load (cause.Prefix n) h = absurd h
from-undecoded load cause.Spent h = absurd h
from-undecoded load cause.NoMemory h = absurd h

from-untaken : (load : Candidate) (rows : RowList) (why : Cause) → DecodesTo world_definition load.bytes (Ok rows) → IsUntaken world_definition rows why → HasNoTableFor (Decodes Tab world_columns load.bytes) why
from-untaken load rows (cause.Key key) decoded first = (rows, to-world load.bytes (Ok rows) decoded, first-large rows first.place key first.here first.large first.before)
from-untaken load rows (cause.Prefix n) decoded h = absurd h
from-untaken load rows (cause.Row bad) decoded h = absurd h
from-untaken load rows cause.Rows decoded h = absurd h
from-untaken load rows cause.Start decoded h = absurd h
from-untaken load rows cause.Read decoded h = absurd h
from-untaken load rows cause.TimedOut decoded h = absurd h
from-untaken load rows (cause.Status n) decoded h = absurd h
from-untaken load rows cause.Killed decoded h = absurd h
from-untaken load rows (cause.Longer n) decoded h = absurd h
from-untaken load rows cause.Spent decoded h = absurd h
from-untaken load rows cause.NoMemory decoded h = absurd h

from-refused : (load : Candidate) (former : RowList) (why : Cause) → Refuses world_definition former load.bytes why → HasNoTableFor (Decodes Tab world_columns load.bytes) why
from-refused load former why (undecoded h) = from-undecoded load why h
from-refused load former why (untaken rows decoded h) = from-untaken load rows why decoded h
from-refused load former why (too_large rows has h) = absurd h

pub refused : (load : Candidate) (former : RowList) (why : Cause) → row_verdicts load (Some why) ↔ Accepts world_definition former (Ended load.bytes (Code (pos 0))) (Err why)
refused load former why = (to-refused load former why, from-refused load former why)
