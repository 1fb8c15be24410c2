-- What a child gives, put together: the version of its rows, or why there is none.
use Rattle.std.proofs.Common.{◌≡◌, ◌<◌, ℕ, List, Result, Ok, Err, sym, subst, inl, inr, arith}
use Rattle.std.specs.Prelude.{All, IsSome}
use Rattle.std.specs.List.{concat}
use Rattle.std.proofs.lemmas.Option.{get_or_from_slice_get, slice_get_within}
use Rattle.child_io.specs.Gathers.{outcome_of}
use Rattle.child_io.specs.declared.pieces.PieceEnd.{PieceEnd}
use Rattle.dict_schema.specs.declared.definition.Definition.{Definition}
use Rattle.dict_value.specs.Addresses.{prefix_in}
use Rattle.dict_value.specs.declared.fault.Cause.TheVariants as cause
use Rattle.dict_version.specs.Keys.{key_texts, numbers_of}
use Rattle.dict_version.specs.Lookups.{lookup_by}
use Rattle.dict_version.specs.Rows.{IsRefusedBy, LayoutTakes, LayoutTakesBy}
use Rattle.dict_version.specs.declared.fault.LayoutFault.{LayoutFault}
use Rattle.dict_version.specs.declared.fault.LayoutFault.TheVariants as refusal
use Rattle.dict_version.specs.declared.lookup.LookupBy.{LookupBy}
use Rattle.dict_version.specs.declared.lookup.LookupBy.TheVariants as by
use Rattle.flat_layout.specs.Cells.{IsFirstTooLarge}
use Rattle.packed_rows.specs.Columns.{RowList}
use Rattle.loader.specs.Accepts.{Accepts, too_large, untaken}
use Rattle.loader.specs.Loaders.{Running}
use Rattle.loader.specs.Origins.{Ran}
use Rattle.loader.specs.declared.fault.LoadFault.{LoadFault}
use Rattle.loader.specs.declared.fault.LoadFault.TheVariants.{Refused, NoMemory}
use Rattle.loader.specs.declared.making.Made.{Made}
use Rattle.loader.specs.steps.Makings.{IsBuilt, IsGiven, IsMade, RunsVersion}
use Rattle.loader.specs.steps.Readings.{IsRead, ReadsChild}

-- ---- rows that the layout takes are refused for no key

no-large-key : (keys : List ℕ) (most number : ℕ) → All (λ key. key < most) keys → IsFirstTooLarge keys most number → ⊥
no-large-key keys most number all f =
    let within = slice_get_within keys f.place number f.here in
    let low : number < most = subst (λ (key : ℕ). key < most) (get_or_from_slice_get keys f.place number number f.here) (all f.place number within) in
    omega (arith, low, f.large)

none-refused : (looked : LookupBy) (rows : RowList) (why : LayoutFault) → LayoutTakesBy looked rows → IsRefusedBy looked rows why → ⊥
none-refused (by.SmallNumber most) rows (refusal.KeyTooLarge number) taken h = no-large-key (numbers_of rows) most number taken h
none-refused (by.SmallNumber most) rows (refusal.BadPrefix row) taken h = h
none-refused (by.SmallNumber most) rows refusal.NoMemory taken h = h
none-refused by.Number rows why taken h = h
none-refused by.KeyList rows why taken h = h
none-refused (by.Range strategy) rows why taken h = h
none-refused by.Address rows (refusal.KeyTooLarge number) taken h = h
none-refused by.Address rows (refusal.BadPrefix row) taken h =
    let texts = key_texts rows in
    let within = slice_get_within texts h.place h.text h.here in
    let some : IsSome (prefix_in h.text) = subst (λ (text : List ℕ). IsSome (prefix_in text)) (get_or_from_slice_get texts h.place h.text h.text h.here) (taken h.place h.text within) in
    let none = h.bad in
    cc
none-refused by.Address rows refusal.NoMemory taken h = h
none-refused by.Nothing rows why taken h = h

-- so what refuses them is want of memory alone
pub taken-refused : (C : Type 0) (d : Definition) (former fresh rows : RowList) (fault : LoadFault) → LayoutTakes d rows → IsBuilt d rows (Err fault) → IsMade {C = C} d former fresh (Err fault)
taken-refused C d former fresh rows (Refused cause.Start) taken h = absurd h
taken-refused C d former fresh rows (Refused cause.Read) taken h = absurd h
taken-refused C d former fresh rows (Refused cause.TimedOut) taken h = absurd h
taken-refused C d former fresh rows (Refused (cause.Status status)) taken h = absurd h
taken-refused C d former fresh rows (Refused cause.Killed) taken h = absurd h
taken-refused C d former fresh rows (Refused (cause.Longer limit)) taken h = absurd h
taken-refused C d former fresh rows (Refused cause.Rows) taken h = absurd h
taken-refused C d former fresh rows (Refused (cause.Row bad)) taken h = absurd h
taken-refused C d former fresh rows (Refused (cause.Key number)) taken h = absurd (none-refused (lookup_by d.layout) rows (refusal.KeyTooLarge number) taken h)
taken-refused C d former fresh rows (Refused (cause.Prefix row)) taken h = absurd (none-refused (lookup_by d.layout) rows (refusal.BadPrefix row) taken h)
taken-refused C d former fresh rows (Refused cause.Spent) taken h = absurd h
taken-refused C d former fresh rows (Refused cause.NoMemory) taken h = absurd h
taken-refused C d former fresh rows NoMemory taken h = tt

-- ---- the child's output and what is made of its rows

given-made : {C : Type 0} (ran : Ran) (d : Definition) (words : List (List ℕ)) (former : RowList) (output : List ℕ) (ending : PieceEnd) (fresh : RowList) (result : Result (Made C) LoadFault) → IsRead ran d words output ending (Ok fresh) → IsMade d former fresh result → IsGiven ran d words former output ending result
given-made ran d words former output ending fresh (Ok made) (ended, was, decoded) m = record {
  rows = m.rows;
  ended = ended;
  was_run = was;
  gives = (fresh, record { decoded = decoded; taken = m.taken }, m.laid);
  version_is = m.version_is;
  kept_is = m.kept_is;
  follows = m.follows;
}
given-made ran d words former output ending fresh (Err (Refused why)) (ended, was, decoded) (inl h) =
    subst (λ (e : PieceEnd). Accepts d former (outcome_of e output) (Err why)) (sym ended) (untaken fresh decoded h)
given-made ran d words former output ending fresh (Err (Refused why)) (ended, was, decoded) (inr (taken, h)) =
    subst (λ (e : PieceEnd). Accepts d former (outcome_of e output) (Err why)) (sym ended) (too_large fresh (record { decoded = decoded; taken = taken }) h)
given-made ran d words former output ending fresh (Err NoMemory) read m = tt

pub runs-made : {C : Type 0} (runs : Running) (ran : Ran) (d : Definition) (words asked : List (List ℕ)) (former fresh : RowList) (result : Result (Made C) LoadFault) → words ≡ asked → ReadsChild runs ran d words (Ok fresh) → IsMade d former fresh result → RunsVersion runs ran d asked former result
runs-made runs ran d words asked former fresh result same read m =
    let r : ReadsChild runs ran d asked (Ok fresh) = subst (λ (w : List (List ℕ)). ReadsChild runs ran d w (Ok fresh)) same read in
    record {
      ending = r.ending;
      pieces = r.pieces;
      some = r.some;
      within = r.within;
      run = r.run;
      given = given-made ran d asked former (concat r.pieces) r.ending fresh result r.given m;
    }
