-- The list of a dictionary's versions: what the load after it asks its child for and lays its rows over, and where each
-- entry comes from.
use Rattle.std.specs.Prelude.{◌≡◌, ◌≢◌, ◌⊎◌, ⊤, ℕ, pos, List, [], length, Option, Some, None, Result, Ok}
use Rattle.child_io.specs.Words.{words_since}
use Rattle.child_io.specs.declared.child.Outcome.{Outcome}
use Rattle.child_io.specs.declared.child.Outcome.TheVariants.{Ended}
use Rattle.child_io.specs.declared.words.Since.{Since}
use Rattle.child_io.specs.declared.words.Since.TheVariants.{Whole, From}
use Rattle.dict_schema.specs.declared.definition.Definition.{Definition}
use Rattle.dict_value.specs.declared.fault.Cause.{Cause}
use Rattle.dict_value.specs.declared.fault.Exit.{Exit}
use Rattle.dict_value.specs.declared.fault.Exit.TheVariants.{Code}
use Rattle.dict_version.specs.Contents.{Contents}
use Rattle.packed_rows.specs.Columns.{RowList}
use Rattle.version_slot.specs.Views.{entry}
use Rattle.loader.specs.Accepts.{Accepts}

-- what starts a child tells of it: its words, its whole output and its exit
abbrev pub Ran : Type 1
Ran = List (List ℕ) → List ℕ → Exit → Type 0

-- the newest version
abbrev pub newest : List Contents → Option Contents
newest list = entry list (length list)

-- the former rows of a load: those of the newest version where that has the same definition, and none otherwise
abbrev pub IsFormer : Option Contents → Definition → RowList → Type 0
IsFormer None d former = former ≡ []
IsFormer (Some e) d former = (e.definition ≡ d → former ≡ e.rows) × (e.definition ≢ d → former ≡ [])

-- the newest version has the definition, or another one
abbrev pub IsSettled : Option Contents → Definition → Type 0
IsSettled None d = ⊤
IsSettled (Some e) d = (e.definition ≡ d) ⊎ (e.definition ≢ d)

-- since when a load asks for rows: from the moment of the newest version where that has the same definition, and else
-- for all
abbrev pub IsSince : Option Contents → Definition → Since → Type 0
IsSince None d since = since ≡ Whole
IsSince (Some e) d since = (e.definition ≡ d → since ≡ From e.moment) × (e.definition ≢ d → since ≡ Whole)

-- a definition's words since then
abbrev pub asked_since : Definition → List ℕ → Since → List (List ℕ)
asked_since d folder since = words_since d.source folder d.source.update since

-- What a load behind this list is judged to give. Callers cite this, and what is below it no more.
abbrev pub Loads : Definition → List Contents → Outcome → Result RowList Cause → Type 0
Loads d list outcome given = (former : RowList) × IsFormer (newest list) d former × Accepts d former outcome given

-- The words that a load behind this list starts its child with.
abbrev pub Started : Definition → List ℕ → List Contents → List (List ℕ) → Type 0
Started d folder list words = (since : Since) × IsSince (newest list) d since × (words ≡ asked_since d folder since)

-- A child was really started with the words of the definition since then, this is its whole output, it ended with
-- status 0, and the output is accepted over the former rows with these rows.
pub record Origin (ran : Ran) (folder : List ℕ) (d : Definition) (since : Since) (former rows : RowList) : Type 0 where
  pub output : List ℕ
  pub was_run : ran (asked_since d folder since) output (Code (pos 0))
  pub accepted : Accepts d former (Ended output (Code (pos 0))) (Ok rows)

-- the fact of a slot of versions: each entry has an origin over the entries before it
pub record HasOrigin (ran : Ran) (folder : List ℕ) (list : List Contents) (e : Contents) : Type 0 where
  pub since : Since
  pub former : RowList
  pub since_is : IsSince (newest list) e.definition since
  pub former_is : IsFormer (newest list) e.definition former
  pub origin : Origin ran folder e.definition since former e.rows
