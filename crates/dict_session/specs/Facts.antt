-- What a desk says of its states, as one value.
use Rattle.std.specs.Prelude.{◌≡◌, ◌⊎◌, ◌<◌, ◌+◌, ℕ, List}
use Rattle.std.specs.List.{AllZip}
use mathlib.Core.List.{IsPrefix}
use Rattle.cache_layout.specs.Fetching.{FitsReply}
use Rattle.dict_schema.specs.declared.definition.Definition.{Definition}
use Rattle.dict_schema.specs.declared.definition.FunctionDef.{FunctionDef}
use Rattle.dict_schema.specs.declared.definition.Item.{Item}
use Rattle.dict_schema.specs.declared.definition.Layout.{Layout}
use Rattle.dict_schema.specs.declared.definition.Layout.TheVariants as layout
use Rattle.dict_schema.specs.declared.definition.Lifetime.{Lifetime}
use Rattle.dict_session.specs.Acts.{DeskCall}
use Rattle.dict_value.specs.Values.{FitsColumn}
use Rattle.dict_value.specs.declared.value.FetchedRow.{FetchedRow}
use Rattle.dict_value.specs.declared.value.MaybeRow.{MaybeRow}
use Rattle.dict_value.specs.declared.value.Value.{Value}
use Rattle.dict_version.specs.Contents.{Contents}

pub record Facts (S : Type 0) : Type 1 where
  -- the desk, in its first state, made this call and answered so, and came to its second state
  pub did : S → DeskCall → S → Type 0
  -- the view of the dictionary at a place
  pub view : S → ℕ → List Contents
  pub items : S → List Item
  -- a fetch for this dictionary that was handed this moment answered this row, or that there is none, for the key
  pub gave : Definition → List Value → MaybeRow → ℕ → Type 0

-- each view afterwards begins with the one before, and the items stay
pub record Grows {S : Type 0} (facts : Facts S) (old new : S) : Type 0 where
  pub views : (d : ℕ) → IsPrefix (facts.view old d) (facts.view new d)
  pub items : facts.items new ≡ facts.items old

-- a row of a cache that was fetched at this moment may still be answered
abbrev pub StillLives : Lifetime → ℕ → ℕ → Type 0
StillLives lifetime now m =
    (m ≡ now) ⊎ ((now < m + lifetime.max) ⊎ ((lifetime.min ≡ 0) × (lifetime.max ≡ 0)))

-- the same by what a dictionary keeps of its rows: one with a direct layout keeps none
abbrev pub IsFreshBy : Layout → Lifetime → ℕ → ℕ → Type 0
IsFreshBy (layout.Cache set) lifetime now m = StillLives lifetime now m
IsFreshBy (layout.ComplexCache set) lifetime now m = StillLives lifetime now m
IsFreshBy _ lifetime now m = m ≡ now

-- one row that was given for the key, fits the dictionary and is fresh
pub record IsFetched (gave : Definition → List Value → MaybeRow → ℕ → Type 0) (d : Definition) (now : ℕ)
    (key : List Value) (fetched : FetchedRow) : Type 0 where
  pub given : gave d key fetched.row fetched.moment
  pub fits : FitsReply d fetched.row
  pub fresh : IsFreshBy d.layout d.lifetime now fetched.moment

-- one row for each key, in order
abbrev pub EachFetched : (Definition → List Value → MaybeRow → ℕ → Type 0) → Definition → ℕ → List (List Value)
    → List FetchedRow → Type 0
EachFetched gave d now keys rows = AllZip (IsFetched gave d now) keys rows

-- one value of the return type for each row of arguments, in order
abbrev pub EachReturned : FunctionDef → List (List Value) → List Value → Type 0
EachReturned f rows values = AllZip (λ (row : List Value) v. FitsColumn f.returns v) rows values
