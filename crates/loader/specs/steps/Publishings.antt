-- How a load that has begun ends.
use Rattle.std.specs.Prelude.{◌≡◌, ℕ, List, [], ◌∷◌, ◌++◌, length, Option, Result, Ok, Err}
use Rattle.dict_schema.specs.declared.definition.Definition.{Definition}
use Rattle.dict_version.specs.Contents.{Contents}
use Rattle.packed_rows.specs.Columns.{RowList}
use Rattle.loader.specs.Loaders.{kept_rows, version_of}
use Rattle.loader.specs.Origins.{IsFormer}
use Rattle.loader.specs.declared.answers.LoadEnd.{LoadEnd}
use Rattle.loader.specs.declared.answers.LoadEnd.TheVariants.{Published, Failed, NoMemory}
use Rattle.loader.specs.declared.fault.LoadFault.{LoadFault}
use Rattle.loader.specs.declared.fault.LoadFault.TheVariants as fault
use Rattle.loader.specs.declared.loading.Fresh.{Fresh}
use Rattle.loader.specs.steps.Makings.{CanFollow}

-- how it ended
abbrev pub load_end_of : {T : Type 0} → Result (Fresh T) LoadFault → LoadEnd
load_end_of (Ok fresh) = Published fresh.number
load_end_of (Err (fault.Refused why)) = Failed why
load_end_of (Err fault.NoMemory) = NoMemory

-- a version as of a moment
abbrev pub stamped : Contents → ℕ → Contents
stamped version moment = record version { moment = moment }

-- the version was appended, or the list is as it was
abbrev pub PublishesAs : {T : Type 0} → List Contents → Contents → Result (Fresh T) LoadFault → List Contents → Type 0
PublishesAs list version (Ok fresh) after = after ≡ list ++ version ∷ []
PublishesAs list version (Err why) after = after ≡ list

-- the token is of the slot, and stands for the whole list, whose length it tells
pub record IsNewToken {T E : Type 0} (is_of : T → Type 0) (told_list : T → List E) (number_of : T → ℕ)
    (list : List E) (told : T) (number : ℕ) : Type 0 where
  pub of : is_of told
  pub whole : told_list told ≡ list
  pub tells : number ≡ number_of told
  pub count : number ≡ length list

-- the former rows, where they are kept, are those of the newest version
abbrev pub IsLaidOver : Option Contents → Definition → RowList → Type 0
IsLaidOver newest d former =
    (whole : RowList) × IsFormer newest d whole × (former ≡ kept_rows d.source.update whole)

-- the newest version is of this definition and moment, and its rows are kept where that has an update field
pub record IsKept (d : Definition) (now : ℕ) (list : List Contents) (kept : RowList) : Type 0 where
  pub before : List Contents
  pub rows : RowList
  pub list_is : list ≡ before ++ version_of d rows now ∷ []
  pub kept_is : kept ≡ kept_rows d.source.update rows
  pub follows : CanFollow d kept
