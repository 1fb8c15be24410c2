-- What acts say of a later state, and the numbers that they tell: what was seen stands in the view, and never falls.
use Rattle.std.specs.Prelude.{◌≡◌, ◌≤◌, ◌==◌, ℕ, List, [], ◌∷◌, Option, Some, None, Ok, if◌then◌else◌, length, max, ⊤}
use Rattle.std.specs.List.{AllByRecursion}
use Rattle.dict_schema.specs.declared.definition.Definition.{Definition}
use Rattle.dict_schema.specs.declared.definition.FunctionDef.{FunctionDef}
use Rattle.dict_session.specs.Acts.{DeskCall, Called, Entered, Keyed, Leads, Reloaded, Taught}
use Rattle.dict_session.specs.Facts.{EachFetched, EachReturned, Facts, Grows}
use Rattle.dict_session.specs.Items.{IsFunctionItem, IsKeyedItem}
use Rattle.dict_version.specs.Contents.{Contents}
use Rattle.loader.specs.declared.answers.LoadEnd.TheVariants as end
use Rattle.version_slot.specs.Views.{Entered as Seen, entry}

-- what was seen of a dictionary stands in its view: the entry of that number, and 0 before the first
abbrev pub IsVersionIn : List Contents → ℕ → Option Contents → Type 0
IsVersionIn view n None = n ≡ 0
IsVersionIn view n (Some c) = entry view n ≡ Some c

pub record IsSeenIn (view : List Contents) (seen : Seen Contents) : Type 0 where
  pub within : seen.number ≤ length view
  pub version : IsVersionIn view seen.number seen.version

-- what an act told holds of a later state: what was seen stands in the view, and what was fetched or given fits
abbrev pub IsRight : {S : Type 0} → Facts S → S → DeskCall → Type 0
IsRight facts t (Entered d (Ok seen)) = IsSeenIn (facts.view t d) seen
IsRight facts t (Taught d row) = row.number ≤ length (facts.view t d)
IsRight facts t (Reloaded d now (end.Published number)) = number ≤ length (facts.view t d)
IsRight facts t (Keyed d now keys (Ok rows)) = (definition : Definition) → IsKeyedItem (facts.items t) d definition
    → EachFetched facts.gave definition now keys rows
IsRight facts t (Called f rows (Ok values)) = (definition : FunctionDef) → IsFunctionItem (facts.items t) f definition
    → EachReturned definition rows values
IsRight facts t _ = ⊤

-- ---- floors

-- the floor of item e after an act: numbers that were seen, published or told raise it
abbrev pub floor_raised : ℕ → ℕ → DeskCall → ℕ
floor_raised e floor (Entered d (Ok seen)) = if d == e then max floor seen.number else floor
floor_raised e floor (Taught d row) = if d == e then max floor row.number else floor
floor_raised e floor (Reloaded d now (end.Published number)) = if d == e then max floor number else floor
floor_raised e floor _ = floor

-- a number that is seen is not below the floor
abbrev pub KeepsFloor : ℕ → ℕ → DeskCall → Type 0
KeepsFloor e floor (Entered d (Ok seen)) = d ≡ e → floor ≤ seen.number
KeepsFloor e floor _ = ⊤

abbrev pub NeverFalls : ℕ → ℕ → List DeskCall → Type 0
NeverFalls e floor [] = ⊤
NeverFalls e floor (act ∷ acts) = KeepsFloor e floor act × NeverFalls e (floor_raised e floor act) acts

abbrev pub floor_after : ℕ → ℕ → List DeskCall → ℕ
floor_after e floor [] = floor
floor_after e floor (act ∷ acts) = floor_after e (floor_raised e floor act) acts

-- ---- what acts lead to

-- these acts led from one state to another, each by what the later one has; numbers that were seen kept the floors, and
-- the views came up to them
pub record Moved {S : Type 0} (facts : Facts S) (s : S) (acts : List DeskCall) (t : S) : Type 0 where
  pub leads : Leads facts.did s acts t
  pub grows : Grows facts s t
  pub right : AllByRecursion (IsRight facts t) acts
  pub floors : (e : ℕ) → NeverFalls e (length (facts.view s e)) acts
  pub top : (e : ℕ) → floor_after e (length (facts.view s e)) acts ≤ length (facts.view t e)
