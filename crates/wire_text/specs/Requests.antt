-- What the lines of a request ask for.
use Rattle.std.specs.Prelude.{◌≡◌, ◌≢◌, ◌⊎◌, ◌<◌, ◌^◌, ◌++◌, ℕ, List, [], ◌∷◌, Bool, true, false, length, codes}
use Rattle.std.specs.List.{AllZip}
use Rattle.dict_value.specs.declared.value.Field.{Field}
use Rattle.dict_value.specs.declared.value.Field.TheVariants.{Null, Text}
use Rattle.dict_value.specs.declared.letters.TheConstants.{TAB}
use Rattle.row_text.specs.TabRow.{IsTabRow}
use Rattle.wire_text.specs.Numbers.{IsDecimalText}
use Rattle.wire_text.specs.declared.request.Request.{Request}
use Rattle.wire_text.specs.declared.request.Request.TheVariants as request
use Rattle.wire_text.specs.declared.request.Verb.{Verb}
use Rattle.wire_text.specs.declared.request.Verb.TheVariants as verb

-- The first line of a block: its first two fields are `many` and how many lines follow, spelled without escapes.
pub record IsBlockLine (line : List ℕ) (count : ℕ) : Type 0 where
  pub digits : List ℕ
  pub rest : List ℕ
  pub spelled : line ≡ codes "many" ++ TAB ∷ (digits ++ rest)
  pub number : IsDecimalText digits count
  pub small : count < 2 ^ 32
  pub ends : (rest ≡ []) ⊎ ((more : List ℕ) × (rest ≡ TAB ∷ more))

-- how many lines follow the first one
abbrev pub LinesAfter : List ℕ → ℕ → Type 0
LinesAfter line count = IsBlockLine line count ⊎ (((n : ℕ) → ¬ IsBlockLine line n) × (count ≡ 0))

-- The fields before the keys, or before the arguments: the verb, the name, and what belongs to the verb.
pub data IsVerbHead : List Field → Verb → List ℕ → List ℕ → Field → Type 0 where
  get : (name attribute : List ℕ)
      → IsVerbHead (Text (codes "dictGet") ∷ Text name ∷ Text attribute ∷ []) verb.Get name attribute Null
  get_or_default : (name attribute : List ℕ) (fallback : Field)
      → IsVerbHead (Text (codes "dictGetOrDefault") ∷ Text name ∷ Text attribute ∷ fallback ∷ [])
      verb.GetOrDefault name attribute fallback
  get_or_null : (name attribute : List ℕ)
      → IsVerbHead (Text (codes "dictGetOrNull") ∷ Text name ∷ Text attribute ∷ []) verb.GetOrNull name attribute Null
  has : (name : List ℕ) → IsVerbHead (Text (codes "dictHas") ∷ Text name ∷ []) verb.Has name [] Null
  call : (name : List ℕ) → IsVerbHead (Text (codes "call") ∷ Text name ∷ []) verb.Call name [] Null

-- what a hierarchy is asked for
abbrev pub asked_above : Verb → List ℕ → List Field → ℕ → Request
asked_above verb name keys level = request.Asked record {
  verb = verb;
  name = name;
  attribute = [];
  fallback = Null;
  level = level;
  block = false;
  lines = keys ∷ [];
}

abbrev pub asked_of : Verb → List ℕ → List ℕ → Field → Bool → List (List Field) → Request
asked_of verb name attribute fallback block lines = request.Asked record {
  verb = verb;
  name = name;
  attribute = attribute;
  fallback = fallback;
  level = 0;
  block = block;
  lines = lines;
}

-- The table of requests: the fields of the first line, those of the lines that follow, and what they ask for.
pub data AsksFor (line : List ℕ) : List Field → List (List Field) → Request → Type 0 where
  single : {head keys fields : List Field} {verb : Verb} {name attribute : List ℕ} {fallback : Field}
      → fields ≡ head ++ keys → IsVerbHead head verb name attribute fallback → keys ≢ []
      → AsksFor line fields [] (asked_of verb name attribute fallback false (keys ∷ []))
  block : {head : List Field} {lines : List (List Field)} {verb : Verb} {name attribute : List ℕ} {fallback : Field}
      (count : Field) → IsBlockLine line (length lines) → IsVerbHead head verb name attribute fallback
      → AsksFor line (Text (codes "many") ∷ count ∷ head) lines (asked_of verb name attribute fallback true lines)
  chain : (name : List ℕ) (key : Field) → AsksFor line (Text (codes "dictGetHierarchy") ∷ Text name ∷ key ∷ []) []
      (asked_above verb.Hierarchy name (key ∷ []) 0)
  children : (name : List ℕ) (key : Field) → AsksFor line (Text (codes "dictGetChildren") ∷ Text name ∷ key ∷ []) []
      (asked_above verb.Children name (key ∷ []) 0)
  is_in : (name : List ℕ) (key ancestor : Field)
      → AsksFor line (Text (codes "dictIsIn") ∷ Text name ∷ key ∷ ancestor ∷ []) []
      (asked_above verb.IsIn name (key ∷ ancestor ∷ []) 0)
  descendants : (name digits : List ℕ) (key : Field) {level : ℕ} → IsDecimalText digits level → level < 2 ^ 32
      → AsksFor line (Text (codes "dictGetDescendants") ∷ Text name ∷ key ∷ Text digits ∷ []) []
      (asked_above verb.Descendants name (key ∷ []) level)
  reload : (name : List ℕ) → AsksFor line (Text (codes "reload") ∷ Text name ∷ []) [] (request.Reload name)
  status : (name : List ℕ) → AsksFor line (Text (codes "status") ∷ Text name ∷ []) [] (request.Status name)
  show : (name : List ℕ) → AsksFor line (Text (codes "show") ∷ Text name ∷ []) [] (request.Show name)
  after : (name digits : List ℕ) {number : ℕ} → IsDecimalText digits number
      → AsksFor line (Text (codes "after") ∷ Text name ∷ Text digits ∷ []) [] (request.After name number)
  config : AsksFor line (Text (codes "reloadConfig") ∷ []) [] request.Config
  quit : AsksFor line (Text (codes "quit") ∷ []) [] request.Quit

-- The lines, without their line feeds, are this request: each is a row of fields.
pub record IsRequest (first : List ℕ) (more : List (List ℕ)) (request : Request) : Type 0 where
  pub fields : List Field
  pub head : IsTabRow first fields
  pub rows : List (List Field)
  pub lines : AllZip IsTabRow more rows
  pub asks : AsksFor first fields rows request
