-- What a lookup gives for the fields of one line, by the definition and the rows alone.
use Rattle.std.specs.Prelude.{◌≡◌, ◌∷◌, ◌++◌, ◌⊎◌, [], ℕ, List, Bool, true, false, Option, Some, None, Ok, codes}
use Rattle.std.specs.Prelude.{decimal}
use Rattle.std.specs.Prelude.{is_some, map}
use Rattle.std.specs.List.{join_with_byte}
use Rattle.dict_schema.specs.declared.definition.Column.{Column}
use Rattle.dict_value.specs.Values.{reading}
use Rattle.dict_value.specs.declared.letters.TheConstants.{COMMA}
use Rattle.dict_value.specs.declared.value.Field.{Field}
use Rattle.dict_value.specs.declared.value.Value.{Value}
use Rattle.dict_value.specs.declared.value.Value.TheVariants.{Null}
use Rattle.dict_version.specs.Contents.{Contents}
use Rattle.dict_version.specs.Keys.{attribute_place, NamesParent, numbers_of, parents_of}
use Rattle.dict_version.specs.Lookups.{Finds}
use Rattle.dict_version.specs.Printed.{IsPrintedAt}
use Rattle.row_text.specs.Written.{printed}
use Rattle.dict_version.specs.declared.key.Key.{Key}
use Rattle.hier.specs.Hierarchy.{IsChain, IsDescendant, IsIn, IsRisingListOf}
use Rattle.hier.specs.declared.hier.Parent.{Parent}
use Rattle.wire_text.specs.declared.request.Asked.{Asked}
use Rattle.wire_text.specs.declared.request.Verb.{Verb}
use Rattle.wire_text.specs.declared.request.Verb.TheVariants as verb
use Rattle.dict_functions.specs.Asking.{IsAttributeNamed}
use Rattle.dict_functions.specs.Keys.{ReadsKey, ReadsNumbers}

-- what stands for an attribute where there is no row: its default, the given one, or NULL
abbrev pub StandsIn : Verb → Column → Field → Value → Type 0
StandsIn verb.Get column fallback v = v ≡ column.default
StandsIn verb.GetOrDefault column fallback v = reading column.ty fallback ≡ Ok v
StandsIn verb.GetOrNull column fallback v = v ≡ Null
StandsIn _ column fallback v = ⊥

-- the text of what stands in for an attribute
abbrev pub StandsInText : Asked → Column → List ℕ → Type 0
StandsInText q column text =
    (v : Value) × StandsIn q.verb column q.fallback v × (text ≡ printed column.ty.base v)

-- the text of the attribute in the row that was found, or of what stands in for it
abbrev pub IsCellText : Contents → Asked → ℕ → Column → Option ℕ → List ℕ → Type 0
IsCellText c q place column (Some row) text =
    IsPrintedAt c.definition c.rows row (attribute_place c.definition place) text
IsCellText c q place column None text = StandsInText q column text

-- the text of an attribute for a key: it is that of the row which the plain lookup finds
pub record IsAttributeText (c : Contents) (q : Asked) (fields : List Field) (text : List ℕ) : Type 0 where
  pub key : Key
  pub found : Option ℕ
  pub place : ℕ
  pub column : Column
  pub reads : ReadsKey c.definition fields key
  pub finds : Finds c.definition c.rows key found
  pub named : IsAttributeNamed c.definition q.attribute place column
  pub is : IsCellText c q place column found text

-- yes and no
abbrev pub flag : Bool → List ℕ
flag true = codes "1"
flag false = codes "0"

-- whether a row has the key
pub record IsHasText (c : Contents) (fields : List Field) (text : List ℕ) : Type 0 where
  pub key : Key
  pub found : Option ℕ
  pub reads : ReadsKey c.definition fields key
  pub finds : Finds c.definition c.rows key found
  pub is : text ≡ flag (is_some found)

-- a list of numbers as a reply has it
abbrev pub list_text : List ℕ → List ℕ
list_text numbers = codes "[" ++ (join_with_byte COMMA (map decimal numbers) ++ codes "]")

-- what a hierarchy is asked: the keys of the rows and their parents, what the line asks by, and the answer's text
abbrev pub OfHierarchy : Type 1
OfHierarchy = List ℕ → List Parent → List ℕ → List ℕ → Type 0

abbrev pub IsChainText : OfHierarchy
IsChainText keys parents (key ∷ []) text =
    (chain : List ℕ) × IsChain keys parents key chain × (text ≡ list_text chain)
IsChainText keys parents _ text = ⊥

abbrev pub IsInText : OfHierarchy
IsInText keys parents (key ∷ ancestor ∷ []) text =
    (IsIn keys parents key ancestor × (text ≡ flag true)) ⊎ (¬ (IsIn keys parents key ancestor) × (text ≡ flag false))
IsInText keys parents _ text = ⊥

-- the descendants of a key at a level
abbrev pub IsBelowText : ℕ → OfHierarchy
IsBelowText level keys parents (key ∷ []) text =
    (below : List ℕ) × IsRisingListOf (IsDescendant keys parents key level) below × (text ≡ list_text below)
IsBelowText level keys parents _ text = ⊥

-- what a verb asks a hierarchy
abbrev pub AnswersVerb : Verb → ℕ → OfHierarchy
AnswersVerb verb.Hierarchy level = IsChainText
AnswersVerb verb.IsIn level = IsInText
AnswersVerb verb.Children level = IsBelowText 1
AnswersVerb verb.Descendants level = IsBelowText level
AnswersVerb _ level = λ keys parents numbers text. ⊥

-- the hierarchy of the rows answers so
pub record IsHierarchyText (c : Contents) (q : Asked) (fields : List Field) (text : List ℕ) : Type 0 where
  pub column : ℕ
  pub numbers : List ℕ
  pub parent : NamesParent c.definition column
  pub reads : ReadsNumbers fields numbers
  pub is : AnswersVerb q.verb q.level (numbers_of c.rows) (parents_of c.definition column c.rows) numbers text

-- what a lookup gives for the fields of a line
abbrev pub IsTextBy : Verb → Contents → Asked → List Field → List ℕ → Type 0
IsTextBy verb.Get c q fields text = IsAttributeText c q fields text
IsTextBy verb.GetOrDefault c q fields text = IsAttributeText c q fields text
IsTextBy verb.GetOrNull c q fields text = IsAttributeText c q fields text
IsTextBy verb.Has c q fields text = IsHasText c fields text
IsTextBy verb.Hierarchy c q fields text = IsHierarchyText c q fields text
IsTextBy verb.IsIn c q fields text = IsHierarchyText c q fields text
IsTextBy verb.Children c q fields text = IsHierarchyText c q fields text
IsTextBy verb.Descendants c q fields text = IsHierarchyText c q fields text
IsTextBy verb.Call c q fields text = ⊥

abbrev pub IsText : Contents → Asked → List Field → List ℕ → Type 0
IsText c q fields text = IsTextBy q.verb c q fields text
