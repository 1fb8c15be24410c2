-- What fields ask for, by the word that stands first.
use Rattle.std.specs.Prelude.{◌≡◌, ◌≢◌, ◌⊎◌, ◌<◌, ◌^◌, ℕ, List, [], ◌∷◌, true, false, ⊤, length, Option, Some, None}
use Rattle.std.specs.Prelude.{Result, Ok, Err, option_and_then}
use Rattle.std.specs.List.{AllZip}
use Rattle.dict_value.specs.declared.fault.LineFault.{LineFault}
use Rattle.dict_value.specs.declared.fault.LineFault.TheVariants as fault
use Rattle.dict_value.specs.declared.value.Field.{Field}
use Rattle.dict_value.specs.declared.value.Field.TheVariants.{Text}
use Rattle.row_text.specs.TabRow.{IsTabRow}
use Rattle.wire_text.specs.Numbers.{IsDecimalText}
use Rattle.wire_text.specs.Requests.{IsBlockLine, asked_above, asked_of}
use Rattle.wire_text.specs.steps.Fields.{lookup_in, text_first, request_word}
use Rattle.wire_text.specs.declared.reading.Lookup.{Lookup}
use Rattle.wire_text.specs.declared.request.Request.{Request}
use Rattle.wire_text.specs.declared.request.Request.TheVariants as request
use Rattle.wire_text.specs.declared.request.RequestFault.{RequestFault}
use Rattle.wire_text.specs.declared.request.RequestFault.TheVariants.{Bad, NoMemory}
use Rattle.wire_text.specs.declared.request.Verb.{Verb}
use Rattle.wire_text.specs.declared.request.Verb.TheVariants as verb
use Rattle.wire_text.specs.declared.words.Word.{Word}
use Rattle.wire_text.specs.declared.words.Word.TheVariants as word

-- a lookup with at least one key
abbrev pub AsksLookup : Option Lookup → Request → Type 0
AsksLookup None r = ⊥
AsksLookup (Some l) r =
    (l.keys ≢ []) × (r ≡ asked_of l.verb l.name l.attribute l.fallback false (l.keys ∷ []))

-- a name, and so many keys of a hierarchy
abbrev pub AsksAbove : Verb → ℕ → List Field → Request → Type 0
AsksAbove verb count fields r = (name : List ℕ) × (keys : List Field)
    × (fields ≡ Text name ∷ keys) × (length keys ≡ count) × (r ≡ asked_above verb name keys 0)

-- a name, a key and a level
abbrev pub AsksBelow : List Field → Request → Type 0
AsksBelow fields r = (name : List ℕ) × (key : Field) × (digits : List ℕ) × (level : ℕ)
    × (fields ≡ Text name ∷ key ∷ Text digits ∷ []) × IsDecimalText digits level × (level < 2 ^ 32)
    × (r ≡ asked_above verb.Descendants name (key ∷ []) level)

-- a name alone
abbrev pub AsksNamed : (List ℕ → Request) → List Field → Request → Type 0
AsksNamed make fields r = (name : List ℕ) × (fields ≡ Text name ∷ []) × (r ≡ make name)

-- a name and a number
abbrev pub AsksAfter : List Field → Request → Type 0
AsksAfter fields r = (name : List ℕ) × (digits : List ℕ) × (number : ℕ)
    × (fields ≡ Text name ∷ Text digits ∷ []) × IsDecimalText digits number × (r ≡ request.After name number)

-- what the fields behind a word ask for, where no lines follow
abbrev pub AsksBy : Word → List Field → Request → Type 0
AsksBy word.Get fields r = AsksLookup (lookup_in word.Get fields) r
AsksBy word.GetOrDefault fields r = AsksLookup (lookup_in word.GetOrDefault fields) r
AsksBy word.GetOrNull fields r = AsksLookup (lookup_in word.GetOrNull fields) r
AsksBy word.Has fields r = AsksLookup (lookup_in word.Has fields) r
AsksBy word.Call fields r = AsksLookup (lookup_in word.Call fields) r
AsksBy word.Hierarchy fields r = AsksAbove verb.Hierarchy 1 fields r
AsksBy word.Children fields r = AsksAbove verb.Children 1 fields r
AsksBy word.IsIn fields r = AsksAbove verb.IsIn 2 fields r
AsksBy word.Descendants fields r = AsksBelow fields r
AsksBy word.Many fields r = ⊥
AsksBy word.Reload fields r = AsksNamed request.Reload fields r
AsksBy word.Status fields r = AsksNamed request.Status fields r
AsksBy word.Show fields r = AsksNamed request.Show fields r
AsksBy word.After fields r = AsksAfter fields r
AsksBy word.Config fields r = (fields ≡ []) × (r ≡ request.Config)
AsksBy word.Quit fields r = (fields ≡ []) × (r ≡ request.Quit)

-- the lookup of a block: its keys stand in lines of their own
abbrev pub head_in : List Field → Option Lookup
head_in fields = option_and_then (λ (first : List ℕ × List Field).
    option_and_then (λ (w : Word). lookup_in w first.1) (request_word first.0)) (text_first fields)

abbrev pub AsksHead : Option Lookup → List (List Field) → Request → Type 0
AsksHead None rows r = ⊥
AsksHead (Some l) rows r = (l.keys ≡ []) × (r ≡ asked_of l.verb l.name l.attribute l.fallback true rows)

-- what the fields behind the word of a block ask for
abbrev pub AsksBlock : List ℕ → List Field → List (List Field) → Request → Type 0
AsksBlock line fields rows r = (count : Field) × (head : List Field)
    × (fields ≡ count ∷ head) × IsBlockLine line (length rows) × AsksHead (head_in head) rows r

-- what the fields behind a word, and the lines that follow, ask for
abbrev pub AsksBehind : Word → List ℕ → List Field → List (List Field) → Request → Type 0
AsksBehind w line fields rows r =
    ((w ≡ word.Many) × AsksBlock line fields rows r) ⊎ ((rows ≡ []) × AsksBy w fields r)

-- the answer is what is asked for, or that nothing is; or no memory was found
abbrev pub ReadsBy : (Request → Type 0) → Result Request RequestFault → Type 0
ReadsBy asks (Ok r) = asks r
ReadsBy asks (Err Bad) = (r : Request) → ¬ asks r
ReadsBy asks (Err NoMemory) = ⊤

-- the words behind which a name stands alone, and those that stand alone
abbrev pub IsNaming : Word → Type 0
IsNaming word.Reload = ⊤
IsNaming word.Status = ⊤
IsNaming word.Show = ⊤
IsNaming _ = ⊥

abbrev pub IsBareWord : Word → Type 0
IsBareWord word.Config = ⊤
IsBareWord word.Quit = ⊤
IsBareWord _ = ⊥

-- what the fault of a line makes of its request
abbrev pub request_fault : LineFault → RequestFault
request_fault fault.NoMemory = NoMemory
request_fault _ = Bad

-- the fields of a line, which has no others, or that it has none
abbrev pub RowRead : List ℕ → Result (List Field) RequestFault → Type 0
RowRead line (Ok fields) = IsTabRow line fields × ((other : List Field) → IsTabRow line other → other ≡ fields)
RowRead line (Err Bad) = (fields : List Field) → ¬ IsTabRow line fields
RowRead line (Err NoMemory) = ⊤

-- the same of lines
abbrev pub RowsRead : List (List ℕ) → Result (List (List Field)) RequestFault → Type 0
RowsRead lines (Ok rows) =
    AllZip IsTabRow lines rows × ((others : List (List Field)) → AllZip IsTabRow lines others → others ≡ rows)
RowsRead lines (Err Bad) = (rows : List (List Field)) → ¬ AllZip IsTabRow lines rows
RowsRead lines (Err NoMemory) = ⊤
