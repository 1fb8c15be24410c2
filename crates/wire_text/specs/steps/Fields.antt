-- What the fields of a request's lines ask for, as a function.
use Rattle.std.specs.Prelude.{ℕ, List, [], ◌∷◌, Option, Some, None, codes, option_and_then}
use Rattle.std.specs.Prelude.{if◌then◌else◌}
use Rattle.std.specs.Str.{bytes_eq}
use Rattle.dict_value.specs.declared.value.Field.{Field}
use Rattle.dict_value.specs.declared.value.Field.TheVariants.{Null, Text}
use Rattle.wire_text.specs.declared.reading.Lookup.{Lookup}
use Rattle.wire_text.specs.declared.request.Verb.{Verb}
use Rattle.wire_text.specs.declared.request.Verb.TheVariants as verb
use Rattle.wire_text.specs.declared.words.Word.{Word}
use Rattle.wire_text.specs.declared.words.Word.TheVariants as word

abbrev pub lookup_word_in : List ℕ → Option Word
lookup_word_in text =
    if bytes_eq text (codes "dictGet") then Some word.Get
    else if bytes_eq text (codes "dictGetOrDefault") then Some word.GetOrDefault
    else if bytes_eq text (codes "dictGetOrNull") then Some word.GetOrNull
    else if bytes_eq text (codes "dictHas") then Some word.Has
    else if bytes_eq text (codes "call") then Some word.Call
    else if bytes_eq text (codes "dictGetHierarchy") then Some word.Hierarchy
    else if bytes_eq text (codes "dictGetChildren") then Some word.Children
    else if bytes_eq text (codes "dictIsIn") then Some word.IsIn
    else if bytes_eq text (codes "dictGetDescendants") then Some word.Descendants
    else None

abbrev pub request_word : List ℕ → Option Word
request_word text =
    if bytes_eq text (codes "many") then Some word.Many
    else if bytes_eq text (codes "reload") then Some word.Reload
    else if bytes_eq text (codes "status") then Some word.Status
    else if bytes_eq text (codes "show") then Some word.Show
    else if bytes_eq text (codes "after") then Some word.After
    else if bytes_eq text (codes "reloadConfig") then Some word.Config
    else if bytes_eq text (codes "quit") then Some word.Quit
    else lookup_word_in text

-- the first field, where it is a text, and the others
abbrev pub text_first : List Field → Option (List ℕ × List Field)
text_first (Text text ∷ fields) = Some (text, fields)
text_first _ = None

-- the first field, and the others
abbrev pub field_first : List Field → Option (Field × List Field)
field_first [] = None
field_first (field ∷ fields) = Some (field, fields)

abbrev pub lookup_of : Verb → List ℕ → List ℕ → Field → List Field → Lookup
lookup_of verb name attribute fallback keys =
    record { verb = verb; name = name; attribute = attribute; fallback = fallback; keys = keys }

-- a name and an attribute stand before the keys
abbrev pub attribute_in : Verb → List Field → Option Lookup
attribute_in verb fields =
    option_and_then (λ (name : List ℕ × List Field).
    option_and_then (λ (attribute : List ℕ × List Field).
    Some (lookup_of verb name.0 attribute.0 Null attribute.1)) (text_first name.1)) (text_first fields)

-- a name, an attribute and what is answered where no row has the key stand before the keys
abbrev pub default_in : List Field → Option Lookup
default_in fields =
    option_and_then (λ (name : List ℕ × List Field).
    option_and_then (λ (attribute : List ℕ × List Field).
    option_and_then (λ (fallback : Field × List Field).
    Some (lookup_of verb.GetOrDefault name.0 attribute.0 fallback.0 fallback.1))
    (field_first attribute.1)) (text_first name.1)) (text_first fields)

-- a name stands before the keys
abbrev pub plain_in : Verb → List Field → Option Lookup
plain_in verb fields =
    option_and_then (λ (name : List ℕ × List Field). Some (lookup_of verb name.0 [] Null name.1)) (text_first fields)

-- what a lookup asks for, by its word and the fields behind it
abbrev pub lookup_in : Word → List Field → Option Lookup
lookup_in word.Get fields = attribute_in verb.Get fields
lookup_in word.GetOrDefault fields = default_in fields
lookup_in word.GetOrNull fields = attribute_in verb.GetOrNull fields
lookup_in word.Has fields = plain_in verb.Has fields
lookup_in word.Call fields = plain_in verb.Call fields
lookup_in _ fields = None
