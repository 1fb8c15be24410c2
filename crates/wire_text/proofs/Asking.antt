-- What the fields of a request's lines ask for: the table, and the reading by the first word, are one.
use Rattle.std.proofs.Common.{◌≡◌, ◌≢◌, ◌++◌, ◌∙◌, ℕ, List, [], ◌∷◌, Bool, true, false, Option, Some, None}
use Rattle.std.proofs.Common.{length, codes, sym, ap, refl, subst, inl, inr, arith, bytes_eq, option_and_then, append-nil, if◌then◌else◌}
use Rattle.std.proofs.lemmas.Slice.Eq.{bytes_eq-Decides}
use Rattle.std.specs.Bool.{Decides}
use Rattle.dict_value.specs.declared.value.Field.{Field}
use Rattle.dict_value.specs.declared.value.Field.TheVariants.{Null, Text}
use Rattle.wire_text.specs.Requests.{AsksFor, IsBlockLine, IsVerbHead, asked_above, asked_of}
use Rattle.wire_text.specs.steps.Asked.{AsksBehind, AsksBy, AsksHead, AsksLookup, head_in}
use Rattle.wire_text.specs.steps.Fields.{attribute_in, default_in, lookup_in, lookup_of, lookup_word_in, plain_in, request_word}
use Rattle.wire_text.specs.declared.reading.Lookup.{Lookup}
use Rattle.wire_text.specs.declared.request.Request.{Request}
use Rattle.wire_text.specs.declared.request.Verb.{Verb}
use Rattle.wire_text.specs.declared.request.Verb.TheVariants as verb
use Rattle.wire_text.specs.declared.words.Word.{Word}
use Rattle.wire_text.specs.declared.words.Word.TheVariants as word

-- how a word is spelled
abbrev spelled : Word → List ℕ
spelled word.Get = codes "dictGet"
spelled word.GetOrDefault = codes "dictGetOrDefault"
spelled word.GetOrNull = codes "dictGetOrNull"
spelled word.Has = codes "dictHas"
spelled word.Call = codes "call"
spelled word.Hierarchy = codes "dictGetHierarchy"
spelled word.Children = codes "dictGetChildren"
spelled word.IsIn = codes "dictIsIn"
spelled word.Descendants = codes "dictGetDescendants"
spelled word.Many = codes "many"
spelled word.Reload = codes "reload"
spelled word.Status = codes "status"
spelled word.Show = codes "show"
spelled word.After = codes "after"
spelled word.Config = codes "reloadConfig"
spelled word.Quit = codes "quit"

-- one word is tried, then the rest
tried : (t : List ℕ) (v : Word) (rest : Option Word) (w : Word) (b : Bool) → Decides b (t ≡ spelled v)
    → (if b then Some v else rest) ≡ Some w → (rest ≡ Some w → t ≡ spelled w) → t ≡ spelled w
tried t v rest w true d e next = let same : v ≡ w = cc in d.0 refl ∙ ap spelled same
tried t v rest w false d e next = next e

word_tried : (t : List ℕ) (v : Word) (rest : Option Word) (w : Word)
    → (if bytes_eq t (spelled v) then Some v else rest) ≡ Some w → (rest ≡ Some w → t ≡ spelled w) → t ≡ spelled w
word_tried t v rest w e next = tried t v rest w (bytes_eq t (spelled v)) (bytes_eq-Decides t (spelled v)) e next

-- a word of a lookup is spelled as it is read
lookup_word_is : (t : List ℕ) (w : Word) → lookup_word_in t ≡ Some w → t ≡ spelled w
lookup_word_is t w e =
    word_tried t word.Get _ w e λ e.
    word_tried t word.GetOrDefault _ w e λ e.
    word_tried t word.GetOrNull _ w e λ e.
    word_tried t word.Has _ w e λ e.
    word_tried t word.Call _ w e λ e.
    word_tried t word.Hierarchy _ w e λ e.
    word_tried t word.Children _ w e λ e.
    word_tried t word.IsIn _ w e λ e.
    word_tried t word.Descendants _ w e λ e. let none : None ≡ Some w = e in cc

-- a word is spelled as it is read
word_is : (t : List ℕ) (w : Word) → request_word t ≡ Some w → t ≡ spelled w
word_is t w e =
    word_tried t word.Many _ w e λ e.
    word_tried t word.Reload _ w e λ e.
    word_tried t word.Status _ w e λ e.
    word_tried t word.Show _ w e λ e.
    word_tried t word.After _ w e λ e.
    word_tried t word.Config _ w e λ e.
    word_tried t word.Quit _ w e λ e. lookup_word_is t w e

-- a request whose first field is this word
pub record AsksWord (line : List ℕ) (fields : List Field) (rows : List (List Field)) (r : Request) : Type 0 where
  pub text : List ℕ
  pub rest : List Field
  pub word : Word
  pub first : fields ≡ Text text ∷ rest
  pub read : request_word text ≡ Some word
  pub behind : AsksBehind word line rest rows r

-- the lookup of a block is the table's
head_told : (rows : List (List Field)) {head : List Field} {verb : Verb} {name attribute : List ℕ} {fallback : Field}
    → IsVerbHead head verb name attribute fallback
    → AsksHead (head_in head) rows (asked_of verb name attribute fallback true rows)
head_told rows (IsVerbHead.get name attribute) = (refl, refl)
head_told rows (IsVerbHead.get_or_default name attribute fallback) = (refl, refl)
head_told rows (IsVerbHead.get_or_null name attribute) = (refl, refl)
head_told rows (IsVerbHead.has name) = (refl, refl)
head_told rows (IsVerbHead.call name) = (refl, refl)

-- a lookup of the table has its word
lookup_told : (line : List ℕ) {head : List Field} {verb : Verb} {name attribute : List ℕ} {fallback : Field}
    (keys fields : List Field) → fields ≡ head ++ keys → IsVerbHead head verb name attribute fallback → keys ≢ []
    → AsksWord line fields [] (asked_of verb name attribute fallback false (keys ∷ []))
lookup_told line keys fields e (IsVerbHead.get name attribute) some = record {
  text = codes "dictGet";
  rest = Text name ∷ Text attribute ∷ keys;
  word = word.Get;
  first = e;
  read = refl;
  behind = inr (refl, (some, refl));
}
lookup_told line keys fields e (IsVerbHead.get_or_default name attribute fallback) some = record {
  text = codes "dictGetOrDefault";
  rest = Text name ∷ Text attribute ∷ fallback ∷ keys;
  word = word.GetOrDefault;
  first = e;
  read = refl;
  behind = inr (refl, (some, refl));
}
lookup_told line keys fields e (IsVerbHead.get_or_null name attribute) some = record {
  text = codes "dictGetOrNull";
  rest = Text name ∷ Text attribute ∷ keys;
  word = word.GetOrNull;
  first = e;
  read = refl;
  behind = inr (refl, (some, refl));
}
lookup_told line keys fields e (IsVerbHead.has name) some = record {
  text = codes "dictHas";
  rest = Text name ∷ keys;
  word = word.Has;
  first = e;
  read = refl;
  behind = inr (refl, (some, refl));
}
lookup_told line keys fields e (IsVerbHead.call name) some = record {
  text = codes "call";
  rest = Text name ∷ keys;
  word = word.Call;
  first = e;
  read = refl;
  behind = inr (refl, (some, refl));
}

-- from the table to the word
pub told : (line : List ℕ) {fields : List Field} {rows : List (List Field)} {r : Request}
    → AsksFor line fields rows r → AsksWord line fields rows r
told line (AsksFor.single {keys = keys} {fields = fields} e lookup some) = lookup_told line keys fields e lookup some
told line (AsksFor.block {head = head} {lines = lines} count block lookup) = record {
  text = codes "many";
  rest = count ∷ head;
  word = word.Many;
  first = refl;
  read = refl;
  behind = inl (refl, (count, head, refl, block, head_told lines lookup));
}
told line (AsksFor.chain name key) = record {
  text = codes "dictGetHierarchy";
  rest = Text name ∷ key ∷ [];
  word = word.Hierarchy;
  first = refl;
  read = refl;
  behind = inr (refl, (name, key ∷ [], refl, refl, refl));
}
told line (AsksFor.children name key) = record {
  text = codes "dictGetChildren";
  rest = Text name ∷ key ∷ [];
  word = word.Children;
  first = refl;
  read = refl;
  behind = inr (refl, (name, key ∷ [], refl, refl, refl));
}
told line (AsksFor.is_in name key ancestor) = record {
  text = codes "dictIsIn";
  rest = Text name ∷ key ∷ ancestor ∷ [];
  word = word.IsIn;
  first = refl;
  read = refl;
  behind = inr (refl, (name, key ∷ ancestor ∷ [], refl, refl, refl));
}
told line (AsksFor.descendants name digits key {level = level} number small) = record {
  text = codes "dictGetDescendants";
  rest = Text name ∷ key ∷ Text digits ∷ [];
  word = word.Descendants;
  first = refl;
  read = refl;
  behind = inr (refl, (name, key, digits, level, refl, number, small, refl));
}
told line (AsksFor.reload name) = record {
  text = codes "reload";
  rest = Text name ∷ [];
  word = word.Reload;
  first = refl;
  read = refl;
  behind = inr (refl, (name, refl, refl));
}
told line (AsksFor.status name) = record {
  text = codes "status";
  rest = Text name ∷ [];
  word = word.Status;
  first = refl;
  read = refl;
  behind = inr (refl, (name, refl, refl));
}
told line (AsksFor.show name) = record {
  text = codes "show";
  rest = Text name ∷ [];
  word = word.Show;
  first = refl;
  read = refl;
  behind = inr (refl, (name, refl, refl));
}
told line (AsksFor.after name digits {number = n} number) = record {
  text = codes "after";
  rest = Text name ∷ Text digits ∷ [];
  word = word.After;
  first = refl;
  read = refl;
  behind = inr (refl, (name, digits, n, refl, number, refl));
}
told line AsksFor.config = record {
  text = codes "reloadConfig";
  rest = [];
  word = word.Config;
  first = refl;
  read = refl;
  behind = inr (refl, (refl, refl));
}
told line AsksFor.quit = record {
  text = codes "quit";
  rest = [];
  word = word.Quit;
  first = refl;
  read = refl;
  behind = inr (refl, (refl, refl));
}

-- what a lookup's fields are
record Looked (w : Word) (fields : List Field) (l : Lookup) : Type 0 where
  head : List Field
  whole : Text (spelled w) ∷ fields ≡ head ++ l.keys
  lookup : IsVerbHead head l.verb l.name l.attribute l.fallback

looked_get : (fields : List Field) (l : Lookup) → attribute_in verb.Get fields ≡ Some l → Looked word.Get fields l
looked_get [] l e = let none : None ≡ Some l = e in cc
looked_get (Null ∷ fields) l e = let none : None ≡ Some l = e in cc
looked_get (Text n ∷ []) l e = let none : None ≡ Some l = e in cc
looked_get (Text n ∷ Null ∷ fields) l e = let none : None ≡ Some l = e in cc
looked_get (Text n ∷ Text a ∷ keys) l e =
    let one : lookup_of verb.Get n a Null keys ≡ l = cc in
    subst (λ (l : Lookup). Looked word.Get (Text n ∷ Text a ∷ keys) l) one
    record { head = Text (codes "dictGet") ∷ Text n ∷ Text a ∷ []; whole = refl; lookup = IsVerbHead.get n a }

looked_or_null : (fields : List Field) (l : Lookup) → attribute_in verb.GetOrNull fields ≡ Some l → Looked word.GetOrNull fields l
looked_or_null [] l e = let none : None ≡ Some l = e in cc
looked_or_null (Null ∷ fields) l e = let none : None ≡ Some l = e in cc
looked_or_null (Text n ∷ []) l e = let none : None ≡ Some l = e in cc
looked_or_null (Text n ∷ Null ∷ fields) l e = let none : None ≡ Some l = e in cc
looked_or_null (Text n ∷ Text a ∷ keys) l e =
    let one : lookup_of verb.GetOrNull n a Null keys ≡ l = cc in
    subst (λ (l : Lookup). Looked word.GetOrNull (Text n ∷ Text a ∷ keys) l) one
    record { head = Text (codes "dictGetOrNull") ∷ Text n ∷ Text a ∷ []; whole = refl; lookup = IsVerbHead.get_or_null n a }

looked_or_default : (fields : List Field) (l : Lookup) → default_in fields ≡ Some l → Looked word.GetOrDefault fields l
looked_or_default [] l e = let none : None ≡ Some l = e in cc
looked_or_default (Null ∷ fields) l e = let none : None ≡ Some l = e in cc
looked_or_default (Text n ∷ []) l e = let none : None ≡ Some l = e in cc
looked_or_default (Text n ∷ Null ∷ fields) l e = let none : None ≡ Some l = e in cc
looked_or_default (Text n ∷ Text a ∷ []) l e = let none : None ≡ Some l = e in cc
looked_or_default (Text n ∷ Text a ∷ fallback ∷ keys) l e =
    let one : lookup_of verb.GetOrDefault n a fallback keys ≡ l = cc in
    subst (λ (l : Lookup). Looked word.GetOrDefault (Text n ∷ Text a ∷ fallback ∷ keys) l) one
    record {
      head = Text (codes "dictGetOrDefault") ∷ Text n ∷ Text a ∷ fallback ∷ [];
      whole = refl;
      lookup = IsVerbHead.get_or_default n a fallback;
    }

looked_has : (fields : List Field) (l : Lookup) → plain_in verb.Has fields ≡ Some l → Looked word.Has fields l
looked_has [] l e = let none : None ≡ Some l = e in cc
looked_has (Null ∷ fields) l e = let none : None ≡ Some l = e in cc
looked_has (Text n ∷ keys) l e =
    let one : lookup_of verb.Has n [] Null keys ≡ l = cc in
    subst (λ (l : Lookup). Looked word.Has (Text n ∷ keys) l) one
    record { head = Text (codes "dictHas") ∷ Text n ∷ []; whole = refl; lookup = IsVerbHead.has n }

looked_call : (fields : List Field) (l : Lookup) → plain_in verb.Call fields ≡ Some l → Looked word.Call fields l
looked_call [] l e = let none : None ≡ Some l = e in cc
looked_call (Null ∷ fields) l e = let none : None ≡ Some l = e in cc
looked_call (Text n ∷ keys) l e =
    let one : lookup_of verb.Call n [] Null keys ≡ l = cc in
    subst (λ (l : Lookup). Looked word.Call (Text n ∷ keys) l) one
    record { head = Text (codes "call") ∷ Text n ∷ []; whole = refl; lookup = IsVerbHead.call n }

looked : (w : Word) (fields : List Field) (l : Lookup) → lookup_in w fields ≡ Some l → Looked w fields l
looked word.Get fields l e = looked_get fields l e
looked word.GetOrDefault fields l e = looked_or_default fields l e
looked word.GetOrNull fields l e = looked_or_null fields l e
looked word.Has fields l e = looked_has fields l e
looked word.Call fields l e = looked_call fields l e
looked _ fields l e = let none : None ≡ Some l = e in cc

-- the table at equal fields and requests
moved : (line : List ℕ) (f g : List Field) (rows : List (List Field)) (q r : Request)
    → f ≡ g → q ≡ r → AsksFor line g rows r → AsksFor line f rows q
moved line f g rows q r e s p = rw (e, s) p

-- a lookup with keys is one of the table
single_is : (line : List ℕ) (w : Word) (rest : List Field) (r : Request) (o : Option Lookup) → lookup_in w rest ≡ o
    → AsksLookup o r → AsksFor line (Text (spelled w) ∷ rest) [] r
single_is line w rest r None e p = absurd p
single_is line w rest r (Some l) e p =
    let at = looked w rest l e in
    subst (λ (r : Request). AsksFor line (Text (spelled w) ∷ rest) [] r) (sym p.1)
    (AsksFor.single at.whole at.lookup p.0)

above_chain : (line : List ℕ) (rest : List Field) (r : Request) (name : List ℕ) (keys : List Field)
    → rest ≡ Text name ∷ keys → length keys ≡ 1 → r ≡ asked_above verb.Hierarchy name keys 0
    → AsksFor line (Text (codes "dictGetHierarchy") ∷ rest) [] r
above_chain line rest r name [] e one s = absurd (omega arith)
above_chain line rest r name (key ∷ []) e one s =
    moved line _ _ [] _ _ (ap (λ (f : List Field). Text (codes "dictGetHierarchy") ∷ f) e) s (AsksFor.chain name key)
above_chain line rest r name (key ∷ more ∷ keys) e one s = absurd (omega arith)

above_children : (line : List ℕ) (rest : List Field) (r : Request) (name : List ℕ) (keys : List Field)
    → rest ≡ Text name ∷ keys → length keys ≡ 1 → r ≡ asked_above verb.Children name keys 0
    → AsksFor line (Text (codes "dictGetChildren") ∷ rest) [] r
above_children line rest r name [] e one s = absurd (omega arith)
above_children line rest r name (key ∷ []) e one s =
    moved line _ _ [] _ _ (ap (λ (f : List Field). Text (codes "dictGetChildren") ∷ f) e) s (AsksFor.children name key)
above_children line rest r name (key ∷ more ∷ keys) e one s = absurd (omega arith)

above_is_in : (line : List ℕ) (rest : List Field) (r : Request) (name : List ℕ) (keys : List Field)
    → rest ≡ Text name ∷ keys → length keys ≡ 2 → r ≡ asked_above verb.IsIn name keys 0
    → AsksFor line (Text (codes "dictIsIn") ∷ rest) [] r
above_is_in line rest r name [] e two s = absurd (omega arith)
above_is_in line rest r name (key ∷ []) e two s = absurd (omega arith)
above_is_in line rest r name (key ∷ ancestor ∷ []) e two s =
    moved line _ _ [] _ _ (ap (λ (f : List Field). Text (codes "dictIsIn") ∷ f) e) s (AsksFor.is_in name key ancestor)
above_is_in line rest r name (key ∷ ancestor ∷ more ∷ keys) e two s = absurd (omega arith)

-- from a word to the table, where no lines follow
by_told : (line : List ℕ) (w : Word) (rest : List Field) (r : Request) → AsksBy w rest r
    → AsksFor line (Text (spelled w) ∷ rest) [] r
by_told line word.Get rest r p = single_is line word.Get rest r (lookup_in word.Get rest) refl p
by_told line word.GetOrDefault rest r p = single_is line word.GetOrDefault rest r (lookup_in word.GetOrDefault rest) refl p
by_told line word.GetOrNull rest r p = single_is line word.GetOrNull rest r (lookup_in word.GetOrNull rest) refl p
by_told line word.Has rest r p = single_is line word.Has rest r (lookup_in word.Has rest) refl p
by_told line word.Call rest r p = single_is line word.Call rest r (lookup_in word.Call rest) refl p
by_told line word.Hierarchy rest r p = above_chain line rest r p.0 p.1 p.2 p.3 p.4
by_told line word.Children rest r p = above_children line rest r p.0 p.1 p.2 p.3 p.4
by_told line word.IsIn rest r p = above_is_in line rest r p.0 p.1 p.2 p.3 p.4
by_told line word.Descendants rest r p =
    moved line _ _ [] _ _ (ap (λ (f : List Field). Text (codes "dictGetDescendants") ∷ f) p.4) p.7
    (AsksFor.descendants p.0 p.2 p.1 p.5 p.6)
by_told line word.Many rest r p = absurd p
by_told line word.Reload rest r p =
    moved line _ _ [] _ _ (ap (λ (f : List Field). Text (codes "reload") ∷ f) p.1) p.2 (AsksFor.reload p.0)
by_told line word.Status rest r p =
    moved line _ _ [] _ _ (ap (λ (f : List Field). Text (codes "status") ∷ f) p.1) p.2 (AsksFor.status p.0)
by_told line word.Show rest r p =
    moved line _ _ [] _ _ (ap (λ (f : List Field). Text (codes "show") ∷ f) p.1) p.2 (AsksFor.show p.0)
by_told line word.After rest r p =
    moved line _ _ [] _ _ (ap (λ (f : List Field). Text (codes "after") ∷ f) p.3) p.5 (AsksFor.after p.0 p.1 p.4)
by_told line word.Config rest r p =
    moved line _ _ [] _ _ (ap (λ (f : List Field). Text (codes "reloadConfig") ∷ f) p.0) p.1 AsksFor.config
by_told line word.Quit rest r p =
    moved line _ _ [] _ _ (ap (λ (f : List Field). Text (codes "quit") ∷ f) p.0) p.1 AsksFor.quit

-- the lookup of a block is one of the table
block_looked : (line : List ℕ) (count : Field) (w : Word) (fields head : List Field) (rows : List (List Field)) (r : Request)
    (o : Option Lookup) → lookup_in w fields ≡ o → head ≡ Text (spelled w) ∷ fields → IsBlockLine line (length rows)
    → AsksHead o rows r → AsksFor line (Text (codes "many") ∷ count ∷ head) rows r
block_looked line count w fields head rows r None e h block p = absurd p
block_looked line count w fields head rows r (Some l) e h block p =
    let at = looked w fields l e in
    let same : head ≡ at.head = h ∙ at.whole ∙ ap (λ (k : List Field). at.head ++ k) p.0 ∙ append-nil at.head in
    moved line _ _ rows _ _ (ap (λ (f : List Field). Text (codes "many") ∷ count ∷ f) same) p.1
    (AsksFor.block count block at.lookup)

block_worded : (line : List ℕ) (count : Field) (text : List ℕ) (fields : List Field) (rows : List (List Field)) (r : Request)
    (o : Option Word) → request_word text ≡ o → IsBlockLine line (length rows)
    → AsksHead (option_and_then (λ (w : Word). lookup_in w fields) o) rows r
    → AsksFor line (Text (codes "many") ∷ count ∷ Text text ∷ fields) rows r
block_worded line count text fields rows r None e block p = absurd p
block_worded line count text fields rows r (Some w) e block p =
    block_looked line count w fields (Text text ∷ fields) rows r (lookup_in w fields) refl
    (ap (λ (t : List ℕ). Text t ∷ fields) (word_is text w e)) block p

block_headed : (line : List ℕ) (count : Field) (head : List Field) (rows : List (List Field)) (r : Request)
    → IsBlockLine line (length rows) → AsksHead (head_in head) rows r
    → AsksFor line (Text (codes "many") ∷ count ∷ head) rows r
block_headed line count [] rows r block p = absurd p
block_headed line count (Null ∷ fields) rows r block p = absurd p
block_headed line count (Text text ∷ fields) rows r block p =
    block_worded line count text fields rows r (request_word text) refl block p

-- from the word to the table
behind_told : (line : List ℕ) (w : Word) (rest : List Field) (rows : List (List Field)) (r : Request)
    → AsksBehind w line rest rows r → AsksFor line (Text (spelled w) ∷ rest) rows r
behind_told line w rest rows r (inl p) =
    let block = p.1 in
    moved line _ _ rows _ _ (ap (λ (v : Word). Text (spelled v) ∷ rest) p.0 ∙ ap (λ (f : List Field). Text (codes "many") ∷ f) block.2) refl
    (block_headed line block.0 block.1 rows r block.3 block.4)
behind_told line w rest rows r (inr p) =
    subst (λ (rows : List (List Field)). AsksFor line (Text (spelled w) ∷ rest) rows r) (sym p.0) (by_told line w rest r p.1)

pub tabled : (line : List ℕ) (text : List ℕ) (w : Word) (fields rest : List Field) (rows : List (List Field)) (r : Request)
    → fields ≡ Text text ∷ rest → request_word text ≡ Some w → AsksBehind w line rest rows r → AsksFor line fields rows r
tabled line text w fields rest rows r e read behind =
    moved line _ _ rows _ _ (e ∙ ap (λ (t : List ℕ). Text t ∷ rest) (word_is text w read)) refl (behind_told line w rest rows r behind)

-- the lookup of a block that is read is the table's
head_worded : (text : List ℕ) (fields : List Field) (l : Lookup) (o : Option Word) → request_word text ≡ o
    → option_and_then (λ (w : Word). lookup_in w fields) o ≡ Some l → l.keys ≡ []
    → IsVerbHead (Text text ∷ fields) l.verb l.name l.attribute l.fallback
head_worded text fields l None e f none = let nothing : None ≡ Some l = f in cc
head_worded text fields l (Some w) e f none =
    let at = looked w fields l f in
    let same : Text text ∷ fields ≡ at.head =
    ap (λ (t : List ℕ). Text t ∷ fields) (word_is text w e) ∙ at.whole ∙ ap (λ (k : List Field). at.head ++ k) none ∙ append-nil at.head in
    subst (λ (h : List Field). IsVerbHead h l.verb l.name l.attribute l.fallback) (sym same) at.lookup

pub head_read : (head : List Field) (l : Lookup) → head_in head ≡ Some l → l.keys ≡ []
    → IsVerbHead head l.verb l.name l.attribute l.fallback
head_read [] l e none = let nothing : None ≡ Some l = e in cc
head_read (Null ∷ fields) l e none = let nothing : None ≡ Some l = e in cc
head_read (Text text ∷ fields) l e none = head_worded text fields l (request_word text) refl e none

-- a lookup of the table is read, without keys
pub head_found : {head : List Field} {verb : Verb} {name attribute : List ℕ} {fallback : Field}
    → IsVerbHead head verb name attribute fallback → head_in head ≡ Some (lookup_of verb name attribute fallback [])
head_found (IsVerbHead.get name attribute) = refl
head_found (IsVerbHead.get_or_default name attribute fallback) = refl
head_found (IsVerbHead.get_or_null name attribute) = refl
head_found (IsVerbHead.has name) = refl
head_found (IsVerbHead.call name) = refl

-- the word of a block is spelled so
pub many_is : (text : List ℕ) → request_word text ≡ Some word.Many → text ≡ codes "many"
many_is text e = word_is text word.Many e
