-- A request has one answer.
use Rattle.std.proofs.Common.{◌≡◌, ◌≢◌, ◌∙◌, ℕ, List, [], ◌∷◌, Option, Some, None, Result, Ok, Err, sym, ap, refl, subst, inl, inr}
use Rattle.dict_value.specs.Memory.{UnlessNoMemory}
use Rattle.dict_value.specs.declared.value.Field.{Field}
use Rattle.dict_value.specs.declared.value.Field.TheVariants.{Text}
use Rattle.row_text.proofs.OneReading.{one-row}
use Rattle.row_text.proofs.Tabled.{same-rows}
use Rattle.row_text.specs.TabRow.{IsTabRow}
use Rattle.wire_text.proofs.Asking.{tabled, told}
use Rattle.wire_text.specs.Requests.{AsksFor, IsRequest}
use Rattle.wire_text.specs.steps.Asked.{AsksAbove, AsksBehind, AsksBlock, AsksBy, AsksHead, AsksLookup, AsksNamed, ReadsBy, RowRead, RowsRead, head_in}
use Rattle.wire_text.specs.steps.Fields.{lookup_in, request_word}
use Rattle.wire_text.specs.declared.reading.Lookup.{Lookup}
use Rattle.wire_text.specs.declared.request.Request.{Request}
use Rattle.wire_text.specs.declared.request.Request.TheVariants as request
use Rattle.wire_text.specs.declared.request.RequestFault.{RequestFault}
use Rattle.wire_text.specs.declared.request.RequestFault.TheVariants.{Bad, NoMemory}
use Rattle.wire_text.specs.declared.request.Verb.{Verb}
use Rattle.wire_text.specs.declared.request.Verb.TheVariants as verb
use Rattle.wire_text.specs.declared.words.Word.{Word}
use Rattle.wire_text.specs.declared.words.Word.TheVariants as word

-- two ways to say what is asked for have one answer
pub carried : (P Q : Request → Type 0) → ((r : Request) → P r → Q r) → ((r : Request) → Q r → P r)
    → (answer : Result Request RequestFault) → ReadsBy P answer → ReadsBy Q answer
carried P Q to back (Ok r) p = to r p
carried P Q to back (Err Bad) none = λ r q. none r (back r q)
carried P Q to back (Err NoMemory) p = tt

-- the table's request is the one that its word tells
worded : (line text : List ℕ) (w : Word) (fields rest : List Field) (rows : List (List Field)) (r : Request)
    → fields ≡ Text text ∷ rest → request_word text ≡ Some w → AsksFor line fields rows r → AsksBehind w line rest rows r
worded line text w fields rest rows r e read p =
    let q = told line p in
    let stands : Text q.text ∷ q.rest ≡ Text text ∷ rest = sym q.first ∙ e in
    let same_rest : q.rest ≡ rest = cc in
    let same_text : q.text ≡ text = cc in
    let found : request_word q.text ≡ Some q.word = q.read in
    let same_word : q.word ≡ w = cc in
    subst (λ (v : Word). AsksBehind v line rest rows r) same_word
    (subst (λ (f : List Field). AsksBehind q.word line f rows r) same_rest q.behind)

-- a block, by what stands behind its word
pub block_answers : (line text : List ℕ) (w : Word) (fields rest : List Field) (rows : List (List Field)) (answer : Result Request RequestFault)
    → fields ≡ Text text ∷ rest → request_word text ≡ Some w → w ≡ word.Many
    → ReadsBy (AsksBlock line rest rows) answer → ReadsBy (AsksFor line fields rows) answer
block_answers line text w fields rest rows answer e read many =
    carried (AsksBlock line rest rows) (AsksFor line fields rows)
    (λ r p. tabled line text w fields rest rows r e read (inl (many, p)))
    (λ r p. elim (worded line text w fields rest rows r e read p) [
      | inl b ↦ b.1
      | inr b ↦ absurd (subst (λ (v : Word). AsksBy v rest r) many b.1)
    ]) answer

-- any other request, by what stands behind its word
pub single_answers : (line text : List ℕ) (w : Word) (fields rest : List Field) (rows : List (List Field)) (answer : Result Request RequestFault)
    → fields ≡ Text text ∷ rest → request_word text ≡ Some w → w ≢ word.Many
    → ReadsBy (λ r. (rows ≡ []) × AsksBy w rest r) answer → ReadsBy (AsksFor line fields rows) answer
single_answers line text w fields rest rows answer e read other =
    carried (λ r. (rows ≡ []) × AsksBy w rest r) (AsksFor line fields rows)
    (λ r p. tabled line text w fields rest rows r e read (inr p))
    (λ r p. elim (worded line text w fields rest rows r e read p) [
      | inl b ↦ absurd (other b.0)
      | inr b ↦ b
    ]) answer

lookup_once : (o : Option Lookup) (q r : Request) → AsksLookup o q → AsksLookup o r → q ≡ r
lookup_once None q r a b = absurd a
lookup_once (Some l) q r a b = a.1 ∙ sym b.1

above_once : (v : Verb) (count : ℕ) (fields : List Field) (q r : Request)
    → AsksAbove v count fields q → AsksAbove v count fields r → q ≡ r
above_once v count fields q r a b =
    let stands : Text a.0 ∷ a.1 ≡ Text b.0 ∷ b.1 = sym a.2 ∙ b.2 in
    let name : a.0 ≡ b.0 = cc in
    let keys : a.1 ≡ b.1 = cc in
    a.4 ∙ rw (name, keys) (sym b.4)

named_once : (make : List ℕ → Request) (fields : List Field) (q r : Request)
    → AsksNamed make fields q → AsksNamed make fields r → q ≡ r
named_once make fields q r a b =
    let stands : Text a.0 ∷ [] ≡ Text b.0 ∷ [] = sym a.1 ∙ b.1 in
    let name : a.0 ≡ b.0 = cc in
    a.2 ∙ ap make name ∙ sym b.2

-- a word and the fields behind it ask for one request
by_once : (w : Word) (fields : List Field) (q r : Request) → AsksBy w fields q → AsksBy w fields r → q ≡ r
by_once word.Get fields q r a b = lookup_once (lookup_in word.Get fields) q r a b
by_once word.GetOrDefault fields q r a b = lookup_once (lookup_in word.GetOrDefault fields) q r a b
by_once word.GetOrNull fields q r a b = lookup_once (lookup_in word.GetOrNull fields) q r a b
by_once word.Has fields q r a b = lookup_once (lookup_in word.Has fields) q r a b
by_once word.Call fields q r a b = lookup_once (lookup_in word.Call fields) q r a b
by_once word.Hierarchy fields q r a b = above_once verb.Hierarchy 1 fields q r a b
by_once word.Children fields q r a b = above_once verb.Children 1 fields q r a b
by_once word.IsIn fields q r a b = above_once verb.IsIn 2 fields q r a b
by_once word.Descendants fields q r a b =
    let stands : Text a.0 ∷ a.1 ∷ Text a.2 ∷ [] ≡ Text b.0 ∷ b.1 ∷ Text b.2 ∷ [] = sym a.4 ∙ b.4 in
    let name : a.0 ≡ b.0 = cc in
    let key : a.1 ≡ b.1 = cc in
    let digits : a.2 ≡ b.2 = cc in
    let level : a.3 ≡ b.3 = a.5.value ∙ rw digits (sym b.5.value) in
    a.7 ∙ rw (name, key, level) (sym b.7)
by_once word.Many fields q r a b = absurd a
by_once word.Reload fields q r a b = named_once request.Reload fields q r a b
by_once word.Status fields q r a b = named_once request.Status fields q r a b
by_once word.Show fields q r a b = named_once request.Show fields q r a b
by_once word.After fields q r a b =
    let stands : Text a.0 ∷ Text a.1 ∷ [] ≡ Text b.0 ∷ Text b.1 ∷ [] = sym a.3 ∙ b.3 in
    let name : a.0 ≡ b.0 = cc in
    let digits : a.1 ≡ b.1 = cc in
    let number : a.2 ≡ b.2 = a.4.value ∙ rw digits (sym b.4.value) in
    a.5 ∙ rw (name, number) (sym b.5)
by_once word.Config fields q r a b = a.1 ∙ sym b.1
by_once word.Quit fields q r a b = a.1 ∙ sym b.1

head_once : (rows : List (List Field)) (o : Option Lookup) (q r : Request) → AsksHead o rows q → AsksHead o rows r → q ≡ r
head_once rows None q r a b = absurd a
head_once rows (Some l) q r a b = a.1 ∙ sym b.1

block_once : (line : List ℕ) (fields : List Field) (rows : List (List Field)) (q r : Request)
    → AsksBlock line fields rows q → AsksBlock line fields rows r → q ≡ r
block_once line fields rows q r a b =
    let stands : a.0 ∷ a.1 ≡ b.0 ∷ b.1 = sym a.2 ∙ b.2 in
    let head : a.1 ≡ b.1 = cc in
    head_once rows (head_in b.1) q r (subst (λ (f : List Field). AsksHead (head_in f) rows q) head a.4) b.4

behind_once : (w : Word) (line : List ℕ) (fields : List Field) (rows : List (List Field)) (q r : Request)
    → AsksBehind w line fields rows q → AsksBehind w line fields rows r → q ≡ r
behind_once w line fields rows q r (inl a) (inl b) = block_once line fields rows q r a.1 b.1
behind_once w line fields rows q r (inl a) (inr b) = absurd (subst (λ (v : Word). AsksBy v fields r) a.0 b.1)
behind_once w line fields rows q r (inr a) (inl b) = absurd (subst (λ (v : Word). AsksBy v fields q) b.0 a.1)
behind_once w line fields rows q r (inr a) (inr b) = by_once w fields q r a.1 b.1

-- fields ask for one request
asks_once : (line : List ℕ) (fields : List Field) (rows : List (List Field)) (q r : Request)
    → AsksFor line fields rows q → AsksFor line fields rows r → q ≡ r
asks_once line fields rows q r a b =
    let s = told line a in
    behind_once s.word line s.rest rows q r s.behind (worded line s.text s.word fields s.rest rows r s.first s.read b)

-- lines are one request
pub request_once : (line : List ℕ) (more : List (List ℕ)) (q r : Request) → IsRequest line more q → IsRequest line more r → q ≡ r
request_once line more q r a b =
    let fields : b.fields ≡ a.fields = one-row line b.fields a.fields b.head a.head in
    let rows : b.rows ≡ a.rows = same-rows IsTabRow one-row more b.rows a.rows b.lines a.lines in
    asks_once line a.fields a.rows q r a.asks
    (subst (λ (t : List (List Field)). AsksFor line a.fields t r) rows (subst (λ (f : List Field). AsksFor line f b.rows r) fields b.asks))

-- the request of lines is that of their fields
pub lines_answer : (line : List ℕ) (more : List (List ℕ)) (fields : List Field) (rows : List (List Field)) (answer : Result Request RequestFault)
    → RowRead line (Ok fields) → RowsRead more (Ok rows) → ReadsBy (AsksFor line fields rows) answer
    → ReadsBy (IsRequest line more) answer
lines_answer line more fields rows answer row all =
    carried (AsksFor line fields rows) (IsRequest line more)
    (λ r p. record { fields = fields; head = row.0; rows = rows; lines = all.0; asks = p })
    (λ r q. subst (λ (t : List (List Field)). AsksFor line fields t r) (all.1 q.rows q.lines)
    (subst (λ (f : List Field). AsksFor line f q.rows r) (row.1 q.fields q.head) q.asks)) answer

pub without_rows : (line : List ℕ) (more : List (List ℕ)) (f : RequestFault) → RowsRead more (Err f) → ReadsBy (IsRequest line more) (Err f)
without_rows line more Bad none = λ r q. none q.rows q.lines
without_rows line more NoMemory none = tt

pub without_fields : (line : List ℕ) (more : List (List ℕ)) (f : RequestFault) → RowRead line (Err f) → ReadsBy (IsRequest line more) (Err f)
without_fields line more Bad none = λ r q. none q.fields q.head
without_fields line more NoMemory none = tt

-- there is no other answer
pub only_answer : (line : List ℕ) (more : List (List ℕ)) (answer : Result Request RequestFault) → ReadsBy (IsRequest line more) answer
    → (r : Request) → IsRequest line more r → UnlessNoMemory (Err NoMemory) answer (answer ≡ Ok r)
only_answer line more (Ok q) p r is = λ e. ap (λ (x : Request). Ok x) (request_once line more q r p is)
only_answer line more (Err Bad) none r is = absurd (none r is)
only_answer line more (Err NoMemory) p r is = λ e. absurd (e refl)
