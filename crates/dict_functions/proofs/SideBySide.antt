-- Lists that go side by side, so far and one item more.
use Rattle.std.proofs.Common.{◌≡◌, ◌≢◌, ◌<◌, ◌+◌, ◌++◌, ◌∷◌, ◌∙◌, [], ℕ, zero, suc, List, Some, Result, Ok, Err, get_or, slice_get, length, take, drop, refl, sym, ap, subst, arith}
use Rattle.std.specs.Prelude.{All}
use Rattle.std.specs.List.{AllZip}
use Rattle.std.proofs.lemmas.Option.{slice_get_read}
use Rattle.dict_value.specs.Values.{reading}
use Rattle.dict_value.specs.declared.value.AttrType.{AttrType}
use Rattle.dict_value.specs.declared.value.BadValue.{BadValue}
use Rattle.dict_value.specs.declared.value.BadValue.TheVariants.{NoMemory}
use Rattle.dict_value.specs.declared.value.Field.{Field}
use Rattle.dict_value.specs.declared.value.Value.{Value}
use Rattle.dict_functions.specs.declared.lines.LineFault.TheVariants.{Unread}
use Rattle.dict_functions.specs.steps.Lines.{value_fault}
use Rattle.dict_functions.specs.Keys.{IsFirstWithout, ReadsAs, ReadsNumber, ReadsNumbers}

pub zip-more : {A B : Type 0} (R : A → B → Type 0) (xs : List A) (ys : List B) (i : ℕ) (d x : A) (y : B)
    → i < length xs → x ≡ get_or xs i d → AllZip R (take i xs) ys → R x y → AllZip R (take (i + 1) xs) (ys ++ y ∷ [])
zip-more R [] ys i d x y low at zip here = absurd (omega (arith, low))
zip-more R (a ∷ xs) [] zero d x y low at zip here = (subst (λ z. R z y) at here, tt)
zip-more R (a ∷ xs) (b ∷ ys) zero d x y low at zip here = absurd zip
zip-more R (a ∷ xs) [] (suc i) d x y low at zip here = absurd zip
zip-more R (a ∷ xs) (b ∷ ys) (suc i) d x y low at zip here =
    let next : suc i + 1 ≡ suc (i + 1) = omega arith in
    let rest : AllZip R (take (suc (i + 1)) (a ∷ xs)) (b ∷ (ys ++ y ∷ [])) =
    (zip.0, zip-more R xs ys i d x y (omega (arith, low)) at zip.1 here) in
    subst (λ n. AllZip R (take n (a ∷ xs)) (b ∷ (ys ++ y ∷ []))) (sym next) rest

-- a list, cut around an item
cut-at : {A : Type 0} (xs : List A) (i : ℕ) (x : A) → i < length xs → x ≡ get_or xs i x → xs ≡ take i xs ++ x ∷ drop (suc i) xs
cut-at [] i x low at = absurd (omega (arith, low))
cut-at (a ∷ xs) zero x low at = ap (λ h. h ∷ xs) (sym at)
cut-at (a ∷ xs) (suc i) x low at = ap (λ l. a ∷ l) (cut-at xs i x (omega (arith, low)) at)

length-front : {A : Type 0} (xs : List A) (i : ℕ) → i < length xs → length (take i xs) ≡ i
length-front [] i low = absurd (omega (arith, low))
length-front (a ∷ xs) zero low = refl
length-front (a ∷ xs) (suc i) low = ap suc (length-front xs i (omega (arith, low)))

-- the first line that can't be read
pub first-without : {A : Type 0} (P : A → Type 0) (lines : List A) (i : ℕ) (line : A) → i < length lines
    → line ≡ get_or lines i line → All P (take i lines) → ¬ (P line) → IsFirstWithout P lines (i + 1)
first-without P lines i line low at earlier without = record {
  before = take i lines;
  line = line;
  after = drop (suc i) lines;
  parts = cut-at lines i line low at;
  counted = ap (λ n. n + 1) (sym (length-front lines i low));
  earlier = earlier;
  without = without;
}

-- so many fields as types, and as values
pub reads-long : (types : List AttrType) (fields : List Field) (values : List Value) → ReadsAs types fields values
    → length types ≡ length fields
reads-long [] [] [] reads = refl
reads-long [] [] (v ∷ values) reads = absurd reads
reads-long [] (f ∷ fields) values reads = absurd reads
reads-long (t ∷ types) [] values reads = absurd reads
reads-long (t ∷ types) (f ∷ fields) [] reads = absurd reads
reads-long (t ∷ types) (f ∷ fields) (v ∷ values) reads = ap suc (reads-long types fields values reads.1)

-- a value more
pub reads-more : (types : List AttrType) (fields : List Field) (values : List Value) (i : ℕ) (d : AttrType) (f : Field) (v : Value)
    → i < length types → i < length fields → f ≡ get_or fields i f
    → ReadsAs (take i types) (take i fields) values → reading (get_or types i d) f ≡ Ok v
    → ReadsAs (take (i + 1) types) (take (i + 1) fields) (values ++ v ∷ [])
reads-more [] fields values i d f v low also at reads here = absurd (omega (arith, low))
reads-more (a ∷ types) [] values i d f v low also at reads here = absurd (omega (arith, also))
reads-more (a ∷ types) (b ∷ fields) [] zero d f v low also at reads here =
    (subst (λ (x : Field). reading a x ≡ Ok v) at here, tt)
reads-more (a ∷ types) (b ∷ fields) (w ∷ values) zero d f v low also at reads here = absurd reads
reads-more (a ∷ types) (b ∷ fields) [] (suc i) d f v low also at reads here = absurd reads
reads-more (a ∷ types) (b ∷ fields) (w ∷ values) (suc i) d f v low also at reads here =
    let next : suc i + 1 ≡ suc (i + 1) = omega arith in
    let rest : ReadsAs (take (suc (i + 1)) (a ∷ types)) (take (suc (i + 1)) (b ∷ fields)) (w ∷ (values ++ v ∷ [])) =
    (reads.0, reads-more types fields values i d f v (omega (arith, low)) (omega (arith, also)) at reads.1 here) in
    subst (λ n. ReadsAs (take n (a ∷ types)) (take n (b ∷ fields)) (w ∷ (values ++ v ∷ []))) (sym next) rest

-- a field without a reading
pub reads-not : (types : List AttrType) (fields : List Field) (values : List Value) (i : ℕ) (d : AttrType) (f : Field) (x : BadValue)
    → i < length types → i < length fields → f ≡ get_or fields i f → reading (get_or types i d) f ≡ Err x
    → ReadsAs types fields values → ⊥
reads-not [] fields values i d f x low also at bad reads = absurd (omega (arith, low))
reads-not (a ∷ types) [] values i d f x low also at bad reads = absurd (omega (arith, also))
reads-not (a ∷ types) (b ∷ fields) [] i d f x low also at bad reads = absurd reads
reads-not (a ∷ types) (b ∷ fields) (v ∷ values) zero d f x low also at bad reads =
    let here : reading a b ≡ Err x = subst (λ (y : Field). reading a y ≡ Err x) at bad in
    let both : Ok v ≡ Err x = sym reads.0 ∙ here in
    cc
reads-not (a ∷ types) (b ∷ fields) (v ∷ values) (suc i) d f x low also at bad reads =
    reads-not types fields values i d f x (omega (arith, low)) (omega (arith, also)) at bad reads.1

-- a fault that isn't want of memory is the reading's
pub fault-read : (r reads : Result Value BadValue) (x : BadValue) → r ≡ Err x → value_fault x ≡ Unread
    → (r ≢ Err NoMemory → r ≡ reads) → reads ≡ Err x
fault-read r reads x is unread exact =
    sym (exact (λ (none : r ≡ Err NoMemory).
    let same : x ≡ NoMemory = cc in
    let memory : value_fault NoMemory ≡ Unread = ap value_fault (sym same) ∙ unread in
    cc)) ∙ is

-- an item of a list is one of the same list
pub item-same : {A : Type 0} (given xs : List A) (i : ℕ) (x : A) → given ≡ xs → x ≡ get_or given i x → x ≡ get_or xs i x
item-same given xs i x is at = subst (λ l. x ≡ get_or l i x) is at

-- what stands at a place
pub item-here : {A : Type 0} (given xs : List A) (i : ℕ) (x : A) → given ≡ xs → i < length xs → x ≡ get_or given i x
    → slice_get xs i ≡ Some x
item-here given xs i x is low at =
    slice_get_read xs (length xs) i x refl low (item-same given xs i x is at)

-- the number that is the whole of a line
pub first-number : (fields : List Field) (n : ℕ) (field : Field) → field ≡ get_or fields 0 field
    → ReadsNumbers fields (n ∷ []) → ReadsNumber field n
first-number [] n field at reads = absurd reads
first-number (f ∷ fields) n field at reads = subst (λ x. ReadsNumber x n) (sym at) reads.0

-- what holds of each two, in other words
pub zip-weaker : {A B : Type 0} (P Q : A → B → Type 0) → ((x : A) (y : B) → P x y → Q x y) → (xs : List A) (ys : List B) → AllZip P xs ys
    → AllZip Q xs ys
zip-weaker P Q to [] [] zip = tt
zip-weaker P Q to [] (y ∷ ys) zip = absurd zip
zip-weaker P Q to (x ∷ xs) [] zip = absurd zip
zip-weaker P Q to (x ∷ xs) (y ∷ ys) zip = (to x y zip.0, zip-weaker P Q to xs ys zip.1)

-- what holds of each two, by way of a list between
pub zip-through : {A B C : Type 0} (P : A → B → Type 0) (Q : B → C → Type 0) (R : A → C → Type 0)
    → ((x : A) (y : B) (z : C) → P x y → Q y z → R x z) → (xs : List A) (ys : List B) (zs : List C) → AllZip P xs ys
    → AllZip Q ys zs → AllZip R xs zs
zip-through P Q R to [] [] [] first second = tt
zip-through P Q R to [] [] (z ∷ zs) first second = absurd second
zip-through P Q R to [] (y ∷ ys) zs first second = absurd first
zip-through P Q R to (x ∷ xs) [] zs first second = absurd first
zip-through P Q R to (x ∷ xs) (y ∷ ys) [] first second = absurd second
zip-through P Q R to (x ∷ xs) (y ∷ ys) (z ∷ zs) first second =
    (to x y z first.0 second.0, zip-through P Q R to xs ys zs first.1 second.1)

second-at : {A B : Type 0} (P : A → B → Type 0) (Q : B → Type 0) → ((x : A) (y : B) → P x y → Q y) → (xs : List A) (ys : List B)
    → (i : ℕ) (d : B) → AllZip P xs ys → i < length ys → Q (get_or ys i d)
second-at P Q to [] [] i d zip low = absurd (omega (arith, low))
second-at P Q to [] (y ∷ ys) i d zip low = absurd zip
second-at P Q to (x ∷ xs) [] i d zip low = absurd zip
second-at P Q to (x ∷ xs) (y ∷ ys) zero d zip low = to x y zip.0
second-at P Q to (x ∷ xs) (y ∷ ys) (suc i) d zip low = second-at P Q to xs ys i d zip.1 (omega (arith, low))

-- what holds of the second of each two
pub zip-second : {A B : Type 0} (P : A → B → Type 0) (Q : B → Type 0) → ((x : A) (y : B) → P x y → Q y) → (xs : List A) (ys : List B)
    → AllZip P xs ys → All Q ys
zip-second P Q to xs ys zip = λ i d low. second-at P Q to xs ys i d zip low
