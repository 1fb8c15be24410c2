-- One part of a list moves, and the others stay.
use Rattle.std.proofs.Common.{◌≡◌, ℕ, zero, suc, ◌<◌, ◌≤◌, List, [], ◌∷◌, map, length, get_or, set, refl, sym, ap, subst, ◌∙◌, arith, Option, Some, Bool, drop, inl, inr, false}
use Rattle.std.specs.Prelude.{slice_get}
use Rattle.std.specs.List.{All}
use Rattle.std.proofs.lemmas.List.Elements.{All-get_or}
use Rattle.std.proofs.lemmas.Option.{get_or_from_slice_get, slice_get-get_or, slice_get_within}
use Rattle.std.proofs.lemmas.List.{map-set}
use mathlib.Core.List.{IsPrefix}
use Rattle.dict_io.specs.Outside.{HasCause}
use Rattle.dict_schema.specs.declared.definition.Definition.{Definition}
use Rattle.dict_schema.specs.declared.definition.FunctionDef.{FunctionDef}
use Rattle.dict_schema.specs.declared.definition.Item.{Item}
use Rattle.dict_schema.specs.declared.definition.Item.TheVariants.{Dictionary, Function}
use Rattle.dict_session.specs.Items.{IsFunctionItem, IsKeyedItem, IsLoadedItem}
use Rattle.dict_version.specs.Contents.{Contents}
use Rattle.dict_schema.specs.Parts.{is_keyed_layout}
use Rattle.dict_hub.specs.Changes.{AllStand, Stands, StandsAt}
use Rattle.dict_hub.specs.Over.{At, Children, IsLoaded, OverState, count_at, item_name, over_state, view_at}
use Rattle.version_slot.proofs.Views.{prefix-self}

slice_get_map : {A B : Type 0} (f : A → B) (cs : List A) (d : ℕ) (x : A) → d < length cs → x ≡ get_or cs d x → slice_get (map f cs) d ≡ Some (f x)
slice_get_map f [] d x lt e = absurd (omega arith)
slice_get_map f (c ∷ cs) zero x lt e = ap (λ y. Some (f y)) (sym e)
slice_get_map f (c ∷ cs) (suc d) x lt e = slice_get_map f cs d x (omega arith) e

pub view_set : {A B : Type 0} (view : B → List Contents) (f : A → B) (cs : List A) (d : ℕ) (y : A) → d < length cs → view_at view (map f (set cs d y)) d ≡ view (f y)
view_set view f [] d y lt = absurd (omega arith)
view_set view f (c ∷ cs) zero y lt = refl
view_set view f (c ∷ cs) (suc d) y lt = view_set view f cs d y (omega arith)

pub views_grow : {A B : Type 0} (view : B → List Contents) (f : A → B) (cs : List A) (d : ℕ) (x y : A) → x ≡ get_or cs d x → IsPrefix (view (f x)) (view (f y))
    → (e : ℕ) → IsPrefix (view_at view (map f cs) e) (view_at view (map f (set cs d y)) e)
views_grow view f [] d x y is h e = prefix-self []
views_grow view f (c ∷ cs) zero x y is h zero = subst (λ z. IsPrefix (view (f z)) (view (f y))) is h
views_grow view f (c ∷ cs) zero x y is h (suc e) = prefix-self (view_at view (map f cs) e)
views_grow view f (c ∷ cs) (suc d) x y is h zero = prefix-self (view (f c))
views_grow view f (c ∷ cs) (suc d) x y is h (suc e) = views_grow view f cs d x y is h e

pub counts_have_cause : {A : Type 0} (P : Type 0) (f : A → ℕ) (cs : List A) (d : ℕ) (x y : A) → d < length cs → x ≡ get_or cs d x → HasCause (f x) (f y) P
    → HasCause (count_at f cs d) (count_at f (set cs d y) d) P
counts_have_cause P f [] d x y lt is h = absurd (omega arith)
counts_have_cause P f (c ∷ cs) zero x y lt is h = subst (λ z. HasCause (f z) (f y) P) is h
counts_have_cause P f (c ∷ cs) (suc d) x y lt is h = counts_have_cause P f cs d x y (omega arith) is h

-- the state of a desk of these parts
abbrev pub state_of : {A B F : Type 0} → (A → B) → List Item → F → Option (List ℕ) → Children → List A → Bool → OverState B F
state_of f items file moments children cs reloads = over_state items file moments children (map f cs) reloads

pub moved_at : {A B F : Type 0} (f : A → B) (moves : B → Children → B → Children → Type 0) (cs : List A) (d : ℕ) (x y : A)
    (items : List Item) (file : F) (moments : Option (List ℕ)) (before after : Children) (reloads : Bool)
    → d < length cs → x ≡ get_or cs d x → moves (f x) before (f y) after
    → At d (state_of f items file moments before cs reloads) (state_of f items file moments after (set cs d y) reloads) moves
moved_at f moves cs d x y items file moments before after reloads lt is h = record {
  from = f x;
  to = f y;
  is = slice_get_map f cs d x lt is;
  moved = h;
  dictionaries = map-set f cs d y;
  moments = refl;
  items = refl;
  file = refl;
  reloads = refl;
}

-- the place of an item that is fully loaded is one of a dictionary
pub loaded-within : {A : Type 0} (items : List Item) (cs : List A) (d : ℕ) → length cs ≡ length items → IsLoadedItem items d → d < length cs
loaded-within items cs d many h = let e = slice_get_within items d (Dictionary h.0) h.1 in omega (arith, e, many)

-- what holds of each holds of the one at a place
pub holds-at : {A : Type 0} (P : A → Type 0) (xs : List A) (d : ℕ) (x : A) → All P xs → slice_get xs d ≡ Some x → P x
holds-at P xs d x all at = subst P (get_or_from_slice_get xs d x x at) (All-get_or P xs d x (slice_get_within xs d x at) all)

-- what is fully loaded is neither fetched by key nor a function
pub never-keyed : (items : List Item) (d : ℕ) (definition : Definition) → All IsLoaded items → IsKeyedItem items d definition → ⊥
never-keyed items d definition loaded h = let no = holds-at IsLoaded items d (Dictionary definition) loaded h.0 in cc (no, h.1)

pub never-function : (items : List Item) (f : ℕ) (definition : FunctionDef) → All IsLoaded items → IsFunctionItem items f definition → ⊥
never-function items f definition loaded h = holds-at IsLoaded items f (Function definition) loaded h

-- what stands in the place of what is fully loaded is so too
stands-loaded : (item other : Item) → IsLoaded item → Stands item other → IsLoaded other
stands-loaded (Dictionary d) (Dictionary other) loaded (inl change) = change.other_kept
stands-loaded (Dictionary d) (Dictionary other) loaded (inr same) = subst (λ x. is_keyed_layout x.layout ≡ false) same loaded
stands-loaded (Dictionary d) (Function g) loaded h = cc h
stands-loaded (Function f) other loaded h = absurd loaded

at-place : (items others : List Item) (place : ℕ) (item other : Item) → slice_get items place ≡ Some item → slice_get others place ≡ Some other
    → StandsAt (slice_get items place) (slice_get others place) → Stands item other
at-place items others place item other here there h =
    subst (λ y. StandsAt (Some item) y) there (subst (λ x. StandsAt x (slice_get others place)) here h)

pub stand-loaded : (items others : List Item) → AllStand items others → All IsLoaded items → All IsLoaded others
stand-loaded items others stand loaded k d l =
    let within : k < length items = omega (arith, l, stand.many) in
    stands-loaded (get_or items k d) (get_or others k d) (loaded k d within)
    (at-place items others k (get_or items k d) (get_or others k d) (slice_get-get_or items k d within) (slice_get-get_or others k d l) (stand.each k within))

-- ---- the first of what is left behind a place

pub first-left : {A : Type 0} (xs : List A) (n : ℕ) (x : A) (rest : List A) → x ∷ rest ≡ drop n xs → slice_get xs n ≡ Some x
first-left [] zero x rest h = cc h
first-left [] (suc n) x rest h = cc h
first-left (y ∷ ys) zero x rest h = cc h
first-left (y ∷ ys) (suc n) x rest h = first-left ys n x rest h

pub rest-left : {A : Type 0} (xs : List A) (n : ℕ) (x : A) (rest : List A) → x ∷ rest ≡ drop n xs → rest ≡ drop (suc n) xs
rest-left [] zero x rest h = cc h
rest-left [] (suc n) x rest h = cc h
rest-left (y ∷ ys) zero x rest h = cc h
rest-left (y ∷ ys) (suc n) x rest h = rest-left ys n x rest h

pub none-left : {A : Type 0} (xs : List A) (n : ℕ) → [] ≡ drop n xs → n ≤ length xs → n ≡ length xs
none-left [] zero h l = refl
none-left [] (suc n) h l = absurd (omega (arith, l))
none-left (y ∷ ys) zero h l = cc h
none-left (y ∷ ys) (suc n) h l = ap suc (none-left ys n h (omega (arith, l)))

-- what holds of each holds of the first and of the rest
pub first-of : {A : Type 0} (P : A → Type 0) (xs : List A) (x : A) (rest : List A) → xs ≡ x ∷ rest → All P xs → P x
first-of P xs x rest is all = subst (All P) is all 0 x (omega arith)

pub rest-of : {A : Type 0} (P : A → Type 0) (xs : List A) (x : A) (rest : List A) → xs ≡ x ∷ rest → All P xs → All P rest
rest-of P xs x rest is all = λ k d l. subst (All P) is all (suc k) d (omega (arith, l))

-- ---- names

-- a name that stays
pub names-set : {A B : Type 0} (f : A → B) (cs : List A) (d : ℕ) (x y : A) → x ≡ get_or cs d x → f y ≡ f x → map f (set cs d y) ≡ map f cs
names-set f [] d x y is same = refl
names-set f (c ∷ cs) zero x y is same = ap (λ z. z ∷ map f cs) (same ∙ ap f is)
names-set f (c ∷ cs) (suc d) x y is same = ap (λ zs. f c ∷ zs) (names-set f cs d x y is same)

-- as many dictionaries as items
pub as-many : {A B E : Type 0} (f : A → E) (g : B → E) (cs : List A) (xs : List B) → map f cs ≡ map g xs → length cs ≡ length xs
as-many f g [] [] same = refl
as-many f g [] (x ∷ xs) same = cc same
as-many f g (c ∷ cs) [] same = cc same
as-many f g (c ∷ cs) (x ∷ xs) same = ap suc (as-many f g cs xs (cc same))

mapped-at : {A B : Type 0} (g : A → B) (xs : List A) (d : ℕ) (x : A) → slice_get xs d ≡ Some x → slice_get (map g xs) d ≡ Some (g x)
mapped-at g [] d x at = cc at
mapped-at g (y ∷ ys) zero x at = ap (λ z. Some (g z)) (cc at)
mapped-at g (y ∷ ys) (suc d) x at = mapped-at g ys d x at

-- the name of a dictionary is that of the item at its place
pub name-at : {A B E : Type 0} (f : A → E) (g : B → E) (cs : List A) (xs : List B) (d : ℕ) (c : A) (x : B) → map f cs ≡ map g xs
    → d < length cs → c ≡ get_or cs d c → slice_get xs d ≡ Some x → g x ≡ f c
name-at f g cs xs d c x same lt is at =
    let here = slice_get_map f cs d c lt is in
    let there = mapped-at g xs d x at in
    let both : Some (f c) ≡ Some (g x) = sym here ∙ ap (λ names. slice_get names d) same ∙ there in
    cc both

-- what stands in the place of another has its name
stands-named : (item other : Item) → Stands item other → item_name other ≡ item_name item
stands-named (Dictionary d) (Dictionary other) (inl change) = sym change.name
stands-named (Dictionary d) (Dictionary other) (inr same) = ap (λ x. x.name) (sym same)
stands-named (Dictionary d) (Function g) h = cc h
stands-named (Function f) (Dictionary d) h = cc h
stands-named (Function f) (Function g) h = ap item_name (sym h)

each-named : (items others : List Item) → length others ≡ length items
    → ((k : ℕ) → k < length items → StandsAt (slice_get items k) (slice_get others k)) → map item_name others ≡ map item_name items
each-named [] [] many each = refl
each-named [] (y ∷ ys) many each = cc many
each-named (x ∷ xs) [] many each = cc many
each-named (x ∷ xs) (y ∷ ys) many each =
    let first = stands-named x y (each 0 (omega arith)) in
    let rest = each-named xs ys (omega (arith, many)) (λ k l. each (suc k) (omega (arith, l))) in
    cc (first, rest)

pub stand-named : (items others : List Item) → AllStand items others → map item_name others ≡ map item_name items
stand-named items others stand = each-named items others stand.many stand.each
