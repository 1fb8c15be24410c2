-- The dictionaries of items before their first loads.
use Rattle.std.proofs.Common.{◌≡◌, ◌<◌, ◌+◌, ◌∙◌, ℕ, zero, suc, List, [], ◌∷◌, ◌++◌, map, length, take, get_or, refl, sym, ap, subst, arith, add-one}
use Rattle.std.specs.List.{All}
use Rattle.dict_schema.specs.declared.definition.Item.{Item}
use Rattle.dict_schema.specs.declared.definition.Item.TheVariants.{Dictionary, Function}
use Rattle.dict_hub.specs.Over.{IsLoaded, item_name}
use Rattle.dict_hub.specs.Plain.{PlainState, new_plain, opened}
use Rattle.dict_hub.proofs.Places.{first-of, rest-of}

-- one more item
pub opened-more : (folder : List ℕ) (seed number : ℕ) (items : List Item) (place : ℕ) (item : Item) → place < length items
    → item ≡ get_or items place item
    → opened folder seed number (take (suc place) items) ≡ opened folder seed number (take place items) ++ opened folder seed (number + place) (item ∷ [])
opened-more folder seed number [] place item lt is = absurd (omega arith)
opened-more folder seed number (x ∷ xs) zero item lt is =
    let same : number ≡ number + 0 = omega arith in
    ap (λ (y : Item). opened folder seed number (y ∷ [])) (sym is) ∙ ap (λ (n : ℕ). opened folder seed n (item ∷ [])) same
opened-more folder seed number (Dictionary d ∷ xs) (suc place) item lt is =
    let same : suc number + place ≡ number + suc place = omega arith in
    let more = opened-more folder seed (suc number) xs place item (omega (arith, lt)) is in
    let moved : opened folder seed (suc number + place) (item ∷ []) ≡ opened folder seed (number + suc place) (item ∷ []) = ap (λ (n : ℕ). opened folder seed n (item ∷ [])) same in
    ap (λ (ys : List PlainState). new_plain d folder seed number ∷ ys)
    (more ∙ ap (λ (ys : List PlainState). opened folder seed (suc number) (take place xs) ++ ys) moved)
opened-more folder seed number (Function f ∷ xs) (suc place) item lt is =
    let same : suc number + place ≡ number + suc place = omega arith in
    let more = opened-more folder seed (suc number) xs place item (omega (arith, lt)) is in
    let moved : opened folder seed (suc number + place) (item ∷ []) ≡ opened folder seed (number + suc place) (item ∷ []) = ap (λ (n : ℕ). opened folder seed n (item ∷ [])) same in
    more ∙ ap (λ (ys : List PlainState). opened folder seed (suc number) (take place xs) ++ ys) moved

-- the same of a first item 0
pub opened-next : (folder : List ℕ) (seed : ℕ) (items : List Item) (place : ℕ) (item : Item) → place < length items → item ≡ get_or items place item
    → opened folder seed 0 (take (place + 1) items) ≡ opened folder seed 0 (take place items) ++ opened folder seed place (item ∷ [])
opened-next folder seed items place item lt is =
    let same : 0 + place ≡ place = omega arith in
    let more = opened-more folder seed 0 items place item lt is in
    let moved = ap (λ (n : ℕ). opened folder seed 0 (take place items) ++ opened folder seed n (item ∷ [])) same in
    rw add-one (more ∙ moved)

-- each has the name of its item
pub opened-named : (folder : List ℕ) (seed number : ℕ) (items : List Item) → All IsLoaded items
    → map (λ (s : PlainState). s.loader.definition.name) (opened folder seed number items) ≡ map item_name items
opened-named folder seed number [] loaded = refl
opened-named folder seed number (Dictionary d ∷ xs) loaded =
    ap (λ (names : List (List ℕ)). d.name ∷ names)
    (opened-named folder seed (suc number) xs (rest-of IsLoaded (Dictionary d ∷ xs) (Dictionary d) xs refl loaded))
opened-named folder seed number (Function f ∷ xs) loaded = absurd (first-of IsLoaded (Function f ∷ xs) (Function f) xs refl loaded)

-- a dictionary is its state
pub states-same : (xs : List PlainState) → map (λ (s : PlainState). s) xs ≡ xs
states-same [] = refl
states-same (x ∷ xs) = ap (λ (ys : List PlainState). x ∷ ys) (states-same xs)
