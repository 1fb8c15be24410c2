-- How many columns, keys and items there are.
use Rattle.std.proofs.Common.{◌≡◌, ℕ, suc, ◌+◌, ◌<◌, ◌≤◌, Bool, true, false, cond, List, [], ◌∷◌, ◌++◌, length, map, All, refl, sym, ap, subst, inl, inr, arith}
use Rattle.std.specs.Prelude.{◌==◌, nat_le}
use Rattle.std.proofs.lemmas.Bool.{cond-true, cond-false}
use Rattle.std.proofs.lemmas.Bool.Decides.{nat_tests}
use Rattle.std.proofs.lemmas.List.Elements.{All-nil, All-cons, All-head, All-tail}
use Rattle.dict_value.specs.declared.value.AttrType.{AttrType}
use Rattle.dict_schema.specs.declared.definition.Column.{Column}
use Rattle.dict_schema.specs.declared.definition.Item.{Item}
use Rattle.dict_schema.specs.declared.definition.Item.TheVariants as item
use Rattle.dict_schema.specs.declared.definition.RangeOf.{RangeOf}
use Rattle.dict_schema.specs.declared.fault.DefFault.TheVariants as definition
use Rattle.dict_schema.specs.declared.fault.Which.TheVariants as which
use Rattle.dict_schema.specs.Judging.{AreClear, IsClear}
use Rattle.dict_schema.specs.Sound.{IsSoundItem, IsSoundType}
use Rattle.dict_schema.specs.Table.{Within}
use Rattle.ddl_text.specs.declared.statement.DictionaryText.{DictionaryText}
use Rattle.ddl_text.specs.declared.statement.Statement.{Statement}
use Rattle.ddl_text.specs.declared.statement.Written.{Written}
use Rattle.ddl_text.specs.declared.statement.Written.TheVariants as written
use Rattle.ddl_text.specs.Items.{IsCountAbove, count_of, definition_of, is_misfit, is_set_apart, item_of, item_written, key_places, number_of_item, number_of_written, place_of_column, range_of, rules_of, settled, settled_from}
use Rattle.ddl_text.specs.Files.{AreItems, AreItemsFrom, HaveSoundTypes}

-- ---- columns and keys

settled-length : (keys : List ℕ) (range : RangeOf) (place : ℕ) (columns : List Column) → length (settled_from keys range place columns) ≡ length columns
unfolding settled_from
settled-length keys range place [] = refl
settled-length keys range place (column ∷ others) = ap suc (settled-length keys range (place + 1) others)

columns-length : (text : DictionaryText) → length (definition_of text).columns ≡ length text.columns
columns-length text = settled-length (key_places text.columns text.keys) (range_of text.columns text.parts.range) 0 text.columns

map-length : {A B : Type 0} (f : A → B) (xs : List A) → length (map f xs) ≡ length xs
map-length f [] = refl
map-length f (x ∷ xs) = ap suc (map-length f xs)

keys-length : (text : DictionaryText) → length (definition_of text).keys ≡ length text.keys
keys-length text = map-length (place_of_column text.columns) text.keys

pub many_columns : (text : DictionaryText) → 64 < length text.columns → IsCountAbove text (definition.Limit which.Columns (length text.columns))
many_columns text lt = (
  inl (ap (λ (n : ℕ). definition.Limit which.Columns n) (sym (columns-length text)), inr (subst (λ (n : ℕ). 64 < n) (sym (columns-length text)) lt)),
  λ sizes. refl,
)

few_clear : (n m : ℕ) → n ≡ m → m ≤ 64 → IsClear (Within which.Columns 0 64 n)
few_clear n m e le f h = elim h.1 [ inl lt ↦ omega arith | inr gt ↦ omega (arith, e) ]

pub many_keys : (text : DictionaryText) → length text.columns ≤ 64 → 16 < length text.keys → IsCountAbove text (definition.Limit which.Keys (length text.keys))
many_keys text le lt = (
  inr (
    few_clear (length (definition_of text).columns) (length text.columns) (columns-length text) le,
    inl (ap (λ (n : ℕ). definition.Limit which.Keys n) (sym (keys-length text)), inr (subst (λ (n : ℕ). 16 < n) (sym (keys-length text)) lt)),
  ),
  λ sizes. refl,
)

-- ---- types

settled_type : (column : Column) → (settled column).ty ≡ column.ty
settled_type column = at (is_misfit column.ty column.default) refl where
  at : (b : Bool) → is_misfit column.ty column.default ≡ b → (settled column).ty ≡ column.ty
  at true e = ap (λ (c : Column). c.ty) (cond-true (is_misfit column.ty column.default) _ _ e)
  at false e = ap (λ (c : Column). c.ty) (cond-false (is_misfit column.ty column.default) _ _ e)

chosen_type : (b : Bool) (column : Column) → (cond b (settled column) column).ty ≡ column.ty
chosen_type true column = settled_type column
chosen_type false column = refl

abbrev SoundColumn : Column → Type 0
SoundColumn column = IsSoundType column.ty

settled_sound : (keys : List ℕ) (range : RangeOf) (place : ℕ) (columns : List Column) → All SoundColumn columns → All SoundColumn (settled_from keys range place columns)
unfolding settled_from
settled_sound keys range place [] h = All-nil SoundColumn
settled_sound keys range place (column ∷ others) h =
    All-cons SoundColumn (cond (is_set_apart keys range place) (settled column) column) (settled_from keys range (place + 1) others)
    (subst (λ (t : AttrType). IsSoundType t) (sym (chosen_type (is_set_apart keys range place) column)) (All-head SoundColumn column others h))
    (settled_sound keys range (place + 1) others (All-tail SoundColumn column others h))

-- an item in which no fault stands and whose types can be is sound
pub sound_item : (text : Written) → HaveSoundTypes text → AreClear (rules_of (item_written text)) → IsSoundItem (item_written text)
sound_item (written.Dictionary text) h clear = record { clear = clear; types = settled_sound (key_places text.columns text.keys) (range_of text.columns text.parts.range) 0 text.columns h }
sound_item (written.Function text) h clear = record { clear = clear; types = h.0; returns = h.1 }

-- ---- items

number_is : (text : Written) → number_of_item (item_written text) ≡ number_of_written text
number_is (written.Dictionary text) = refl
number_is (written.Function text) = refl

-- at most so many of each kind
abbrev Few : List Item → Type 0
Few items = (count_of 0 items ≤ 128) × (count_of 1 items ≤ 128)

counts : (items : List Item) → count_of 0 items + count_of 1 items ≡ length items
unfolding count_of
counts [] = refl
counts (item.Dictionary d ∷ others) = let e = counts others in omega (arith, e)
counts (item.Function f ∷ others) = let e = counts others in omega (arith, e)

count_then : (kind : ℕ) (before : List Item) (one : Item) → count_of kind (before ++ one ∷ []) ≡ cond (number_of_item one == kind) (suc (count_of kind before)) (count_of kind before)
unfolding count_of
count_then kind [] one = refl
count_then kind (other ∷ before) one = at (number_of_item other == kind) (number_of_item one == kind) (count_then kind before one) where
  at : (b c : Bool) → count_of kind (before ++ one ∷ []) ≡ cond c (suc (count_of kind before)) (count_of kind before)
      → cond b (suc (count_of kind (before ++ one ∷ []))) (count_of kind (before ++ one ∷ [])) ≡ cond c (suc (cond b (suc (count_of kind before)) (count_of kind before))) (cond b (suc (count_of kind before)) (count_of kind before))
  at true true e = ap suc e
  at true false e = ap suc e
  at false true e = e
  at false false e = e

not_full : (n : ℕ) → nat_le 128 n ≡ false → n < 128
not_full n e = grind (arith, nat_tests)

few_then : (before : List Item) (one : Item) → Few before → count_of (number_of_item one) before < 128 → Few (before ++ one ∷ [])
few_then before (item.Dictionary d) few lt =
    (subst (λ (n : ℕ). n ≤ 128) (sym (count_then 0 before (item.Dictionary d))) lt, subst (λ (n : ℕ). n ≤ 128) (sym (count_then 1 before (item.Dictionary d))) few.1)
few_then before (item.Function f) few lt =
    (subst (λ (n : ℕ). n ≤ 128) (sym (count_then 0 before (item.Function f))) few.0, subst (λ (n : ℕ). n ≤ 128) (sym (count_then 1 before (item.Function f))) lt)

few_from : (before items : List Item) (statements : List Statement) → Few before → AreItemsFrom before statements items → Few items
unfolding AreItemsFrom
few_from before items [] few same = subst Few same few
few_from before items (statement ∷ others) few made =
    few_from (before ++ item_of statement ∷ []) items others
    (few_then before (item_of statement) few (subst (λ (n : ℕ). count_of n before < 128) (sym (number_is statement.written)) (not_full (count_of (number_of_written statement.written) before) made.0.0))) made.1

none_few : Few []
unfolding count_of
none_few = (omega arith, omega arith)

-- a file has at most 128 items of each kind
pub items_few : (items : List Item) (statements : List Statement) → AreItems statements items → length items ≤ 256
items_few items statements made =
    let few = few_from [] items statements none_few made in
    let all = counts items in
    omega (arith, all, few.0, few.1)
