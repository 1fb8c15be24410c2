-- What a sound definition has, so that its columns, keys and range are made of its text again.
use Rattle.std.proofs.Common.{◌≡◌, ◌≢◌, ◌<◌, ◌^◌, ◌+◌, ℕ, zero, suc, Bool, true, false, cond, not, List, [], ◌∷◌, ◌++◌, length, map, All, Option, Some, None, refl, sym, ap, subst, ◌∙◌, inl, inr, arith}
use Rattle.std.specs.Prelude.{◌&&◌, ◌||◌, slice_get}
use Rattle.std.specs.List.{AllByRecursion}
use Rattle.std.proofs.lemmas.Bool.{cases_Bool, cases_lt, cond-true, cond-false}
use Rattle.std.proofs.lemmas.Option.{slice_get_within}
use Rattle.std.proofs.lemmas.List.Elements.{All-head, All-tail}
use Rattle.dict_value.specs.declared.value.AttrType.{AttrType}
use Rattle.dict_value.specs.declared.value.ColType.{ColType}
use Rattle.dict_value.specs.declared.value.ColType.TheVariants as type
use Rattle.dict_value.specs.declared.value.Value.{Value}
use Rattle.dict_value.specs.declared.value.Value.TheVariants as value
use Rattle.dict_value.specs.Values.{FitsColumn, HasType, default_of_column}
use Rattle.dict_schema.specs.declared.definition.Column.{Column}
use Rattle.dict_schema.specs.declared.definition.Definition.{Definition}
use Rattle.dict_schema.specs.declared.definition.RangeOf.{RangeOf}
use Rattle.dict_schema.specs.declared.definition.RangeOf.TheVariants as range
use Rattle.dict_schema.specs.declared.fault.DefFault.TheVariants as fault
use Rattle.dict_schema.specs.Judging.{AreClear, Numbered, Where}
use Rattle.dict_schema.specs.Parts.{HasRange, column_names, is_attribute, is_key, is_range_end, is_range_layout}
use Rattle.dict_schema.specs.Table.{IsDuplicate, IsMissingKey, IsNamedBefore, NamesWithin, attributes, counts, keys, ranges, settings, sources, table}
use Rattle.ddl_tokens.specs.declared.letters.LetterCase.TheVariants.{AsWritten}
use Rattle.ddl_tokens.proofs.Laws.{same_itself}
use Rattle.ddl_writing.proofs.Defaults.{clear_at, clear_behind, clear_front, within}
use Rattle.ddl_text.specs.Items.{is_misfit, is_set_apart, key_places, place_from, place_of_column, range_of, same_name, settled, settled_from, with_default}
use Rattle.ddl_text.proofs.Same.{same_bytes}
use Rattle.ddl_text.proofs.ColumnTexts.{HasColumn, name_of_place}
use Rattle.ddl_text.proofs.ClauseTexts.{EndsExist, names_of}

-- ---- what can't not be

stable_below : (n m : ℕ) → ((n < m → ⊥) → ⊥) → n < m
stable_below n m h = elim (cases_lt n m) [ inl x ↦ x | inr y ↦ absurd (h (λ x. omega (arith, x, y))) ]

stable_true : (b : Bool) → ((b ≡ true → ⊥) → ⊥) → b ≡ true
stable_true true h = refl
stable_true false h = absurd (h (λ e. absurd cc))

stable_type : (t : ColType) (v : Value) → ((HasType t v → ⊥) → ⊥) → HasType t v
stable_type type.UInt8 (value.U n) h = stable_below n (2 ^ 8) h
stable_type type.UInt16 (value.U n) h = stable_below n (2 ^ 16) h
stable_type type.UInt32 (value.U n) h = stable_below n (2 ^ 32) h
stable_type type.UInt64 (value.U n) h = stable_below n (2 ^ 64) h
stable_type type.Int8 (value.I z) h = stable_true _ h
stable_type type.Int16 (value.I z) h = stable_true _ h
stable_type type.Int32 (value.I z) h = stable_true _ h
stable_type type.Int64 (value.I z) h = stable_true _ h
stable_type type.Str (value.S text) h = tt
stable_type type.Date (value.Day n) h = stable_below n (2 ^ 16) h
stable_type type.DateTime (value.Second n) h = stable_below n (2 ^ 32) h
stable_type type.Uuid (value.Id n) h = stable_below n (2 ^ 128) h
stable_type type.Ipv4 (value.V4 n) h = stable_below n (2 ^ 32) h
stable_type type.Ipv6 (value.V6 n) h = stable_below n (2 ^ 128) h
stable_type (type.Decimal digits scale) (value.Dec z) h = stable_below _ _ h
stable_type t v h = absurd (h (λ x. x))

pub stable_fit : (t : AttrType) (v : Value) → ((FitsColumn t v → ⊥) → ⊥) → FitsColumn t v
stable_fit t value.Null h = stable_true t.nullable h
stable_fit t (value.U n) h = stable_type t.base (value.U n) h
stable_fit t (value.I z) h = stable_type t.base (value.I z) h
stable_fit t (value.S text) h = stable_type t.base (value.S text) h
stable_fit t (value.Day n) h = stable_type t.base (value.Day n) h
stable_fit t (value.Second n) h = stable_type t.base (value.Second n) h
stable_fit t (value.Id n) h = stable_type t.base (value.Id n) h
stable_fit t (value.V4 n) h = stable_type t.base (value.V4 n) h
stable_fit t (value.V6 n) h = stable_type t.base (value.V6 n) h
stable_fit t (value.Dec z) h = stable_type t.base (value.Dec z) h

-- ---- the rules of a definition, part by part

pub clear_settings : (d : Definition) → AreClear (table d) → AreClear (settings d)
clear_settings d clear =
    clear_front (settings d) (keys d ++ (ranges d ++ (attributes d ++ sources d)))
    (clear_behind (NamesWithin (column_names d)) (settings d ++ (keys d ++ (ranges d ++ (attributes d ++ sources d))))
    (clear_behind (counts d) (NamesWithin (column_names d) ++ (settings d ++ (keys d ++ (ranges d ++ (attributes d ++ sources d))))) clear))

clear_from_keys : (d : Definition) → AreClear (table d) → AreClear (keys d ++ (ranges d ++ (attributes d ++ sources d)))
clear_from_keys d clear =
    clear_behind (settings d) (keys d ++ (ranges d ++ (attributes d ++ sources d)))
    (clear_behind (NamesWithin (column_names d)) (settings d ++ (keys d ++ (ranges d ++ (attributes d ++ sources d))))
    (clear_behind (counts d) (NamesWithin (column_names d) ++ (settings d ++ (keys d ++ (ranges d ++ (attributes d ++ sources d))))) clear))

clear_keys : (d : Definition) → AreClear (table d) → AreClear (keys d)
clear_keys d clear = clear_front (keys d) (ranges d ++ (attributes d ++ sources d)) (clear_from_keys d clear)

pub clear_ranges : (d : Definition) → AreClear (table d) → AreClear (ranges d)
clear_ranges d clear = clear_front (ranges d) (attributes d ++ sources d) (clear_behind (keys d) (ranges d ++ (attributes d ++ sources d)) (clear_from_keys d clear))

pub clear_sources : (d : Definition) → AreClear (table d) → AreClear (sources d)
clear_sources d clear =
    clear_behind (attributes d) (sources d) (clear_behind (ranges d) (attributes d ++ sources d) (clear_behind (keys d) (ranges d ++ (attributes d ++ sources d)) (clear_from_keys d clear)))

-- ---- keys

pub some_key : (d : Definition) → AreClear (table d) → d.keys ≢ []
some_key d clear none = (clear_keys d clear).0 fault.NoKey (refl, none)

key_rules : (d : Definition) → AreClear (table d) → AreClear (Numbered fault.KeyMissing (length d.keys) (IsMissingKey d))
key_rules d clear = clear_front (Numbered fault.KeyMissing (length d.keys) (IsMissingKey d)) _ (clear_keys d clear).1

column_there : (columns : List Column) (k : ℕ) → k < length columns → (c : Column) × (slice_get columns k ≡ Some c)
column_there [] k low = absurd (omega arith)
column_there (c ∷ columns) zero low = (c, refl)
column_there (c ∷ columns) (suc k) low = column_there columns k (omega (arith, low))

key_within : (d : Definition) (place key : ℕ) → AreClear (table d) → slice_get d.keys place ≡ Some key → key < length d.columns
key_within d place key clear found = elim (cases_lt key (length d.columns)) [
  | inl low ↦ low
  | inr high ↦
      absurd (clear_at (λ k. Where (fault.KeyMissing (k + 1)) (IsMissingKey d k)) 0 (length d.keys) place (omega arith) (within (length d.keys) place (slice_get_within d.keys place key found)) (key_rules d clear)
      (fault.KeyMissing (place + 1)) (refl, (key, found, high)))
]

keys_from : (d : Definition) (place : ℕ) (own : List ℕ) → AreClear (table d) → ((j : ℕ) → slice_get d.keys (place + j) ≡ slice_get own j) → AllByRecursion (HasColumn d) own
keys_from d place [] clear same = tt
keys_from d place (key ∷ own) clear same = (
  column_there d.columns key (key_within d (place + 0) key clear (same 0)),
  keys_from d (place + 1) own clear (λ j. ap (slice_get d.keys) (let e : place + 1 + j ≡ place + suc j = omega arith in e) ∙ same (suc j)),
)

pub keys_exist : (d : Definition) → AreClear (table d) → AllByRecursion (HasColumn d) d.keys
keys_exist d clear = keys_from d 0 d.keys clear (λ j. ap (slice_get d.keys) (let e : 0 + j ≡ j = omega arith in e))

-- ---- names

name_rules : (d : Definition) → AreClear (table d) → AreClear (Numbered fault.DuplicateName (length d.columns) (IsDuplicate d))
name_rules d clear =
    clear_front (Numbered fault.DuplicateName (length d.columns) (IsDuplicate d)) _
    (clear_behind (Numbered fault.KeyMissing (length d.keys) (IsMissingKey d)) _ (clear_keys d clear).1)

named_once : (d : Definition) (place : ℕ) (c : Column) → AreClear (table d) → slice_get d.columns place ≡ Some c → IsNamedBefore (column_names d) place → ⊥
named_once d place c clear found before =
    clear_at (λ k. Where (fault.DuplicateName (k + 1)) (IsDuplicate d k)) 0 (length d.columns) place (omega arith) (within (length d.columns) place (slice_get_within d.columns place c found)) (name_rules d clear)
    (fault.DuplicateName (place + 1)) (refl, inl before)

name_at_place : (columns : List Column) (k : ℕ) (c : Column) → slice_get columns k ≡ Some c → slice_get (map (λ (x : Column). x.name) columns) k ≡ Some c.name
name_at_place [] k c e = absurd cc
name_at_place (b ∷ columns) zero c e = ap (λ (o : Option Column). elim o as (λ _. Option (List ℕ)) [ None ↦ None | Some x ↦ Some x.name ]) e
name_at_place (b ∷ columns) (suc k) c e = name_at_place columns k c e

abbrev Once : List Column → ℕ → List ℕ → Type 0
Once columns k name = (j : ℕ) (b : Column) → j < k → slice_get columns j ≡ Some b → b.name ≡ name → ⊥

place_found : (columns : List Column) (start k : ℕ) (c : Column) → slice_get columns k ≡ Some c → Once columns k c.name → place_from start columns c.name ≡ start + k
unfolding place_from
place_found [] start k c e once = absurd cc
place_found (b ∷ columns) start zero c e once =
    let same : b ≡ c = cc in
    cond-true (same_name b.name c.name) start (place_from (start + 1) columns c.name) (subst (λ (x : Column). same_name b.name x.name ≡ true) same (same_itself AsWritten b.name)) ∙ omega arith
place_found (b ∷ columns) start (suc k) c e once =
    cond-false (same_name b.name c.name) start (place_from (start + 1) columns c.name)
    (elim (cases_Bool (same_name b.name c.name)) [ inr f ↦ f | inl f ↦ absurd (once 0 b (omega arith) refl (same_bytes b.name c.name f)) ])
    ∙ place_found columns (start + 1) k c e (λ j x low found same. once (suc j) x (omega (arith, low)) found same) ∙ omega arith

pub place_again : (d : Definition) (place : ℕ) → AreClear (table d) → HasColumn d place → place_of_column d.columns (name_of_place d place) ≡ place
place_again d place clear h =
    let c = h.0 in
    ap (λ (o : Option Column). place_of_column d.columns (elim o as (λ _. List ℕ) [ None ↦ [] | Some x ↦ x.name ])) h.1
    ∙ place_found d.columns 0 place c h.1
    (λ j b low found same.
    named_once d place c clear h.1 (j, c.name, low, name_at_place d.columns j b found ∙ ap (λ (name : List ℕ). Some name) same, name_at_place d.columns place c h.1))
    ∙ omega arith

keys_again_from : (d : Definition) (own : List ℕ) → AreClear (table d) → AllByRecursion (HasColumn d) own → own ≡ key_places d.columns (map (name_of_place d) own)
keys_again_from d [] clear h = refl
keys_again_from d (key ∷ own) clear h = λ i. sym (place_again d key clear h.0) i ∷ keys_again_from d own clear h.1 i

pub keys_again : (d : Definition) → AreClear (table d) → d.keys ≡ key_places d.columns (map (name_of_place d) d.keys)
keys_again d clear = keys_again_from d d.keys clear (keys_exist d clear)

-- ---- the range

column_or_none : (columns : List Column) (k : ℕ) → ((slice_get columns k ≡ None) → ⊥) → (c : Column) × (slice_get columns k ≡ Some c)
column_or_none [] k h = absurd (h refl)
column_or_none (c ∷ columns) zero h = (c, refl)
column_or_none (c ∷ columns) (suc k) h = column_or_none columns k h

ranged_layout : (d : Definition) (start end : ℕ) → AreClear (table d) → d.range ≡ range.Columns start end → is_range_layout d.layout ≡ true
ranged_layout d start end clear e = elim (cases_Bool (is_range_layout d.layout)) [
  | inl f ↦ f
  | inr f ↦ absurd ((clear_ranges d clear).1.0 fault.RangeUnused (refl, (f, λ none. let k : range.Columns start end ≡ range.None = sym e ∙ none in absurd cc)))
]

pub ends_exist : (d : Definition) (r : RangeOf) → AreClear (table d) → d.range ≡ r → EndsExist d r
ends_exist d range.None clear e = tt
ends_exist d (range.Columns start end) clear e =
    let lacks = λ (none : HasRange d → ⊥). (clear_ranges d clear).0 fault.RangeMissing (refl, (ranged_layout d start end clear e, none)) in (
      column_or_none d.columns start (λ gone. lacks (λ h. let k : range.Columns h.start h.end ≡ range.Columns start end = sym h.range ∙ e in let s : h.start ≡ start = cc in let f = h.found_first in let g = ap (slice_get d.columns) s in absurd (cc (f, g, gone)))),
      column_or_none d.columns end (λ gone. lacks (λ h. let k : range.Columns h.start h.end ≡ range.Columns start end = sym h.range ∙ e in let s : h.end ≡ end = cc in let f = h.found_last in let g = ap (slice_get d.columns) s in absurd (cc (f, g, gone)))),
    )

pub range_again : (d : Definition) (r : RangeOf) → AreClear (table d) → EndsExist d r → r ≡ range_of d.columns (names_of d r)
range_again d range.None clear h = refl
range_again d (range.Columns start end) clear h = λ i. range.Columns (sym (place_again d start clear h.0) i) (sym (place_again d end clear h.1) i)

-- ---- defaults

apart_no_attribute : (a b : Bool) → (a || b) ≡ true → (not a && not b) ≡ false
apart_no_attribute true b h = refl
apart_no_attribute false true h = refl
apart_no_attribute false false h = absurd cc

settled_same : (c : Column) → c.default ≡ default_of_column c.ty → c ≡ settled c
settled_same c e = at (is_misfit c.ty c.default) where
  at : (b : Bool) → c ≡ cond b c (with_default (default_of_column c.ty) c)
  at true = refl
  at false = ap (λ (v : Value). with_default v c) e

kept_column : (b : Bool) (c : Column) → (b ≡ true → c.default ≡ default_of_column c.ty) → c ≡ cond b (settled c) c
kept_column true c h = settled_same c (h refl)
kept_column false c h = refl

settled_again : (own : List ℕ) (r : RangeOf) (place : ℕ) (columns : List Column) → ((j : ℕ) (c : Column) → slice_get columns j ≡ Some c → is_set_apart own r (place + j) ≡ true → c.default ≡ default_of_column c.ty)
    → columns ≡ settled_from own r place columns
unfolding settled_from
settled_again own r place [] h = refl
settled_again own r place (c ∷ columns) h =
    let first = kept_column (is_set_apart own r place) c (λ e. h 0 c refl (ap (is_set_apart own r) (let k : place + 0 ≡ place = omega arith in k) ∙ e)) in
    let others = settled_again own r (place + 1) columns (λ j x found e. h (suc j) x found (ap (is_set_apart own r) (let k : place + suc j ≡ place + 1 + j = omega arith in k) ∙ e)) in
    λ i. first i ∷ others i

pub columns_again : (d : Definition) → ((place : ℕ) (c : Column) → slice_get d.columns place ≡ Some c → is_attribute d place ≡ false → c.default ≡ default_of_column c.ty)
    → d.columns ≡ settled_from d.keys d.range 0 d.columns
columns_again d h =
    settled_again d.keys d.range 0 d.columns (λ j c found e.
    h j c found (apart_no_attribute (is_key d j) (is_range_end d.range j) (ap (is_set_apart d.keys d.range) (let k : j ≡ 0 + j = omega arith in k) ∙ e)))

-- ---- types

pub all_at : {A : Type 0} (P : A → Type 0) (xs : List A) (k : ℕ) (x : A) → All P xs → slice_get xs k ≡ Some x → P x
all_at P [] k x all e = absurd cc
all_at P (y ∷ xs) zero x all e = let same : y ≡ x = cc in subst P same (All-head P y xs all)
all_at P (y ∷ xs) (suc k) x all e = all_at P xs k x (All-tail P y xs all) e

pub all_each : {A : Type 0} (P : A → Type 0) (xs : List A) → All P xs → AllByRecursion P xs
all_each P [] all = tt
all_each P (x ∷ xs) all = (All-head P x xs all, all_each P xs (All-tail P x xs all))
