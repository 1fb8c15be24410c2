-- How many lines a lookup has, and how many fields a line by which a hierarchy is asked.
use Rattle.std.proofs.Common.{◌≡◌, ◌≢◌, ◌<◌, ◌≤◌, ◌+◌, ◌^◌, ◌∷◌, [], ℕ, List, false, length, refl, arith, IsTrue}
use Rattle.std.specs.Prelude.{All, ⊤}
use Rattle.std.proofs.lemmas.List.Elements.{All-cons, All-nil}
use Rattle.std.proofs.lemmas.Slice.Zip.{AllZip-long}
use Rattle.dict_value.specs.declared.value.Field.{Field}
use Rattle.row_text.specs.TabRow.{IsTabRow}
use Rattle.wire_text.specs.Requests.{AsksFor, IsVerbHead, asked_above}
use Rattle.wire_text.specs.declared.request.Asked.{Asked}
use Rattle.wire_text.specs.declared.request.Request.{Request}
use Rattle.wire_text.specs.declared.request.Request.TheVariants as request
use Rattle.wire_text.specs.declared.request.Verb.{Verb}
use Rattle.wire_text.specs.declared.request.Verb.TheVariants as verb
use Rattle.dict_functions.specs.Asking.{IsAsked, asks_attribute, asks_hierarchy}
use Rattle.dict_functions.specs.steps.Lines.{key_count}

-- what holds of the lines of a lookup, where so many lines follow the first
record HasLines (count : ℕ) (q : Asked) : Type 0 where
  pub one : q.block ≡ false → length q.lines ≡ 1
  pub most : length q.lines ≤ count + 1
  pub keys : IsTrue (asks_hierarchy q.verb) → All (λ fields. length fields ≡ key_count q.verb) q.lines

abbrev HasLinesOf : ℕ → Request → Type 0
HasLinesOf count (request.Asked q) = HasLines count q
HasLinesOf count _ = ⊤

-- the head of a lookup asks for no hierarchy
no_hierarchy : (head : List Field) (v : Verb) (name attribute : List ℕ) (fallback : Field)
    → IsVerbHead head v name attribute fallback → IsTrue (asks_hierarchy v) → ⊥
no_hierarchy head v name attribute fallback (IsVerbHead.get n a) is = cc
no_hierarchy head v name attribute fallback (IsVerbHead.get_or_default n a f) is = cc
no_hierarchy head v name attribute fallback (IsVerbHead.get_or_null n a) is = cc
no_hierarchy head v name attribute fallback (IsVerbHead.has n) is = cc
no_hierarchy head v name attribute fallback (IsVerbHead.call n) is = cc

one_line : (P : List Field → Type 0) (keys : List Field) → P keys → All P (keys ∷ [])
one_line P keys here = All-cons P keys [] here (All-nil P)

-- a line with so many fields asks for a hierarchy
asks_above : (v : Verb) (name : List ℕ) (keys : List Field) (level count : ℕ) → length keys ≡ key_count v
    → HasLinesOf count (asked_above v name keys level)
asks_above v name keys level count long = record {
  one = λ e. refl;
  most = omega arith;
  keys = λ e. one_line (λ fields. length fields ≡ key_count v) keys long;
}

lines_by : (line : List ℕ) (fields : List Field) (rows : List (List Field)) (r : Request) → AsksFor line fields rows r
    → HasLinesOf (length rows) r
lines_by line fields rows r (AsksFor.single {head = head} {keys = keys} {verb = v} {name = n} {attribute = a} {fallback = f} e l some) = record {
  one = λ e. refl;
  most = omega arith;
  keys = λ is. absurd (no_hierarchy head v n a f l is);
}
lines_by line fields rows r (AsksFor.block {head = head} {verb = v} {name = n} {attribute = a} {fallback = f} count b l) = record {
  one = λ e. absurd (cc);
  most = omega arith;
  keys = λ is. absurd (no_hierarchy head v n a f l is);
}
lines_by line fields rows r (AsksFor.chain name key) = asks_above verb.Hierarchy name (key ∷ []) 0 0 refl
lines_by line fields rows r (AsksFor.children name key) = asks_above verb.Children name (key ∷ []) 0 0 refl
lines_by line fields rows r (AsksFor.is_in name key ancestor) = asks_above verb.IsIn name (key ∷ ancestor ∷ []) 0 0 refl
lines_by line fields rows r (AsksFor.descendants name digits key {level = level} d s) = asks_above verb.Descendants name (key ∷ []) level 0 refl
lines_by line fields rows r (AsksFor.reload name) = tt
lines_by line fields rows r (AsksFor.status name) = tt
lines_by line fields rows r (AsksFor.show name) = tt
lines_by line fields rows r (AsksFor.after name digits d) = tt
lines_by line fields rows r AsksFor.config = tt
lines_by line fields rows r AsksFor.quit = tt

module _ (q : Asked) (asked : IsAsked q) where
  lines : HasLines (length asked.reads.rows) q
  lines = lines_by asked.first asked.reads.fields asked.reads.rows (request.Asked q) asked.reads.asks

  -- a single lookup has one line
  pub one-line : q.block ≡ false → length q.lines ≡ 1
  one-line = lines.one

  pub few-lines : length q.lines < 2 ^ 32
  few-lines = omega (arith, lines.most, AllZip-long IsTabRow asked.more asked.reads.rows asked.reads.lines, asked.few)

  -- a hierarchy is asked by lines of one number, or of two
  pub key-counts : IsTrue (asks_hierarchy q.verb) → All (λ fields. length fields ≡ key_count q.verb) q.lines
  key-counts = lines.keys

-- a verb that asks for no hierarchy asks for an attribute, unless it is one of the two others
pub asks-attribute : (v : Verb) → asks_hierarchy v ≡ false → v ≢ verb.Has → v ≢ verb.Call → IsTrue (asks_attribute v)
asks-attribute verb.Get h has call = refl
asks-attribute verb.GetOrDefault h has call = refl
asks-attribute verb.GetOrNull h has call = refl
asks-attribute verb.Has h has call = absurd (has refl)
asks-attribute verb.Call h has call = absurd (call refl)
asks-attribute verb.Hierarchy h has call = absurd (cc)
asks-attribute verb.IsIn h has call = absurd (cc)
asks-attribute verb.Children h has call = absurd (cc)
asks-attribute verb.Descendants h has call = absurd (cc)
