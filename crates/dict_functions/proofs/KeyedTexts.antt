-- Lookups in dictionaries whose rows are fetched by key: what they may ask, and the texts of their lines.
use Rattle.std.proofs.Common.{◌≡◌, ◌<◌, ◌∙◌, ◌^◌, ℕ, List, Bool, true, false, Ok, IsTrue, length, refl, sym, subst, arith}
use Rattle.std.proofs.lemmas.Slice.Zip.{AllZip-long}
use Rattle.cache_layout.specs.Fetching.{FitsReply, key_types}
use Rattle.dict_schema.specs.Parts.{is_keyed_layout}
use Rattle.dict_schema.specs.declared.definition.Definition.{Definition}
use Rattle.dict_value.specs.declared.value.FetchedRow.{FetchedRow}
use Rattle.dict_value.specs.declared.value.MaybeRow.{MaybeRow}
use Rattle.dict_value.specs.declared.value.Value.{Value}
use Rattle.wire_text.specs.declared.request.Asked.{Asked}
use Rattle.wire_text.specs.declared.request.Verb.{Verb}
use Rattle.wire_text.specs.declared.request.Verb.TheVariants as verb
use Rattle.dict_functions.specs.Asking.{IsLookup, asks_attribute, asks_hierarchy}
use Rattle.dict_functions.specs.Keyed.{AreFetched, AreKeys, IsFetchedAttribute, IsKeyedTextBy, is_present}
use Rattle.dict_functions.specs.Keys.{ReadsAs}
use Rattle.dict_functions.specs.Refusals.{IsFitting}
use Rattle.dict_functions.specs.Values.{flag}
use Rattle.dict_functions.proofs.AskedLines.{few-lines}
use Rattle.dict_functions.proofs.FetchedCells.{no-parent}

-- a verb that asks for an attribute is answered by its text
fetched-by : (v : Verb) (d : Definition) (q : Asked) (row : MaybeRow) (text : List ℕ) → IsTrue (asks_attribute v)
    → IsFetchedAttribute d q row text → IsKeyedTextBy v d q row text
fetched-by verb.Get d q row text asks is = is
fetched-by verb.GetOrDefault d q row text asks is = is
fetched-by verb.GetOrNull d q row text asks is = is
fetched-by verb.Has d q row text asks is = absurd (cc)
fetched-by verb.Call d q row text asks is = absurd (cc)
fetched-by verb.Hierarchy d q row text asks is = absurd (cc)
fetched-by verb.IsIn d q row text asks is = absurd (cc)
fetched-by verb.Children d q row text asks is = absurd (cc)
fetched-by verb.Descendants d q row text asks is = absurd (cc)

module _ (d : Definition) (q : Asked) where
  pub fetched-is : (row : MaybeRow) (text : List ℕ) → IsTrue (asks_attribute q.verb) → IsFetchedAttribute d q row text
      → IsKeyedTextBy q.verb d q row text
  fetched-is row text asks is = fetched-by q.verb d q row text asks is

  pub present-is : (row : MaybeRow) (text : List ℕ) → q.verb ≡ verb.Has → text ≡ flag (is_present row) → IsKeyedTextBy q.verb d q row text
  present-is row text asks is = subst (λ v. IsKeyedTextBy v d q row text) (sym asks) is

  -- what fits asks for no hierarchy
  pub asks-none : IsTrue (is_keyed_layout d.layout) → IsFitting d q → asks_hierarchy q.verb ≡ false
  asks-none keyed fitting = by_test (asks_hierarchy q.verb) refl where
    by_test : (b : Bool) → asks_hierarchy q.verb ≡ b → asks_hierarchy q.verb ≡ false
    by_test true asks = absurd (fitting.hierarchy (asks, no-parent d keyed))
    by_test false asks = asks

  -- there is a row for each line
  pub row-count : (keys : List (List Value)) (rows : List FetchedRow) → AreKeys d q (Ok keys) → AreFetched d keys rows
      → length rows ≡ length q.lines
  row-count keys rows are fetched =
      AllZip-long (λ (key : List Value) (fetched : FetchedRow). FitsReply d fetched.row) keys rows fetched
      ∙ AllZip-long (ReadsAs (key_types d)) q.lines keys are.1.read

  pub few-rows : IsLookup q → (keys : List (List Value)) (rows : List FetchedRow) → AreKeys d q (Ok keys) → AreFetched d keys rows
      → length rows < 2 ^ 32
  few-rows lookup keys rows are fetched = omega (arith, few-lines q lookup.0, row-count keys rows are fetched)
