-- The first line of a block.
use Rattle.std.proofs.Common.{◌≡◌, ◌∙◌, ℕ, List, [], ◌∷◌, Bool, true, false, Option, Some, None, codes, refl, sym, ap, subst}
use Rattle.std.specs.Prelude.{◌↔◌, IsTrue, MatchBool}
use Rattle.std.proofs.lemmas.Bool.{true≢false}
use Rattle.dict_value.specs.declared.value.Field.{Field}
use Rattle.dict_value.specs.declared.value.Field.TheVariants.{Null, Text}
use Rattle.row_text.specs.TabRow.{IsTabRow}
use Rattle.wire_text.proofs.Asking.{head_found, head_read, many_is}
use Rattle.wire_text.specs.Requests.{IsBlockLine}
use Rattle.wire_text.specs.RequestTexts.{IsBlockHead}
use Rattle.wire_text.specs.declared.reading.Lookup.{Lookup}
use Rattle.wire_text.specs.declared.words.Word.TheVariants as word
use Rattle.wire_text.specs.steps.Asked.{head_in}
use Rattle.wire_text.specs.steps.Fields.{lookup_of, text_first, request_word}
use Rattle.wire_text.specs.steps.Heads.{IsHeadOfBlock}

first_put : Option (List ℕ × List Field) → List Field
first_put None = []
first_put (Some found) = Text found.0 ∷ found.1

first_is : (fields rest : List Field) (text : List ℕ) → text_first fields ≡ Some (text, rest) → fields ≡ Text text ∷ rest
unfolding first_put
first_is [] rest text e = let none : [] ≡ Text text ∷ rest = ap first_put e in absurd (cc)
first_is (Null ∷ fields) rest text e = let none : [] ≡ Text text ∷ rest = ap first_put e in absurd (cc)
first_is (Text t ∷ fields) rest text e = ap first_put e

module _ (fields rest head : List Field) (text : List ℕ) (count : Field) (first : text_first fields ≡ Some (text, rest))
    (many : request_word text ≡ Some word.Many) (cut : rest ≡ count ∷ head) where
  -- the lookup of a block that has one
  found : (h : IsHeadOfBlock fields) → head_in head ≡ Some (lookup_of h.verb h.name h.attribute h.fallback [])
  found h =
      let whole : Text text ∷ count ∷ head ≡ Text (codes "many") ∷ h.count ∷ h.head =
      ap (λ (l : List Field). Text text ∷ l) (sym cut) ∙ sym (first_is fields rest text first) ∙ h.whole in
      let same : head ≡ h.head = cc in
      ap head_in same ∙ head_found h.lookup

  pub head_lacks : head_in head ≡ None → ¬ IsHeadOfBlock fields
  head_lacks none = λ h. let other : None ≡ Some (lookup_of h.verb h.name h.attribute h.fallback []) = sym none ∙ found h in absurd (cc)

  pub head_put : (l : Lookup) (b : Bool) → head_in head ≡ Some l → IsTrue b ↔ (l.keys ≡ [])
      → MatchBool b (IsHeadOfBlock fields) (¬ IsHeadOfBlock fields)
  head_put l true is none = record {
    count = count;
    head = head;
    verb = l.verb;
    name = l.name;
    attribute = l.attribute;
    fallback = l.fallback;
    whole = first_is fields rest text first ∙ ap (λ (l : List Field). Text text ∷ l) cut
        ∙ ap (λ (t : List ℕ). Text t ∷ count ∷ head) (many_is text many);
    lookup = head_read head l is (none.0 refl);
  }
  head_put l false is none = λ h.
      let same : l ≡ lookup_of h.verb h.name h.attribute h.fallback [] = let e = sym is ∙ found h in cc in
      true≢false (sym (none.1 (ap (λ (l : Lookup). l.keys) same)))

-- the first line of a block, by its fields
pub line_put : (line : List ℕ) (size : ℕ) (fields : List Field) (b : Bool) → IsBlockLine line size
    → IsTabRow line fields × ((other : List Field) → IsTabRow line other → other ≡ fields)
    → MatchBool b (IsHeadOfBlock fields) (¬ IsHeadOfBlock fields) → MatchBool b (IsBlockHead line) (¬ IsBlockHead line)
line_put line size fields true block row h = record {
  size = size;
  count = h.count;
  head = h.head;
  verb = h.verb;
  name = h.name;
  attribute = h.attribute;
  fallback = h.fallback;
  fields = subst (IsTabRow line) h.whole row.0;
  block = block;
  lookup = h.lookup;
}
line_put line size fields false block row none = λ h. none record {
  count = h.count;
  head = h.head;
  verb = h.verb;
  name = h.name;
  attribute = h.attribute;
  fallback = h.fallback;
  whole = sym (row.1 _ h.fields);
  lookup = h.lookup;
}
