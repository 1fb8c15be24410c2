-- Words of the command line.
use Rattle.std.proofs.Common.{◌≡◌, ◌<◌, ◌≤◌, ℕ, List, [], ◌∷◌, length, get_or, arith, refl, ap, sym, ◌∙◌, map, codes}
use Rattle.std.proofs.Common.{Bool, true, false}
use Rattle.std.specs.Prelude.{not}
use Rattle.std.specs.Cmp.Lexicographic.{pointwise}
use lib.Dec.{eqb}
use Rattle.std.proofs.lemmas.Slice.Eq.{slice_eq-Decides}
use Rattle.std.proofs.lemmas.Bool.Decides.{Decides-eqb}
use Rattle.std.specs.Str.Parse.{digits_value}
use Rattle.dict_value.specs.Digits.{IsDigits}
use Rattle.dictd.specs.CommandLine.{IsDemo, IsOnce}
use Rattle.dictd.specs.declared.words.TheConstants.{MOST_DEMO_ROWS}

pub three : {X : Type 0} (xs : List X) (a b c : X) → 3 ≤ length xs → length xs < 4 → a ≡ get_or xs 0 a → b ≡ get_or xs 1 b → c ≡ get_or xs 2 c → xs ≡ a ∷ b ∷ c ∷ []
three [] a b c low high p q r = absurd (omega arith)
three (x ∷ []) a b c low high p q r = absurd (omega arith)
three (x ∷ y ∷ []) a b c low high p q r = absurd (omega arith)
three (x ∷ y ∷ z ∷ []) a b c low high p q r = let f : a ≡ x = p in let g : b ≡ y = q in let h : c ≡ z = r in cc
three (x ∷ y ∷ z ∷ w ∷ ws) a b c low high p q r = absurd (omega arith)

-- three words, of which the first is `once` and the last a number
pub once-words : {X : Type 0} (text_of : X → List ℕ) (words : List X) (verb name seed : X) (verb_text name_text seed_text : List ℕ) (number : ℕ) → words ≡ verb ∷ name ∷ seed ∷ [] → verb_text ≡ text_of verb → name_text ≡ text_of name → seed_text ≡ text_of seed → verb_text ≡ codes "once" → IsDigits seed_text × (number ≡ digits_value 10 seed_text) → IsOnce (map text_of words) name_text number
once-words text_of words verb name seed verb_text name_text seed_text number list v f s e digits = record {
  digits = seed_text;
  spelled = ap (map text_of) list ∙ ap (λ z. z ∷ text_of name ∷ text_of seed ∷ []) (sym v ∙ e) ∙ ap (λ z. codes "once" ∷ z ∷ text_of seed ∷ []) (sym f) ∙ ap (λ z. codes "once" ∷ name_text ∷ z ∷ []) (sym s);
  number = digits.0;
  seed_is = digits.1;
}

-- three words, of which the first is `demo` and the others are numbers
pub demo-words : {X : Type 0} (text_of : X → List ℕ) (words : List X) (verb rows seed : X) (verb_text row_text seed_text : List ℕ) (many number : ℕ) → words ≡ verb ∷ rows ∷ seed ∷ [] → verb_text ≡ text_of verb → row_text ≡ text_of rows → seed_text ≡ text_of seed → verb_text ≡ codes "demo" → IsDigits row_text × (many ≡ digits_value 10 row_text) → IsDigits seed_text × (number ≡ digits_value 10 seed_text) → 0 < many → many ≤ MOST_DEMO_ROWS → IsDemo (map text_of words) many number
demo-words text_of words verb rows seed verb_text row_text seed_text many number list v r s e row_digits seed_digits some few = record {
  row_digits = row_text;
  seed_digits = seed_text;
  spelled = ap (map text_of) list ∙ ap (λ z. z ∷ text_of rows ∷ text_of seed ∷ []) (sym v ∙ e) ∙ ap (λ z. codes "demo" ∷ z ∷ text_of seed ∷ []) (sym r) ∙ ap (λ z. codes "demo" ∷ row_text ∷ z ∷ []) (sym s);
  row_number = row_digits.0;
  rows_are = row_digits.1;
  some = some;
  few = few;
  seed_number = seed_digits.0;
  seed_is = seed_digits.1;
}

-- a text that isn't told apart from a verb is it
pub is-verb : (text verb : List ℕ) (same : Bool) → same ≡ pointwise eqb text verb → false ≡ not same → text ≡ verb
is-verb text verb true e h = (slice_eq-Decides Decides-eqb text verb true e).0 refl
is-verb text verb false e h = cc
