-- Texts that the hierarchy of a version gives.
use Rattle.std.proofs.Common.{◌≡◌, ◌≢◌, ◌∷◌, [], ℕ, List, Bool, true, false, inl, inr, refl, sym, subst, IsTrue}
use Rattle.std.specs.Prelude.{◌↔◌}
use Rattle.dict_value.specs.declared.value.Field.{Field}
use Rattle.dict_version.specs.Contents.{Contents}
use Rattle.dict_version.specs.Keys.{numbers_of, parents_of}
use Rattle.dict_version.specs.Kept.{IsHierarchyOf}
use Rattle.hier.specs.Hierarchy.{IsChain, IsDescendant, IsIn, IsRisingListOf}
use Rattle.hier.specs.declared.hier.Hier.{Hier}
use Rattle.wire_text.specs.declared.request.Asked.{Asked}
use Rattle.wire_text.specs.declared.request.Verb.{Verb}
use Rattle.wire_text.specs.declared.request.Verb.TheVariants as verb
use Rattle.dict_functions.specs.Asking.{asks_hierarchy}
use Rattle.dict_functions.specs.Keys.{ReadsNumbers}
use Rattle.dict_functions.specs.Values.{AnswersVerb, IsHierarchyText, IsText, IsTextBy, flag, list_text}
use Rattle.dict_functions.specs.steps.Lines.{IsFromText, key_count}

-- the last verb
pub asks-below : (v : Verb) → IsTrue (asks_hierarchy v) → v ≢ verb.IsIn → v ≢ verb.Hierarchy → v ≢ verb.Children → v ≡ verb.Descendants
asks-below verb.Get h a b c = absurd (cc)
asks-below verb.GetOrDefault h a b c = absurd (cc)
asks-below verb.GetOrNull h a b c = absurd (cc)
asks-below verb.Has h a b c = absurd (cc)
asks-below verb.Call h a b c = absurd (cc)
asks-below verb.Hierarchy h a b c = absurd (b refl)
asks-below verb.IsIn h a b c = absurd (a refl)
asks-below verb.Children h a b c = absurd (c refl)
asks-below verb.Descendants h a b c = refl

-- only one verb asks by two keys
pub one-key : (v : Verb) → v ≢ verb.IsIn → key_count v ≡ 1
one-key verb.Get a = refl
one-key verb.GetOrDefault a = refl
one-key verb.GetOrNull a = refl
one-key verb.Has a = refl
one-key verb.Call a = refl
one-key verb.Hierarchy a = refl
one-key verb.IsIn a = absurd (a refl)
one-key verb.Children a = refl
one-key verb.Descendants a = refl

-- a verb that asks for a hierarchy is answered by its text
hierarchy-by : (v : Verb) (c : Contents) (q : Asked) (fields : List Field) (text : List ℕ) → IsTrue (asks_hierarchy v)
    → IsHierarchyText c q fields text → IsTextBy v c q fields text
hierarchy-by verb.Get c q fields text h is = absurd (cc)
hierarchy-by verb.GetOrDefault c q fields text h is = absurd (cc)
hierarchy-by verb.GetOrNull c q fields text h is = absurd (cc)
hierarchy-by verb.Has c q fields text h is = absurd (cc)
hierarchy-by verb.Call c q fields text h is = absurd (cc)
hierarchy-by verb.Hierarchy c q fields text h is = is
hierarchy-by verb.IsIn c q fields text h is = is
hierarchy-by verb.Children c q fields text h is = is
hierarchy-by verb.Descendants c q fields text h is = is

module _ (c : Contents) (q : Asked) where
  pub hierarchy-text : (fields : List Field) (text : List ℕ) → IsTrue (asks_hierarchy q.verb) → IsHierarchyText c q fields text
      → IsText c q fields text
  hierarchy-text fields text asks is = hierarchy-by q.verb c q fields text asks is

  -- what is list_text for one key
  pub from-text : (fields : List Field) (key : ℕ) (text numbers : List ℕ) → ReadsNumbers fields (key ∷ [])
      → IsFromText q c key (list_text numbers) → text ≡ list_text numbers → IsHierarchyText c q fields text
  from-text fields key text numbers reads from e = record {
    column = from.0;
    numbers = key ∷ [];
    parent = from.1;
    reads = reads;
    is = subst (λ t. AnswersVerb q.verb q.level (numbers_of c.rows) (parents_of c.definition from.0 c.rows) (key ∷ []) t) (sym e) from.2;
  }

  module _ (hier : Hier) (of : IsHierarchyOf c.definition c.rows hier) where
    pub from-chain : (key : ℕ) → q.verb ≡ verb.Hierarchy → (numbers : List ℕ)
        → IsChain (numbers_of c.rows) (parents_of c.definition of.0 c.rows) key numbers → IsFromText q c key (list_text numbers)
    from-chain key is numbers chain =
        (of.0, of.1, subst (λ v. AnswersVerb v q.level (numbers_of c.rows) (parents_of c.definition of.0 c.rows) (key ∷ []) (list_text numbers)) (sym is) (numbers, chain, refl))

    pub from-children : (key : ℕ) → q.verb ≡ verb.Children → (numbers : List ℕ)
        → IsRisingListOf (IsDescendant (numbers_of c.rows) (parents_of c.definition of.0 c.rows) key 1) numbers → IsFromText q c key (list_text numbers)
    from-children key is numbers below =
        (of.0, of.1, subst (λ v. AnswersVerb v q.level (numbers_of c.rows) (parents_of c.definition of.0 c.rows) (key ∷ []) (list_text numbers)) (sym is) (numbers, below, refl))

    pub from-below : (key : ℕ) → q.verb ≡ verb.Descendants → (numbers : List ℕ)
        → IsRisingListOf (IsDescendant (numbers_of c.rows) (parents_of c.definition of.0 c.rows) key q.level) numbers → IsFromText q c key (list_text numbers)
    from-below key is numbers below =
        (of.0, of.1, subst (λ v. AnswersVerb v q.level (numbers_of c.rows) (parents_of c.definition of.0 c.rows) (key ∷ []) (list_text numbers)) (sym is) (numbers, below, refl))

    -- whether a key is in the chain of another
    is-in : (key ancestor : ℕ) (b : Bool) → (IsTrue b ↔ IsIn (numbers_of c.rows) (parents_of c.definition of.0 c.rows) key ancestor)
        → AnswersVerb verb.IsIn q.level (numbers_of c.rows) (parents_of c.definition of.0 c.rows) (key ∷ ancestor ∷ []) (flag b)
    is-in key ancestor true is = inl (is.0 refl, refl)
    is-in key ancestor false is = inr ((λ within. let no = is.1 within in cc), refl)

    pub in-text : (fields : List Field) (key ancestor : ℕ) (text : List ℕ) (b : Bool) → q.verb ≡ verb.IsIn
        → ReadsNumbers fields (key ∷ ancestor ∷ [])
        → (IsTrue b ↔ IsIn (numbers_of c.rows) (parents_of c.definition of.0 c.rows) key ancestor) → text ≡ flag b
        → IsHierarchyText c q fields text
    in-text fields key ancestor text b asks reads is e = record {
      column = of.0;
      numbers = key ∷ ancestor ∷ [];
      parent = of.1;
      reads = reads;
      is = subst (λ v. AnswersVerb v q.level (numbers_of c.rows) (parents_of c.definition of.0 c.rows) (key ∷ ancestor ∷ []) text) (sym asks)
          (subst (λ t. AnswersVerb verb.IsIn q.level (numbers_of c.rows) (parents_of c.definition of.0 c.rows) (key ∷ ancestor ∷ []) t) (sym e) (is-in key ancestor b is));
    }
