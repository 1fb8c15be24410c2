-- Names that are the same.
use Rattle.std.proofs.Common.{◌≡◌, ℕ, Bool, true, false, List, [], ◌∷◌, refl, sym, ap, subst, ◌∙◌, inl, inr}
use Rattle.std.specs.Prelude.{◌==◌, ◌↔◌, IsTrue}
use Rattle.std.proofs.lemmas.Bool.{eqb-true, cases_Bool}
use Rattle.ddl_tokens.specs.declared.letters.LetterCase.TheVariants.{AsWritten}
use Rattle.ddl_tokens.specs.Letters.{folded, same_letters}
use Rattle.ddl_tokens.proofs.Laws.{same_itself, test_cases}
use Rattle.ddl_text.specs.Items.{same_name}

pub same_bytes : (a b : List ℕ) → same_letters AsWritten a b ≡ true → a ≡ b
unfolding same_letters
same_bytes [] [] e = refl
same_bytes [] (y ∷ b) e = absurd cc
same_bytes (x ∷ a) [] e = absurd cc
same_bytes (x ∷ a) (y ∷ b) e = elim (test_cases (folded AsWritten x == folded AsWritten y) (same_letters AsWritten a b) false true e) [
  | inr p ↦ absurd (let q = p.1 in cc)
  | inl p ↦ ap (λ (z : ℕ). z ∷ a) (eqb-true x y p.0) ∙ ap (λ (c : List ℕ). y ∷ c) (same_bytes a b p.1)
]

pub same_name_is : (told : Bool) (a b : List ℕ) → (IsTrue told ↔ (a ≡ b)) → told ≡ same_name a b
same_name_is true a b h = sym (subst (λ (c : List ℕ). same_letters AsWritten a c ≡ true) (h.0 refl) (same_itself AsWritten a))
same_name_is false a b h = elim (cases_Bool (same_letters AsWritten a b)) [ inr f ↦ sym f | inl f ↦ absurd (let k = h.1 (same_bytes a b f) in cc) ]
