-- Lists of marks, put together.
use Rattle.std.proofs.Common.{◌≡◌, ◌∷◌, ◌++◌, ◌∙◌, [], ◌==◌, ℕ, zero, suc, List, length, map, get_or, refl, sym, ap, arith, true, false}
use Rattle.std.specs.List.{AllByRecursion, flat_map}
use Rattle.std.proofs.lemmas.List.{append-nil}
use Rattle.std.proofs.lemmas.Bool.{ne_eqb}
use Rattle.std.proofs.lemmas.List.Concat.{flat_map-append}
use Rattle.dict_value.specs.declared.letters.TheConstants.{TAB, CARRIAGE_RETURN}
use Rattle.row_text.specs.Marks.{Mark, bare, IsMark, Spells, meant_byte, spelled}
use Rattle.row_text.specs.TabRow.{ends_in_return, is_tab}
use Rattle.row_text.specs.steps.TabSteps.{IsOrdinary}

pub all-append : {X : Type 0} (P : X → Type 0) (xs ys : List X) → AllByRecursion P xs → AllByRecursion P ys → AllByRecursion P (xs ++ ys)
all-append P [] ys p q = q
all-append P (x ∷ xs) ys p q = (p.0, all-append P xs ys p.1 q)

pub spells-append : (a b : List ℕ) (ms ns : List Mark) → Spells a ms → Spells b ns → Spells (a ++ b) (ms ++ ns)
spells-append a b ms ns p q = record {
  valid = all-append IsMark ms ns p.valid q.valid;
  joined = rw (p.joined, q.joined) (sym (flat_map-append spelled ms ns));
}

pub spells-nil : Spells [] []
spells-nil = record { valid = tt; joined = refl }

-- the last marks decide
pub ends-append_cons : (ms : List Mark) (n : Mark) (ns : List Mark) → ends_in_return (ms ++ n ∷ ns) ≡ ends_in_return (n ∷ ns)
ends-append_cons [] n ns = refl
ends-append_cons (m ∷ []) n ns = refl
ends-append_cons (m ∷ k ∷ ms) n ns = ends-append_cons (k ∷ ms) n ns

pub ends-append : (ms ns : List Mark) → ends_in_return ms ≡ false → ends_in_return ns ≡ false → ends_in_return (ms ++ ns) ≡ false
ends-append ms [] p q = rw (append-nil ms) p
ends-append ms (n ∷ ns) p q = ends-append_cons ms n ns ∙ q

pub ends-append_true : (ms ns : List Mark) → ends_in_return ns ≡ true → ends_in_return (ms ++ ns) ≡ true
ends-append_true ms [] q = cc
ends-append_true ms (n ∷ ns) q = ends-append_cons ms n ns ∙ q

-- plain bytes, each by itself
pub run-valid : (run : List ℕ) → AllByRecursion IsOrdinary run → AllByRecursion IsMark (map bare run)
run-valid [] p = tt
run-valid (b ∷ run) p = (p.0.1, run-valid run p.1)

pub run-untabbed : (run : List ℕ) → AllByRecursion IsOrdinary run → AllByRecursion (λ m. is_tab m ≡ false) (map bare run)
run-untabbed [] p = tt
run-untabbed (b ∷ run) p = (ne_eqb b TAB p.0.0, run-untabbed run p.1)

pub run-spelled : (run : List ℕ) → flat_map spelled (map bare run) ≡ run
run-spelled [] = refl
run-spelled (b ∷ run) = ap (λ (t : List ℕ). b ∷ t) (run-spelled run)

pub run-meant : (run : List ℕ) → map meant_byte (map bare run) ≡ run
run-meant [] = refl
run-meant (b ∷ run) = ap (λ (t : List ℕ). b ∷ t) (run-meant run)

pub run-ends : (run : List ℕ) (k : ℕ) → length run ≡ suc k → ends_in_return (map bare run) ≡ (get_or run k 0 == CARRIAGE_RETURN)
run-ends [] k e = absurd (omega (arith, e))
run-ends (b ∷ []) zero e = refl
run-ends (b ∷ []) (suc k) e = absurd (omega (arith, e))
run-ends (b ∷ c ∷ run) zero e = absurd (omega (arith, e))
run-ends (b ∷ c ∷ run) (suc k) e = run-ends (c ∷ run) k (omega (arith, e))
