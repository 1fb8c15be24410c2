-- A row, byte by byte.
use Rattle.std.proofs.Common.{◌≡◌, ◌≢◌, ◌≤◌, ◌<◌, ◌+◌, ◌%◌, ◌∷◌, ◌++◌, ◌∙◌, ◌==◌, [], ℕ, List, length, refl, sym, ap, inl, inr, arith, true, false, Bool, not, cond}
use Rattle.std.specs.Prelude.{count_by}
use Rattle.std.specs.List.{suffix_len}
use Rattle.std.proofs.lemmas.List.{get_or_append_left, get_or_at, length-append, reverse-append, take-append-le, take_at}
use Rattle.std.proofs.lemmas.List.Sums.{sum_by_push}
use Rattle.std.proofs.lemmas.Bool.{cases_Bool, eq-eqb, ne_eqb, cases_eq}
use Rattle.row_text.specs.declared.cutter.CutRule.{CutRule}
use Rattle.row_text.specs.declared.cutter.CutRule.TheVariants as rule
use Rattle.dict_value.specs.declared.letters.TheConstants.{BACKSLASH, DOUBLE_QUOTE, LINE_FEED}
use Rattle.row_text.specs.Cutting.{IsOpen, is_odd, keeps_open}

-- whether a line feed behind this byte is kept, where one before it was
abbrev pub toggled : CutRule → Bool → ℕ → Bool
toggled rule.Plain inside b = false
toggled rule.Tab inside b = cond (b == BACKSLASH) (not inside) false
toggled rule.Csv inside b = cond (b == DOUBLE_QUOTE) (not inside) inside

-- what stands for a byte that is the one that is looked for, and for any other
pub toggle-at : (b k : ℕ) (yes' no' : Bool) → b ≡ k → cond (b == k) yes' no' ≡ yes'
toggle-at b k yes' no' is = rw (eq-eqb b k is) refl

pub toggle-other : (b k : ℕ) (yes' no' : Bool) → b ≢ k → cond (b == k) yes' no' ≡ no'
toggle-other b k yes' no' other = rw (ne_eqb b k other) refl

odd-more : (n : ℕ) → is_odd (n + 1) ≡ not (is_odd n)
odd-more n = elim (cases_eq (n % 2) 1) [
  | inl odd ↦ rw (odd, ne_eqb ((n + 1) % 2) 1 (λ e. omega arith)) refl
  | inr even ↦ rw (ne_eqb (n % 2) 1 even, eq-eqb ((n + 1) % 2) 1 (omega arith)) refl
]

pub keeps_open-push : (by : CutRule) (row : List ℕ) (b : ℕ) → keeps_open by (row ++ b ∷ []) ≡ toggled by (keeps_open by row) b
unfolding keeps_open
keeps_open-push rule.Plain row b = refl
keeps_open-push rule.Tab row b = elim (cases_Bool (b == BACKSLASH)) [
  | inl yes' ↦ rw (reverse-append row (b ∷ []), yes') (ap is_odd (omega arith) ∙ odd-more (suffix_len (λ x. x == BACKSLASH) row))
  | inr no' ↦ rw (reverse-append row (b ∷ []), no') refl
]
keeps_open-push rule.Csv row b = elim (cases_Bool (b == DOUBLE_QUOTE)) [
  | inl yes' ↦ rw (sum_by_push (λ x. cond (x == DOUBLE_QUOTE) 1 0) row b, yes') (odd-more (count_by (λ x. x == DOUBLE_QUOTE) row))
  | inr no' ↦ rw (sum_by_push (λ x. cond (x == DOUBLE_QUOTE) 1 0) row b, no') (ap is_odd (omega arith))
]

-- one more byte, which is no line feed that ends the row
pub open-push : (by : CutRule) (row : List ℕ) (b : ℕ) → IsOpen by row → (b ≡ LINE_FEED → keeps_open by row ≡ true) → IsOpen by (row ++ b ∷ [])
open-push by row b opened kept place below at = elim (cases_eq place (length row)) [
  | inl last ↦ rw (last, take_at row (b ∷ []) (length row) refl) (kept (sym (get_or_at row b [] 0 (length row) refl) ∙ rw last at at))
  | inr before ↦
      let below' : place < length row = omega (arith, length-append row (b ∷ [])) in
      let le : place ≤ length row = omega arith in
      rw (take-append-le place row (b ∷ []) le) (opened place below' (sym (get_or_append_left row (b ∷ []) 0 place below') ∙ at))
]

pub open-nil : (by : CutRule) → IsOpen by []
open-nil by place below at = absurd (omega arith)

pub keeps_open-nil : (by : CutRule) → keeps_open by [] ≡ false
unfolding keeps_open
keeps_open-nil rule.Plain = refl
keeps_open-nil rule.Tab = refl
keeps_open-nil rule.Csv = refl
