-- The exchange that appends an entry keeps the rule of a slot's list.
use Rattle.std.proofs.Common.{◌≡◌, ℕ, ◌+◌, ◌<◌, ◌==◌, Bool, true, false, List, [], ◌∷◌, ◌++◌, length, None}
use Rattle.std.proofs.Common.{refl, ap, sym, subst, arith, inl, length-append}
use Rattle.std.proofs.lemmas.List.{append-nil}
use Rattle.std.proofs.lemmas.Bool.Decides.{nat_tests}
use mathlib.Core.List.{IsPrefix}
use prog.Atomic.{either}
use Rattle.logbook.specs.Pages.{Cell, cell, keeps, no_nib, View, Moves, Goes}
use Rattle.version_slot.specs.SharedSlots.{Appends, IsSlotList}
use Rattle.version_slot.specs.Views.{EachHasFact}
use Rattle.version_slot.proofs.Views.{fact-append, fact-none, prefix-whole}

module _ {E : Type 0} (allows : List E → E → Type 0) where
  abbrev pub shown : List E → List E
  shown list = []

  abbrev pub moved : List E → List E → ℕ → Type 0
  moved xs ys n = Unit {0}

  -- a thread that has seen so much of the list, and has no pen and no answer
  abbrev pub having-seen : List E → View E ℕ
  having-seen seen = (seen, (no_nib, None))

  -- the word that is found becomes one more where it is the expected number
  abbrev pub one-more : ℕ → ℕ → ℕ
  one-more old found = either (found == old) (old + 1) found

  abbrev pub tells : ℕ → E → List E → ℕ → View E ℕ → Type 0
  tells old e seen found after = Appends allows old e seen found after.0

  abbrev pub words : List E → List Cell
  words list = (length list, true) ∷ (0, true) ∷ []

  -- what the exchange does to these words and this list
  abbrev pub Exchanges : List E → E → ℕ → List Cell → List E → Type 0
  Exchanges seen e old = Goes (IsSlotList allows) shown moved 0 (having-seen seen) (one-more old) (tells old e seen)

  pub starts : IsSlotList allows (words []) []
  starts = record { counted = refl; fact = fact-none allows }

  pub appends-goes : (list seen : List E) (e : E) (old : ℕ) → length seen ≡ old → allows seen e
      → EachHasFact allows list → IsPrefix seen list → (b : Bool) → (length list == old) ≡ b
      → Exchanges seen e old (words list) list
  appends-goes list seen e old counted may fact before true is =
      let here : length list ≡ old = grind (arith, nat_tests) in
      let same : seen ≡ list = prefix-whole seen list before (omega arith) in
      let allowed : allows list e = subst (λ (z : List E). allows z e) same may in
      let longer : EachHasFact allows (list ++ e ∷ []) = fact-append allows list e fact allowed in
      let number : one-more old (length list) ≡ length (list ++ e ∷ []) =
      rw is (omega (arith, length-append list (e ∷ []))) in (
        keeps,
        e ∷ [],
        None,
        tt,
        record { counted = ap (λ (k : ℕ). (k, true) ∷ (0, true) ∷ []) number; fact = longer },
        inl (refl, refl),
        rw is (ap (λ z. z ++ e ∷ []) (sym same), longer),
      )
  appends-goes list seen e old counted may fact before false is =
      let all : list ++ [] ≡ list = append-nil list in
      let kept : EachHasFact allows (list ++ []) = subst (EachHasFact allows) (sym all) fact in
      let number : one-more old (length list) ≡ length (list ++ []) = rw is (ap length (sym all)) in (
        keeps,
        [],
        None,
        tt,
        record { counted = ap (λ (k : ℕ). (k, true) ∷ (0, true) ∷ []) number; fact = kept },
        inl (refl, refl),
        rw is tt,
      )

  -- whatever the list is, the exchange appends the entry to all that was seen, or finds that the list is longer
  pub appends-moves : (seen : List E) (e : E) (old : ℕ) → length seen ≡ old → allows seen e
      → Moves (IsSlotList allows) shown moved 0 (having-seen seen) (one-more old) (tells old e seen)
  appends-moves seen e old counted may cells list rule before away =
      let Steps : List Cell → Type 0 =
      λ c. (0 < length c) × ((cell c 0).1 ≡ true) × Exchanges seen e old c list in
      let goes = appends-goes list seen e old counted may rule.fact before (length list == old) refl in
      subst Steps (sym rule.counted) (omega arith, refl, goes)
