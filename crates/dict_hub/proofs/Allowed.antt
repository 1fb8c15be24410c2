-- What holds of each version of each view.
use Rattle.std.proofs.Common.{◌≡◌, ◌<◌, ◌≤◌, ◌++◌, ℕ, zero, suc, List, [], ◌∷◌, Bool, true, false, map, length, get_or, refl, sym, subst, arith, inl, inr}
use Rattle.std.proofs.Math.Nat.{eq-or-lt_of_le}
use Rattle.std.proofs.lemmas.Bool.{ltb-false, ltb-true}
use Rattle.std.specs.Prelude.{nat_lt}
use Rattle.dict_hub.specs.Over.{view_at}
use Rattle.dict_version.specs.Contents.{Contents}
use Rattle.version_slot.specs.Views.{EachHasFact}

-- there is no version
none-allowed : (allows : List Contents → Contents → Type 0) → EachHasFact allows []
none-allowed allows [] after e is = absurd (cc is)
none-allowed allows (x ∷ before) after e is = absurd (cc is)

module _ {A B : Type 0} (allows : List Contents → Contents → Type 0) (view : B → List Contents) (f : A → B) where
  -- one more dictionary was asked
  pub allowed-more : (cs : List A) (d : ℕ) (x : A) → x ≡ get_or cs d x → EachHasFact allows (view (f x)) → d < length cs
      → EachHasFact allows (view_at view (map f cs) d)
  allowed-more [] d x is fact lt = absurd (omega arith)
  allowed-more (c ∷ cs) zero x is fact lt = subst (λ (y : A). EachHasFact allows (view (f y))) is fact
  allowed-more (c ∷ cs) (suc d) x is fact lt = allowed-more cs d x is fact (omega arith)

  -- there are no more
  pub allowed-behind : (cs : List A) (d : ℕ) → length cs ≤ d → EachHasFact allows (view_at view (map f cs) d)
  allowed-behind [] d le = none-allowed allows
  allowed-behind (c ∷ cs) zero le = absurd (omega arith)
  allowed-behind (c ∷ cs) (suc d) le = allowed-behind cs d (omega arith)

  allowed-by : (cs : List A) (count d : ℕ) (b : Bool) → nat_lt d count ≡ b → length cs ≤ count
      → ((k : ℕ) → k < count → EachHasFact allows (view_at view (map f cs) k)) → EachHasFact allows (view_at view (map f cs) d)
  allowed-by cs count d true e most seen = seen d (ltb-true d count e)
  allowed-by cs count d false e most seen = let above = ltb-false d count e in allowed-behind cs d (omega arith)

  -- each was asked
  pub allowed-all : (cs : List A) (count d : ℕ) → length cs ≤ count
      → ((k : ℕ) → k < count → EachHasFact allows (view_at view (map f cs) k)) → EachHasFact allows (view_at view (map f cs) d)
  allowed-all cs count d most seen = allowed-by cs count d (nat_lt d count) refl most seen

  -- the first ones were asked, and one more
  pub allowed-next : (cs : List A) (d k : ℕ) (x : A) → x ≡ get_or cs d x → EachHasFact allows (view (f x)) → d < length cs → k ≤ d
      → ((j : ℕ) → j < d → EachHasFact allows (view_at view (map f cs) j)) → EachHasFact allows (view_at view (map f cs) k)
  allowed-next cs d k x is fact lt le seen = elim (eq-or-lt_of_le le) [
    | inl same ↦ subst (λ (n : ℕ). EachHasFact allows (view_at view (map f cs) n)) (sym same) (allowed-more cs d x is fact lt)
    | inr less ↦ seen k less
  ]
