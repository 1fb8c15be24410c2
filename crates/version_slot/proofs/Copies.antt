-- The steps on the two copies keep their rule.
use Rattle.std.proofs.Common.{◌≡◌, ◌≢◌, ℕ, List, [], ◌∷◌, ◌++◌, set, Option, Some, None, fold}
use Rattle.std.proofs.Common.{refl, sym, ap, subst, ◌∙◌, ⊎_elim}
use Rattle.std.proofs.lemmas.List.Sums.{fold-append}
use mathlib.Core.Option.{some}
use lib.ListN.{get_elem?}
use Rattle.atomic_table.proofs.Lists.{at_set, at_snoc}
use Rattle.version_slot.specs.SharedSlots.{SlotName}
use Rattle.version_slot.specs.declared.shared.rule.Which.{Which}
use Rattle.version_slot.specs.Copies.{which, Knows, AllKnow}

pub knows-same : (b : SlotName) (v w : Option Which) → v ≡ w → Knows v b → Knows w b
knows-same b v w same = subst (λ (z : Option Which). Knows z b) same

-- one more that knows the slot, or none
pub one-more-knows : (b : SlotName) (views : List (Option Which)) (w : Option Which) → AllKnow b views → Knows w b
    → AllKnow b (views ++ w ∷ [])
one-more-knows b views w all one seat v at =
    ⊎_elim (all seat v) (λ (same : w ≡ v). knows-same b w v same one) (at_snoc views w v seat at)

pub admits : (b : SlotName) (views : List (Option Which)) → AllKnow b views → AllKnow b (views ++ None ∷ [])
admits b views all = one-more-knows b views None all tt

pub set-knows : (b : SlotName) (views : List (Option Which)) (seat : ℕ) (w : Option Which) → AllKnow b views
    → Knows w b → AllKnow b (set views seat w)
set-knows b views seat w all one j u at =
    ⊎_elim (λ (t : (j ≡ seat) × (w ≡ u)). knows-same b w u t.1 one)
    (λ (t : (j ≢ seat) × (get_elem? views j ≡ some u)). all j u t.1) (at_set views seat j w u at)

pub enters : (b : SlotName) (seat : ℕ) (v : Option Which) (views : List (Option Which)) → AllKnow b views
    → get_elem? views seat ≡ some v → (w : Option Which) × AllKnow b (set views seat w) × ((w ≡ v) × Knows v b)
enters b seat v views all at = (v, set-knows b views seat v all (all seat v at), (refl, all seat v at))

pub shows : (b c : SlotName) (seat : ℕ) (views : List (Option Which)) → c ≡ b → AllKnow b views
    → (w : Option Which) × AllKnow c (set views seat w) × (w ≡ Some (which c))
shows b c seat views same all =
    let so : AllKnow c views = subst (λ (z : SlotName). AllKnow z views) (sym same) all in
    (Some (which c), set-knows c views seat (Some (which c)) so refl, refl)

pub tells : (b : SlotName) (seat : ℕ) (v : Option Which) (views : List (Option Which)) → AllKnow b views
    → get_elem? views seat ≡ some v → AllKnow b (set views seat v ++ v ∷ [])
tells b seat v views all at =
    one-more-knows b (set views seat v) v (set-knows b views seat v all (all seat v at)) (all seat v at)

pub hears : (b : SlotName) (seat other : ℕ) (w : Option Which) (views : List (Option Which)) → AllKnow b views
    → ¬ (other ≡ seat) → get_elem? (set views seat w) other ≡ some w
    → AllKnow b (set (set views seat w) other None)
hears b seat other w views all apart there =
    let knows : Knows w b =
    ⊎_elim (λ (t : (other ≡ seat) × (w ≡ w)). absurd (apart t.0))
    (λ (t : (other ≢ seat) × (get_elem? views other ≡ some w)). all other w t.1)
    (at_set views seat other w w there) in
    set-knows b (set views seat w) other None (set-knows b views seat w all knows) tt

-- where each operation sets all, the last one counts
pub fold-last : {S O : Type 0} (f : S → O → S) (k : O → S) → ((s : S) (o : O) → f s o ≡ k o)
    → (s : S) (xs : List O) (o : O) (ys : List O) → ys ≡ xs ++ o ∷ [] → fold f s ys ≡ k o
fold-last f k sets s xs o ys e = ap (fold f s) e ∙ (fold-append f s xs (o ∷ []) ∙ sets (fold f s xs) o)
