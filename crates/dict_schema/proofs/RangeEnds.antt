-- The two ends of a range.
use Rattle.std.proofs.Common.{◌≡◌, ◌≢◌, ℕ, List, Some, true, false, inl, inr, refl, sym, subst, slice_get, ◌∙◌, ap, IsTrue}
use Rattle.std.proofs.lemmas.Option.{same_Some}
use Rattle.dict_schema.specs.declared.definition.Column.{Column}
use Rattle.dict_schema.specs.declared.definition.Definition.{Definition}
use Rattle.dict_schema.specs.declared.definition.RangeOf.{RangeOf}
use Rattle.dict_schema.specs.declared.definition.RangeOf.TheVariants as range
use Rattle.dict_schema.specs.declared.fault.DefFault.TheVariants as fault
use Rattle.dict_schema.specs.Judging.{AreClear, IsFirstFault}
use Rattle.dict_schema.specs.Parts.{is_range_layout, HasRange, HasBadRange, AreBadEnds}
use Rattle.dict_schema.specs.Table.{ranges}

-- the ends that a definition has are those of its range
same-ends : (d : Definition) (r s : HasRange d) → AreBadEnds d s.start s.end s.first s.last → AreBadEnds d r.start r.end r.first r.last
same-ends d r s bad =
    let start : s.start ≡ r.start = cc (s.range, r.range) in
    let end : s.end ≡ r.end = cc (s.range, r.range) in
    let first : s.first ≡ r.first = same_Some _ _ (sym s.found_first ∙ ap (slice_get d.columns) start ∙ r.found_first) in
    let last : s.last ≡ r.last = same_Some _ _ (sym s.found_last ∙ ap (slice_get d.columns) end ∙ r.found_last) in
    subst (λ (x : ℕ). AreBadEnds d x r.end r.first r.last) start
    (subst (λ (x : ℕ). AreBadEnds d s.start x r.first r.last) end
    (subst (λ (x : Column). AreBadEnds d s.start s.end x r.last) first
    (subst (λ (x : Column). AreBadEnds d s.start s.end s.first x) last bad)))

-- a range layout whose range is bad
pub bad-range : (d : Definition) → is_range_layout d.layout ≡ true → (r : HasRange d) → AreBadEnds d r.start r.end r.first r.last → IsFirstFault (ranges d) fault.RangeType
bad-range d wanted r bad =
    inr (λ f h. h.1.1 r, inr (λ f h. absurd (cc (wanted, h.1.0)), inl (refl, (r, bad))))

-- a range layout whose range is not
pub good-range : (d : Definition) → is_range_layout d.layout ≡ true → (r : HasRange d) → (AreBadEnds d r.start r.end r.first r.last → ⊥) → AreClear (ranges d)
good-range d wanted r good =
    (λ f h. h.1.1 r, (λ f h. absurd (cc (wanted, h.1.0)), (λ f h. good (same-ends d r h.1.0 h.1.1), tt)))
