-- What is kept is that of the rows.
use Rattle.std.specs.Prelude.{Contains}
use Rattle.std.specs.List.{slice_get}
use Rattle.std.specs.List.Sorted.{IsStrictlyIncreasing}
use Rattle.std.proofs.Common.{◌≡◌, ◌<◌, ℕ, List, Some, length, get_or, subst, sym}
use Rattle.dict_value.specs.FindByKey.{HasKeyAt}
use Rattle.hier.specs.Members.{IsCounted}
use Rattle.hier.specs.declared.hier.Parent.TheVariants.{Of}
use Rattle.hier.proofs.Built.{built}
use Rattle.hier.proofs.hier.Hier.build.Goals as goal

pub returns : goal.returns
returns c =
    let keys = c.args.keys.now in
    let parents = c.args.parents.now in
    let members = c.as_slice.ensures.value in
    let ups = c.as_slice-2.ensures.value in
    let rows = c.as_slice-3.ensures.value in
    let m = c.in_ok-members.ensures in
    let links = c.in_ok-links.ensures in
    let lengths = c.in_ok-lengths.ensures in
    let long = c.in_ok-lengths.lengths.items in
    built keys parents c.as_slice.result.now _ c.in_ok-links.links.rows.items (sym members)
    (subst IsStrictlyIncreasing (sym members) m.rises)
    links.len.0
    (subst (λ (z : List ℕ). (place key : ℕ) → HasKeyAt keys key place → Contains z key) (sym members) m.keys)
    (subst (λ (z : List ℕ). (place parent : ℕ) → slice_get parents place ≡ Some (Of parent) → Contains z parent) (sym members) m.parents)
    links.told
    (subst (λ (z : List ℕ). (n : ℕ) → get_or z n 0 ≡ 0 → get_or long n 0 ≡ 0) rows lengths.rowless)
    (subst (λ (z : List ℕ). (n : ℕ) → n < length z → 0 < get_or c.in_ok-links.links.rows.items n 0 → 0 < get_or long n 0) ups
    (subst (λ (z : List ℕ). (n : ℕ) → n < length c.as_slice-2.result.now → 0 < get_or z n 0 → 0 < get_or long n 0) rows lengths.row))
    (subst (λ (z : List ℕ). (n : ℕ) → 0 < get_or long n 0 → IsCounted z c.in_ok-links.links.rows.items n (get_or long n 0)) ups
    (subst (λ (z : List ℕ). (n : ℕ) → 0 < get_or long n 0 → IsCounted c.as_slice-2.result.now z n (get_or long n 0)) rows lengths.counted))
