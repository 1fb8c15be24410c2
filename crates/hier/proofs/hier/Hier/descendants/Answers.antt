-- The keys of the members that were found.
use Rattle.std.specs.Prelude.{Contains}
use Rattle.std.specs.List.Sorted.{IsStrictlyIncreasing}
use Rattle.std.proofs.Common.{◌≡◌, ◌<◌, ◌∙◌, ℕ, List, drop, length, map, get_or, ap, subst, sym}
use Rattle.hier.specs.Hierarchy.{IsDescendant, IsRisingListOf}
use Rattle.hier.proofs.Descendants.{descendants-all, no-descendants}
use Rattle.hier.proofs.Finds.{found-drop, range-drop}
use Rattle.hier.proofs.hier.Hier.descendants.Goals as goal

pub returns-in_default : goal.returns-in_default
returns-in_default c = λ keys parents h.
    let other = subst (λ (z : List ℕ). IsStrictlyIncreasing z → ¬ (Contains z c.args.key)) c.as_slice.ensures.value c.in_default.ensures.none in
    no-descendants keys parents c.args.self.now h c.args.key c.args.level c.new.result (other h.rising) c.new.ensures

pub keys_of-requires : goal.keys_of-requires
keys_of-requires c =
    let it = c.args.self.now in
    found-drop it.ups.items c.in-Some.of c.args.level c.in_ok-from.from (length it.members.items) c.find_below.new.found _ (c.in_ok-from.ensures.1)
    (range-drop _ c.in_ok-from.from ∙ ap (drop c.in_ok-from.from) c.as_slice-2.ensures) it.sound.ups_len

pub returns : goal.returns
returns c = λ keys parents h.
    let it = c.args.self.now in
    let members = it.members.items in
    let found : (c.in-Some.of < length members) × (get_or members c.in-Some.of 0 ≡ c.args.key) =
    subst (λ (z : List ℕ). (c.in-Some.of < length z) × (get_or z c.in-Some.of 0 ≡ c.args.key)) c.as_slice.ensures.value c.in-Some.ensures.found in
    subst (IsRisingListOf (IsDescendant keys parents c.args.key c.args.level)) (sym c.from_vec.ensures)
    (descendants-all keys parents it h c.in-Some.of c.args.key found.0 found.1 c.args.level c.in_ok-from.from c.find_below.new.found c.in_ok-keys.keys.items c.risen.result.items
    c.in_ok-from.ensures.1
    (c.in_ok-keys.ensures ∙ ap (map (λ m. get_or members m 0)) (range-drop _ c.in_ok-from.from ∙ ap (drop c.in_ok-from.from) c.as_slice-2.ensures))
    c.risen.ensures.rising)
