-- The members of a chain, one by one.
use Rattle.std.specs.Prelude.{Contains}
use Rattle.std.specs.List.Sorted.{IsStrictlyIncreasing}
use Rattle.std.proofs.Common.{◌≡◌, ◌<◌, ◌∙◌, ℕ, List, length, get_or, ap, arith, subst, sym, below_more, rules}
use Rattle.hier.specs.Hierarchy.{IsIn}
use Rattle.hier.proofs.Above.{above-none, walk-next, walk-within}
use Rattle.hier.proofs.ChainMembers.{in-from, in-none, in-to}
use Rattle.hier.proofs.Lists.{number-read}
use Rattle.hier.proofs.hier.Hier.is_in.Goals as goal
use Rattle.hier.proofs.hier.Hier.is_in.Goals.{then-place-length, else-place-length}

pub returns-in_default : goal.returns-in_default
returns-in_default c = λ keys parents h.
    let other = subst (λ (z : List ℕ). IsStrictlyIncreasing z → ¬ (Contains z c.args.key)) c.as_slice.ensures.value c.in_default.ensures.none in
    (λ t. absurd (search rules), λ has. absurd (in-none keys parents c.args.self.now h c.args.key c.args.ancestor (other h.rising) has))

pub loop-place-init : goal.loop-place-init
loop-place-init c = record {
  at = λ l. sym (above-none c.args.self.now.ups.items c.in-Some.start);
  others = λ i l. absurd (omega (arith, l));
}

pub index-requires : goal.index-requires
index-requires c =
    let it = c.args.self.now in
    let inside : c.in-Some.start < length it.members.items = subst (λ (z : List ℕ). c.in-Some.start < length z) c.as_slice.ensures.value c.in-Some.ensures.found.0 in
    let within = walk-within it.members.items it.ups.items it.lengths.items it.firsts.items it.nexts.items it.sound c.in-Some.start c.loop-place.at c.loop-place.place _ inside c.index-length.ensures c.loop-place-test.true (c.loop-place.invariant.at c.loop-place-test.true) in
    omega (arith, within)

pub returns-then-index-ancestor : goal.returns-then-index-ancestor
returns-then-index-ancestor c = λ keys parents h.
    let it = c.args.self.now in
    let members = it.members.items in
    let at = c.loop-place.invariant.at c.loop-place-test.true in
    let found : (c.in-Some.start < length members) × (get_or members c.in-Some.start 0 ≡ c.args.key) =
    subst (λ (z : List ℕ). (c.in-Some.start < length z) × (get_or z c.in-Some.start 0 ≡ c.args.key)) c.as_slice.ensures.value c.in-Some.ensures.found in
    let within = walk-within members it.ups.items it.lengths.items it.firsts.items it.nexts.items it.sound c.in-Some.start c.loop-place.at c.loop-place.place _ found.0 c.index-length.ensures c.loop-place-test.true at in
    let len = number-read it.lengths.items c.in-Some.start c.index-length.result.now (let l = it.sound.lengths_len in let i = found.0 in omega (arith, l, i)) c.index-length.ensures in
    let read = number-read members c.loop-place.at c.index.result.now within c.index.ensures in
    let has = in-from keys parents it h c.in-Some.start found.0 c.args.ancestor c.loop-place.place (let t = c.loop-place-test.true in omega (arith, len, t))
    (ap (λ m. get_or members m 0) (sym at) ∙ (read ∙ c.if-index-ancestor.true)) in
    (λ t. subst (λ k. IsIn keys parents k c.args.ancestor) found.1 has, λ t. search rules)

pub loop-place-preserved : goal.loop-place-preserved
loop-place-preserved c =
    let it = c.args.self.now in
    let members = it.members.items in
    let at = c.loop-place.invariant.at c.loop-place-test.true in
    let inside : c.in-Some.start < length members = subst (λ (z : List ℕ). c.in-Some.start < length z) c.as_slice.ensures.value c.in-Some.ensures.found.0 in
    let within = walk-within members it.ups.items it.lengths.items it.firsts.items it.nexts.items it.sound c.in-Some.start c.loop-place.at c.loop-place.place _ inside c.index-length.ensures c.loop-place-test.true at in
    let read = number-read members c.loop-place.at c.index.result.now within c.index.ensures in
    record {
      at = λ l. elim c.if-place-length.branch [
        | then-place-length w ↦ w.at-is ∙ walk-next members it.ups.items it.lengths.items it.firsts.items it.nexts.items it.sound c.in-Some.start c.loop-place.at c.loop-place.place _ within w.index-then-place-length.ensures at
        | else-place-length w ↦ absurd (let most = w.if-place-length.false in omega (arith, most, l))
      ];
      others = below_more _ _ c.loop-place.invariant.others (λ e. c.if-index-ancestor.false (sym read ∙ (ap (λ m. get_or members m 0) at ∙ e)));
    }

pub returns : goal.returns
returns c = λ keys parents h.
    let it = c.args.self.now in
    let members = it.members.items in
    let found : (c.in-Some.start < length members) × (get_or members c.in-Some.start 0 ≡ c.args.key) =
    subst (λ (z : List ℕ). (c.in-Some.start < length z) × (get_or z c.in-Some.start 0 ≡ c.args.key)) c.as_slice.ensures.value c.in-Some.ensures.found in
    let len = number-read it.lengths.items c.in-Some.start c.index-length.result.now (let l = it.sound.lengths_len in let i = found.0 in omega (arith, l, i)) c.index-length.ensures in (
      λ t. absurd (search rules),
      λ has.
          let place = in-to keys parents it h c.in-Some.start found.0 c.args.ancestor (subst (λ k. IsIn keys parents k c.args.ancestor) (sym found.1) has) in
          absurd (c.loop-place.invariant.others place.0 (let q = place.1 in let t = c.loop-place-test.false in omega (arith, q, len, t)) place.2),
    )
