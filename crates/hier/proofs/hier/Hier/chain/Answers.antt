-- The members of a chain.
use Rattle.std.specs.Prelude.{Contains}
use Rattle.std.specs.List.Sorted.{IsStrictlyIncreasing}
use Rattle.std.proofs.Common.{◌≡◌, ◌<◌, ◌∷◌, [], ◌++◌, ◌∙◌, ℕ, List, length, get_or, ap, arith, subst, sym}
use Rattle.hier.specs.Hierarchy.{IsChain}
use Rattle.hier.proofs.Above.{above-none, walk-next, walk-within}
use Rattle.hier.proofs.ChainMembers.{chain-is, no-chain, walk_keys, walk_keys-more}
use Rattle.hier.proofs.Lists.{number-read}
use Rattle.hier.proofs.hier.Hier.chain.Goals as goal
use Rattle.hier.proofs.hier.Hier.chain.Goals.{then-place-length, else-place-length}

pub returns-in_default : goal.returns-in_default
returns-in_default c = λ keys parents h.
    let other = subst (λ (z : List ℕ). IsStrictlyIncreasing z → ¬ (Contains z c.args.key)) c.as_slice.ensures.value c.in_default.ensures.none in
    no-chain keys parents c.args.self.now h c.args.key c.new.result (other h.rising) c.new.ensures

pub loop-place-init : goal.loop-place-init
loop-place-init c = record {
  at = λ l. sym (above-none c.args.self.now.ups.items c.in-Some.start);
  keys = c.in_ok-chain.ensures;
}

pub index-requires : goal.index-requires
index-requires c =
    let it = c.args.self.now in
    let inside : c.in-Some.start < length it.members.items = subst (λ (z : List ℕ). c.in-Some.start < length z) c.as_slice.ensures.value c.in-Some.ensures.found.0 in
    let within = walk-within it.members.items it.ups.items it.lengths.items it.firsts.items it.nexts.items it.sound c.in-Some.start c.loop-place.at c.loop-place.place _ inside c.index-length.ensures c.loop-place-test.true (c.loop-place.invariant.at c.loop-place-test.true) in
    omega (arith, within)

pub loop-place-preserved : goal.loop-place-preserved
loop-place-preserved c =
    let it = c.args.self.now in
    let members = it.members.items in
    let at = c.loop-place.invariant.at c.loop-place-test.true in
    let inside : c.in-Some.start < length members = subst (λ (z : List ℕ). c.in-Some.start < length z) c.as_slice.ensures.value c.in-Some.ensures.found.0 in
    let within = walk-within members it.ups.items it.lengths.items it.firsts.items it.nexts.items it.sound c.in-Some.start c.loop-place.at c.loop-place.place _ inside c.index-length.ensures c.loop-place-test.true at in
    let read = number-read members c.loop-place.at c.index.result.now within c.index.ensures in
    record {
      at = λ l. elim c.if-place-length.branch [
        | then-place-length w ↦ w.at-is ∙ walk-next members it.ups.items it.lengths.items it.firsts.items it.nexts.items it.sound c.in-Some.start c.loop-place.at c.loop-place.place _ within w.index-then-place-length.ensures at
        | else-place-length w ↦ absurd (let most = w.if-place-length.false in omega (arith, most, l))
      ];
      keys = c.in_ok-push.ensures.ok
          ∙ (ap (λ (z : List ℕ). z ++ c.index.result.now ∷ []) c.loop-place.invariant.keys
          ∙ (ap (λ x. walk_keys members it.ups.items c.in-Some.start c.loop-place.place ++ x ∷ []) (sym read)
          ∙ sym (walk_keys-more members it.ups.items c.in-Some.start c.loop-place.at c.loop-place.place at)));
    }

pub returns : goal.returns
returns c = λ keys parents h.
    let it = c.args.self.now in
    let members = it.members.items in
    let found : (c.in-Some.start < length members) × (get_or members c.in-Some.start 0 ≡ c.args.key) =
    subst (λ (z : List ℕ). (c.in-Some.start < length z) × (get_or z c.in-Some.start 0 ≡ c.args.key)) c.as_slice.ensures.value c.in-Some.ensures.found in
    let len = number-read it.lengths.items c.in-Some.start c.index-length.result.now (let l = it.sound.lengths_len in let i = found.0 in omega (arith, l, i)) c.index-length.ensures in
    let all : c.loop-place.place ≡ get_or it.lengths.items c.in-Some.start 0 = omega (arith, len) in
    subst (λ k. IsChain keys parents k c.loop-place.chain) found.1
    (subst (IsChain keys parents (get_or members c.in-Some.start 0)) (sym (c.loop-place.invariant.keys ∙ ap (walk_keys members it.ups.items c.in-Some.start) all))
    (chain-is keys parents it h c.in-Some.start found.0))
