use Rattle.std.proofs.Common.{length, subst, ◌≡◌, refl, arith}
use Rattle.dict_schema.proofs.KeyPlaces.{IsSeen, key-at, key-not-at, seen-first, seen-other, seen-twice, seen-never}
use Rattle.dict_schema.proofs.keys.is_key_twice.Goals as goal
use Rattle.dict_schema.proofs.keys.is_key_twice.Goals.{then-from-place+else-seen, else-from-place}

pub returns-then-seen : goal.returns-then-seen
returns-then-seen c =
    let here = key-at c.args.keys.now c.loop-key.key-index c.from.result c.args.place c.loop-key-test.true c.from.ensures c.if-from-place.true in
    (λ _. seen-twice c.args.keys.now c.args.place c.loop-key.key-index c.loop-key.seen c.loop-key.invariant c.if-seen.true here, λ _. refl)

pub loop-key-preserved : goal.loop-key-preserved
loop-key-preserved c = elim c.if-from-place.branch [
  | then-from-place+else-seen w ↦ seen-first c.args.keys.now c.args.place c.loop-key.key-index c.loop-key.seen c.if-from-place.seen c.loop-key.invariant w.if-seen.false (key-at c.args.keys.now c.loop-key.key-index c.from.result c.args.place c.loop-key-test.true c.from.ensures w.if-from-place.true) w.seen-is
  | else-from-place w ↦ seen-other c.args.keys.now c.args.place c.loop-key.key-index c.loop-key.seen c.if-from-place.seen c.loop-key.invariant (key-not-at c.args.keys.now c.loop-key.key-index c.from.result c.args.place c.loop-key-test.true c.from.ensures w.if-from-place.false) w.seen-is
]

pub returns : goal.returns
returns c =
    let end : c.loop-key.key-index ≡ length c.args.keys.now = omega arith in
    (λ false_one. absurd (cc false_one), λ twice. absurd (seen-never c.args.keys.now c.args.place c.loop-key.seen (subst (λ i. IsSeen c.args.keys.now c.args.place i c.loop-key.seen) end c.loop-key.invariant) twice))
