-- A member is put before those below its parent.
use Rattle.std.proofs.Common.{◌≡◌, ◌<◌, ◌+◌, ◌-◌, ◌∙◌, length, get_or, arith, length-set, subst, sym}
use Rattle.hier.specs.Members.{TellsNext}
use Rattle.hier.proofs.Lists.{number-read}
use Rattle.hier.proofs.Nexts.{firsts-put, nexts-put}
use Rattle.hier.proofs.below.below_of.Goals as goal

pub loop-left-preserved-then-ups-left-ne0 : goal.loop-left-preserved-then-ups-left-ne0
loop-left-preserved-then-ups-left-ne0 c =
    let ups = c.args.ups.now in
    let l = c.loop-left in
    let s = l.left - 1 in
    let up = get_or ups s 0 - 1 in
    let is : l.left ≡ s + 1 = omega arith in
    let most = c.requires.up s in
    let here : get_or ups s 0 ≡ up + 1 = let some = c.if-ups-left-ne0.true in omega arith in
    let within : up < length ups = omega (arith, most, here) in
    let read : get_or l.firsts.items up 0 ≡ c.index.result.now = number-read l.firsts.items up _ (let e = l.invariant.firsts_len in omega (arith, e, within)) c.index.ensures in
    let told : TellsNext ups l.left (get_or ups s 0) c.index.result.now =
    subst (λ k. TellsNext ups l.left k c.index.result.now) (sym here) (subst (TellsNext ups l.left (up + 1)) read (l.invariant.first up within)) in
    record {
      firsts_len = length-set l.firsts.items up (s + 1) ∙ l.invariant.firsts_len;
      nexts_len = length-set l.nexts.items s c.index.result.now ∙ l.invariant.nexts_len;
      left = omega arith;
      first = firsts-put ups l.firsts.items l.left s up is (omega arith) here l.invariant.firsts_len l.invariant.first;
      next = nexts-put ups l.nexts.items l.left s c.index.result.now is (omega arith) l.invariant.nexts_len told l.invariant.next;
    }
