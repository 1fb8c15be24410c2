-- Digit by digit.
use Rattle.std.proofs.Common.{◌≢◌, ◌++◌, ap, arith, drop, length, sym}
use Rattle.hashed_layout.proofs.KeyLemmas.{digit-met, digit-missed, digits-next, no-digits-left}
use Rattle.hashed_layout.proofs.key_bytes.digits_met.Goals as goal
use Rattle.hashed_layout.proofs.key_bytes.digits_met.Goals.{then-count-bytes-via-then-count-bytes, then-count-bytes-via-else-count-bytes+then-bytes-count}

pub returns-then-count-bytes : goal.returns-then-count-bytes
returns-then-count-bytes c = λ rest e.
    let l = c.loop-left in
    let some : l.left ≢ 0 = λ none. omega (arith, none, c.loop-left-test.true) in
    let missed = digit-missed c.args.bytes.now l.count l.left some (λ within. elim c.then-count-bytes.branch [
      | then-count-bytes-via-then-count-bytes w ↦ absurd (omega (arith, within, w.if-count-bytes))
      | then-count-bytes-via-else-count-bytes+then-bytes-count w ↦ w.if-bytes-count.true
    ]) in
    missed rest ((l.invariant.moved rest).0 e)

pub loop-left-preserved : goal.loop-left-preserved
loop-left-preserved c =
    let l = c.loop-left in
    let some : l.left ≢ 0 = λ none. omega (arith, none, c.loop-left-test.true) in
    let met = digit-met c.args.bytes.now l.count l.left (omega (arith, c.if-count-bytes.false)) c.if-bytes-count.false some in
    let next = ap length (digits-next l.left some) in
    record {
      within = omega (arith, c.if-count-bytes.false);
      long = omega (arith, next, l.invariant.long);
      moved = λ rest. (λ e. (met rest).0 ((l.invariant.moved rest).0 e), λ e. (l.invariant.moved rest).1 ((met rest).1 e));
    }

pub returns : goal.returns
returns c =
    let l = c.loop-left in
    let none = no-digits-left l.left (omega (arith, c.loop-left-test.false)) in
    let no-more = ap length none in
    (omega (arith, l.invariant.long, no-more), (l.invariant.moved _).1 (sym (ap (λ ds. ds ++ drop l.count c.args.bytes.now) none)))
