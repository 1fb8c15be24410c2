-- A digit more, and none left.
use Rattle.std.proofs.Common.{◌≡◌, ◌<◌, ◌+◌, ◌%◌, arith, length-set, ◌∙◌}
use Rattle.hashed_layout.proofs.KeyLemmas.{head-done, head-more}
use Rattle.hashed_layout.proofs.key_bytes.head_from.Goals as goal
use Rattle.hashed_layout.proofs.key_bytes.head_from.Goals.{then-loop-size-test+else-rest-gt0, else-loop-size-test}

pub loop-size-preserved : goal.loop-size-preserved
loop-size-preserved c =
    let l = c.loop-size in
    record {
      len = length-set l.bytes (l.size + 2) (l.rest % 256) ∙ l.invariant.len;
      most = omega arith;
      digits = head-more l.bytes l.size l.rest _ (omega arith) l.invariant.len (λ e. omega (arith, e, c.if-rest-gt0.true)) l.invariant.digits;
    }

pub returns-clause-bytes : goal.returns-clause-bytes
returns-clause-bytes c =
    let l = c.loop-size in
    let done : l.size < 16 → l.rest ≡ 0 = λ less. elim c.loop-size-test.branch [
      | then-loop-size-test+else-rest-gt0 w ↦ omega (arith, w.if-rest-gt0)
      | else-loop-size-test w ↦ absurd (omega (arith, w.loop-size-test, less))
    ] in
    head-done l.bytes l.size l.rest c.args.kind _ (l.invariant.most) l.invariant.len done l.invariant.digits
