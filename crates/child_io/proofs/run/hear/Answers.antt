use Rattle.std.proofs.Common.{◌≡◌, length, take, true, false, arith, ◌∙◌, refl}
use Rattle.child_io.specs.Calls.{read_gave, read_ended, read_failed, read_timed_out, wait_gave, wait_failed}
use Rattle.child_io.specs.declared.pieces.PieceEnd.TheVariants.{Cut, TooLong, WaitFailed, Ended}
use Rattle.child_io.specs.steps.Heard.{HearCalls}
use Rattle.child_io.proofs.Hears.{exit-long, exit-ended, exit-wait, exit-failed, exit-timed_out, handed-none, handed-next, heard-of, long-piece}
use Rattle.child_io.proofs.Histories.{Reading, reading-none, reading-next, reading-ends, reading-waits}
use Rattle.child_io.proofs.run.hear.Goals as goal

pub loop-count-init : goal.loop-count-init
loop-count-init g c =
    let closed : g.C.Child.closed c.args.child.now ≡ true = search c.requires.closed in
    record {
      still = refl;
      closed = closed;
      opened = c.requires.open;
      kept = refl;
      room = refl;
      within = omega arith;
      handed = handed-none _ (Reading g.C.Child.history c.args.child.now c.args.read_ms c.args.child.now) _ _ c.requires.unheard (reading-none g.C.Child.history c.args.child.now c.args.read_ms);
    }

pub loop-count-preserved : goal.loop-count-preserved
loop-count-preserved g c =
    let i = c.loop-count.invariant in
    let room : length c.read.new.buf ≡ 65536 = omega (arith, c.read.auto.buf, i.room) in
    record {
      still = c.read.ensures.cause.still (λ f. rw c.in-Bytes.is at f) ∙ i.still;
      closed = c.read.ensures.closed ∙ i.closed;
      opened = c.in-Bytes.ensures.ended;
      kept = c.take.ensures.kept ∙ i.kept;
      room = room;
      within = omega (arith, i.within);
      handed = handed-next _ _ (Reading g.C.Child.history c.args.child.now c.args.read_ms c.loop-count.child) (Reading g.C.Child.history c.args.child.now c.args.read_ms c.read.new.self)
          _ _ _ _ _ _ _ (omega (arith, c.ranges.limit.fits)) room c.in-Bytes.ensures.bound.0 c.in-Bytes.ensures.bound.1 i.within (omega arith) i.handed (rw i.closed at c.in-Bytes.ensures.told) c.take.ensures.took
          (reading-next g.C.Child.history c.args.child.now c.loop-count.child c.read.new.self c.args.read_ms (take c.in-Bytes.count c.read.new.buf) c.in-Bytes.ensures.history);
    }

pub returns-then-count-limit-clause-heard : goal.returns-then-count-limit-clause-heard
returns-then-count-limit-clause-heard g c =
    let i = c.loop-count.invariant in
    let h = i.handed in
    let room : length c.read.new.buf ≡ 65536 = omega (arith, c.read.auto.buf, i.room) in
    let piece = take c.in-Bytes.count c.read.new.buf in
    heard-of _ (Reading g.C.Child.history c.args.child.now c.args.read_ms c.loop-count.child) (HearCalls g.C.Child.history c.args.child.now c.args.limit c.args.read_ms TooLong c.read.new.self) _ _ _ _ _ i.within h
    (reading-ends g.C.Child.history c.args.child.now c.loop-count.child c.read.new.self c.args.limit c.args.read_ms TooLong (read_gave c.args.read_ms piece) h.pieces c.in-Bytes.ensures.history
    (piece, long-piece c.args.limit c.loop-count.total c.in-Bytes.count h.pieces c.read.new.buf h.size i.within c.in-Bytes.ensures.bound.1 (omega arith), refl))
    (λ t since. exit-long _ t _ _ _ _ _ room since (rw i.closed at c.in-Bytes.ensures.told) (omega (arith, h.size, i.within)) (omega (arith, h.size)))

pub returns-in-Ok-clause-heard : goal.returns-in-Ok-clause-heard
returns-in-Ok-clause-heard g c =
    let i = c.loop-count.invariant in
    heard-of _ (Reading g.C.Child.history c.args.child.now c.args.read_ms c.loop-count.child) (HearCalls g.C.Child.history c.args.child.now c.args.limit c.args.read_ms (Ended c.in-Ok.exit) c.wait.new.self) _ _ _ _ _ i.within i.handed
    (reading-waits g.C.Child.history c.args.child.now c.loop-count.child c.read.new.self c.wait.new.self c.args.limit c.args.read_ms (Ended c.in-Ok.exit) (read_ended c.args.read_ms) (wait_gave c.in-Ok.exit) i.handed.pieces c.in-End.ensures.history c.in-Ok.ensures.history refl)
    (λ t since. exit-ended _ t _ _ _ _ _ (omega (arith, c.read.auto.buf, i.room)) since (rw i.closed at c.in-End.ensures.told) c.in-Ok.ensures.exit)

pub returns-in-Err-clause-heard : goal.returns-in-Err-clause-heard
returns-in-Err-clause-heard g c =
    let i = c.loop-count.invariant in
    heard-of _ (Reading g.C.Child.history c.args.child.now c.args.read_ms c.loop-count.child) (HearCalls g.C.Child.history c.args.child.now c.args.limit c.args.read_ms WaitFailed c.wait.new.self) _ _ _ _ _ i.within i.handed
    (reading-waits g.C.Child.history c.args.child.now c.loop-count.child c.read.new.self c.wait.new.self c.args.limit c.args.read_ms WaitFailed (read_ended c.args.read_ms) wait_failed i.handed.pieces c.in-End.ensures.history c.in-Err.ensures.history refl)
    (λ t since. exit-wait _ t _ _ _ _ _ (omega (arith, c.read.auto.buf, i.room)) since (rw i.closed at c.in-End.ensures.told) c.in-Err.ensures.exit)

pub returns-in-Failed-clause-heard : goal.returns-in-Failed-clause-heard
returns-in-Failed-clause-heard g c =
    let i = c.loop-count.invariant in
    heard-of _ (Reading g.C.Child.history c.args.child.now c.args.read_ms c.loop-count.child) (HearCalls g.C.Child.history c.args.child.now c.args.limit c.args.read_ms (Cut false) c.read.new.self) _ _ _ _ _ i.within i.handed
    (reading-ends g.C.Child.history c.args.child.now c.loop-count.child c.read.new.self c.args.limit c.args.read_ms (Cut false) (read_failed c.args.read_ms) i.handed.pieces c.in-Failed.ensures.history refl)
    (λ t since. exit-failed _ t _ _ _ _ (omega (arith, c.read.auto.buf, i.room)) since (rw i.closed at c.in-Failed.ensures.told))

pub returns-in-TimedOut-clause-heard : goal.returns-in-TimedOut-clause-heard
returns-in-TimedOut-clause-heard g c =
    let i = c.loop-count.invariant in
    heard-of _ (Reading g.C.Child.history c.args.child.now c.args.read_ms c.loop-count.child) (HearCalls g.C.Child.history c.args.child.now c.args.limit c.args.read_ms (Cut true) c.read.new.self) _ _ _ _ _ i.within i.handed
    (reading-ends g.C.Child.history c.args.child.now c.loop-count.child c.read.new.self c.args.limit c.args.read_ms (Cut true) (read_timed_out c.args.read_ms) i.handed.pieces c.in-TimedOut.ensures.history refl)
    (λ t since. exit-timed_out _ t _ _ _ _ (omega (arith, c.read.auto.buf, i.room)) since (rw i.closed at c.in-TimedOut.ensures.told))
