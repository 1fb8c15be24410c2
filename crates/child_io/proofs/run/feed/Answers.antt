use Rattle.std.proofs.Common.{arith, refl, ◌∙◌}
use Rattle.dict_io.proofs.Known.{tail-drop}
use Rattle.child_io.proofs.Feeds.{feed-next, feed-failed, feed-done, feed-fresh}
use Rattle.child_io.proofs.Histories.{writing-none, writing-next, writing-failed, writing-done}
use Rattle.child_io.proofs.run.feed.Goals as goal

pub loop-done-init : goal.loop-done-init
loop-done-init g c = record { still = refl; ended = refl; within = omega arith; told = λ s e. feed-fresh s _ _ e; calls = writing-none g.C.Child.history c.args.child.now c.args.input.now }

pub loop-done-preserved : goal.loop-done-preserved
loop-done-preserved g c = record {
  still = c.write.ensures.cause.still (λ e. cc) ∙ c.loop-done.invariant.still;
  ended = c.write.ensures.ended ∙ c.loop-done.invariant.ended;
  within = omega (arith, c.in-Bytes.ensures.bound);
  told = λ s e. feed-next s _ c.loop-done.done c.in-Bytes.count _ _ c.loop-done-test.true (c.loop-done.invariant.told s e) (rw tail-drop at c.in-Bytes.ensures.told);
  calls = writing-next g.C.Child.history c.args.child.now c.loop-done.child c.write.new.self c.args.input.now c.loop-done.done c.in-Bytes.count c.loop-done.invariant.calls (rw tail-drop at c.in-Bytes.ensures.history);
}

pub returns-in-Failed-clause-told : goal.returns-in-Failed-clause-told
returns-in-Failed-clause-told g c = λ s e. feed-failed s _ c.loop-done.done _ _ c.loop-done-test.true (c.loop-done.invariant.told s e) (rw tail-drop at c.in-Failed.ensures.told)

pub returns-in-Failed-clause-calls : goal.returns-in-Failed-clause-calls
returns-in-Failed-clause-calls g c = writing-failed g.C.Child.history c.args.child.now c.loop-done.child c.write.new.self c.args.input.now c.loop-done.done _ c.loop-done.invariant.calls c.in-Failed.ensures.history

pub returns-clause-told : goal.returns-clause-told
returns-clause-told g c = λ s e. feed-done s _ c.loop-done.done _ (omega arith) (c.loop-done.invariant.told s e)

pub returns-clause-calls : goal.returns-clause-calls
returns-clause-calls g c = writing-done g.C.Child.history c.args.child.now c.loop-done.child c.args.input.now c.loop-done.done (omega arith) c.loop-done.invariant.calls
