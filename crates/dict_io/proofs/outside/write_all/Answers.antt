use Rattle.std.proofs.Common.{◌∙◌, arith}
use Rattle.dict_io.proofs.Known.{append_known-step, tail-drop}
use Rattle.dict_io.proofs.outside.write_all.Goals as goal

pub loop-done-preserved : goal.loop-done-preserved
loop-done-preserved g c = record {
  within = omega (arith, c.in-Bytes.ensures.bound);
  bytes = append_known-step _ _ _ c.args.piece.now c.loop-done.done c.in-Bytes.count c.loop-done.invariant.bytes (rw tail-drop at c.in-Bytes.ensures.bytes);
  still = c.write.ensures.cause.still (λ e. cc) ∙ c.loop-done.invariant.still;
  kept = c.write.ensures.kept ∙ c.loop-done.invariant.kept;
}
