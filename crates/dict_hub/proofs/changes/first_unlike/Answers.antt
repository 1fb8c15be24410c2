use Rattle.std.proofs.Common.{length, arith, refl}
use Rattle.std.proofs.lemmas.Option.{slice_get_read}
use Rattle.dict_hub.proofs.Unlike.{one-more}
use Rattle.dict_hub.proofs.changes.first_unlike.Goals as goal

pub loop-place-preserved : goal.loop-place-preserved
loop-place-preserved c = record {
  within = omega (arith, c.if-place-others.false);
  before = one-more c.args.items.now c.args.others.now c.loop-place.place c.index-items-place.result c.index-others-place.result
      (slice_get_read c.args.items.now (length c.args.items.now) c.loop-place.place c.index-items-place.result refl (omega (arith, c.loop-place-test.true)) c.index-items-place.is)
      (slice_get_read c.args.others.now (length c.args.others.now) c.loop-place.place c.index-others-place.result refl c.if-place-others.false c.index-others-place.is)
      c.loop-place.invariant.before (c.if-not-stands.ensures.0 refl);
}
