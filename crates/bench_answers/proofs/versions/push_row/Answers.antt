use Rattle.std.proofs.Common.{◌∷◌, [], ◌∙◌, ap, arith, length, length-append}
use Rattle.std.proofs.lemmas.Option.{slice_get-get_or}
use Rattle.dict_value.specs.Values.{FitsColumn}
use Rattle.dict_version.proofs.RowCells.{zip_more}
use Rattle.bench_answers.proofs.versions.push_row.Goals as goal

pub loop-place-preserved : goal.loop-place-preserved
loop-place-preserved c =
    let pushed = c.in_ok-push_fitting.ensures in
    let so_far = c.loop-place.invariant in
    let long = ap length pushed.open ∙ length-append c.loop-place.rows.open_row (_ ∷ []) in
    record {
      types = pushed.types ∙ so_far.types;
      place = omega (arith, long, so_far.place);
      same = pushed.rows ∙ so_far.same;
      fit = rw pushed.open
          (zip_more FitsColumn c.args.types.now c.loop-place.rows.open_row c.loop-place.place _ _
          (slice_get-get_or c.args.types.now c.loop-place.place _ (omega arith)) so_far.fit pushed.fits);
    }
