use Rattle.std.proofs.Common.{◌≡◌, ◌<◌, ◌+◌, ◌∙◌, ◌++◌, ◌∷◌, [], List, Some, ap, sym, subst, arith, get_or, slice_get, length, true, false}
use Rattle.std.proofs.lemmas.List.{length_push}
use Rattle.std.proofs.lemmas.Option.{slice_get-get_or}
use Rattle.dict_value.specs.declared.value.Value.{Value}
use Rattle.packed_rows.specs.Packs.{Building}
use Rattle.overlay.specs.steps.Standing.{IsBetween, StandTo}
use Rattle.overlay.proofs.Standing.{added, between-added, first-front, get-front, stand-more, stand-skip, with_row}
use Rattle.overlay.proofs.laying.push_new.Goals as goal
use Rattle.overlay.proofs.laying.push_new.Goals.{then-is_first+in_ok-push_row, else-is_first}

pub loop-place-preserved : goal.loop-place-preserved
loop-place-preserved c =
    let rows = c.args.rows.now in
    let keys = c.args.keys.now in
    let place = c.loop-place.place in
    let old = c.loop-place.out in
    let within : place < length rows = omega (arith, c.loop-place-test.true, c.len-place-end.ensures) in
    let keyed : place < length keys = omega (arith, within, c.requires.keys) in
    elim c.if-is_first.branch [
      | then-is_first+in_ok-push_row w ↦ (let row : List Value = get_or rows place [] in
          let at : slice_get rows place ≡ Some row = slice_get-get_or rows place [] within in
          let e : c.if-is_first.out ≡ with_row old row = w.out-is ∙ added old w.push_row.new.out rows place row at w.in_ok-push_row.ensures in
          let list : c.if-is_first.out.rows ≡ old.rows ++ row ∷ [] = ap (λ (b : Building). b.rows) e in record {
            between = between-added c.args.types.now old c.if-is_first.out row c.loop-place.invariant.between e;
            few = omega (arith, ap length list, length_push old.rows row, c.loop-place.invariant.few);
            stand = λ later more. subst (StandTo (keys ++ later) (rows ++ more) (place + 1)) (sym list)
                (stand-more (keys ++ later) (rows ++ more) place old.rows (c.loop-place.invariant.stand later more) row ((first-front keys later place keyed).1 (c.is_first.ensures.0 w.if-is_first.true)) (get-front rows more place within ∙ at));
          })
      | else-is_first w ↦ (let list : c.if-is_first.out.rows ≡ old.rows = ap (λ (b : Building). b.rows) w.out-is in record {
        between = subst (IsBetween c.args.types.now) (sym w.out-is) c.loop-place.invariant.between;
        few = omega (arith, ap length list, c.loop-place.invariant.few);
        stand = λ later more. subst (StandTo (keys ++ later) (rows ++ more) (place + 1)) (sym list)
            (stand-skip (keys ++ later) (rows ++ more) place old.rows (c.loop-place.invariant.stand later more) (λ first. let had : c.is_first.result ≡ true = c.is_first.ensures.1 ((first-front keys later place keyed).0 first) in
            let wrong : false ≡ true = sym w.if-is_first.false ∙ had in cc));
      })
    ]
