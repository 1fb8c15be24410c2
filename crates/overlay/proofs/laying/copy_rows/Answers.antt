use Rattle.std.proofs.Common.{◌≡◌, ◌<◌, ◌∙◌, ◌++◌, ◌∷◌, [], List, Some, ap, sym, arith, get_or, length, slice_get}
use Rattle.std.proofs.lemmas.Option.{slice_get-get_or}
use Rattle.dict_value.specs.declared.value.Value.{Value}
use Rattle.packed_rows.specs.Packs.{Building}
use Rattle.overlay.proofs.Standing.{added, between-added, take-more-at, with_row}
use Rattle.overlay.proofs.laying.copy_rows.Goals as goal

pub loop-place-preserved : goal.loop-place-preserved
loop-place-preserved c =
    let rows = c.args.rows.now in
    let place = c.loop-place.place in
    let old = c.loop-place.out in
    let within : place < length rows = omega (arith, c.loop-place-test.true, c.len-place-end.ensures) in
    let row : List Value = get_or rows place [] in
    let at : slice_get rows place ≡ Some row = slice_get-get_or rows place [] within in
    let e : c.push_row.new.out ≡ with_row old row = added old c.push_row.new.out rows place row at c.in_ok-push_row.ensures in
    record {
      between = between-added c.args.types.now old c.push_row.new.out row c.loop-place.invariant.between e;
      rows = ap (λ (b : Building). b.rows) e ∙ ap (λ l. l ++ row ∷ []) c.loop-place.invariant.rows ∙ sym (take-more-at rows place row at);
    }
